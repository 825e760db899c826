use Rattle.std.proofs.Common.{◌≡◌, ◌++◌, drop, map}
use Rattle.mc_term_data.specs.Plain.{plain_term, term_list}
use Rattle.mc_modules.specs.Kept.{plain_item_in_file}
use Rattle.mc_modules.specs.Linked.{constructors}
use Rattle.mc_names.specs.Linked.{plain_named}
use Rattle.mc_modules.proofs.named.put_constructors.Given as goal

abbrev pub invariant-loop-term : goal.invariant-loop-term
invariant-loop-term l =
    map plain_named l.symbols.items ++ constructors l.«module» (plain_item_in_file l.item) (plain_term l.head) (term_list (map plain_term (drop l.term-index l.terms)))
    ≡ map plain_named l.fn.symbols.items ++ constructors l.«module» (plain_item_in_file l.item) (plain_term l.head) (term_list (map plain_term l.terms))
