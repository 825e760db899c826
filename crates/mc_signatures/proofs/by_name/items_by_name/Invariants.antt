use Rattle.std.proofs.Common.{◌≡◌, ◌++◌, ℕ, List, map, drop}
use Rattle.mc_decl_syntax.specs.Entries.{plain_entry}
use Rattle.mc_names.specs.code.Index.{listed}
use Rattle.mc_signatures.specs.code.ByName.{items_kept, of_name}
use Rattle.mc_signatures.proofs.by_name.items_by_name.Given as goal

abbrev pub invariant-loop-entry : goal.invariant-loop-entry
invariant-loop-entry l =
    (w : List ℕ)
    → listed (items_kept l.index) w ++ of_name w (map plain_entry (drop l.entry-index l.entries)) ≡ of_name w (map plain_entry l.entries)
