use Rattle.std.proofs.Common.{◌≡◌, ◌++◌, map, drop}
use Rattle.mc_term_data.specs.Plain.{plain_term, term_list}
use Rattle.mc_program.specs.PlainPrograms.{plain_symbol}
use Rattle.mc_names.specs.Linked.{plain_names}
use Rattle.mc_type_table.specs.Held.{held}
use Rattle.mc_declarations.specs.code.With.{constructors_of}
use Rattle.mc_declarations.proofs.constructors.put_of_union.Given as goal

abbrev pub invariant-loop-term : goal.invariant-loop-term
invariant-loop-term l =
    map plain_symbol l.all.items
    ++ constructors_of (plain_names l.at.names.now) (held l.at.definitions.now)
    l.union.within.now l.union.number l.union.own l.union.parameters.now
    (term_list (map plain_term (drop l.term-index l.terms)))
    ≡ map plain_symbol l.initial.all.items
    ++ constructors_of (plain_names l.at.names.now) (held l.at.definitions.now)
    l.union.within.now l.union.number l.union.own l.union.parameters.now
    (term_list (map plain_term l.terms))
