use Rattle.std.proofs.Common.{[], drop, map}
use Rattle.mc_term_data.specs.Plain.{plain_term}
use Rattle.mc_clauses.specs.Variables.{Met}
use Rattle.mc_clauses.specs.code.Meanings.{Knows}
use Rattle.mc_declarations.specs.code.Walking.{Taken}
use Rattle.mc_declarations.proofs.declared.+declared.Given as goal

abbrev pub invariant-declared_types-loop-term : goal.invariant-declared_types-loop-term
invariant-declared_types-loop-term l =
    (m : Met)
    → Knows [] m l.fn.variables
    → Taken l.at m (map plain_term l.terms) (map plain_term (drop l.term-index l.terms)) l.made.items
    l.variables
