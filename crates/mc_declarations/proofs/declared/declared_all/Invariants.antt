use Rattle.std.proofs.Common.{[], drop, map}
use Rattle.mc_term_data.specs.Plain.{plain_term}
use Rattle.mc_clauses.specs.Variables.{Met}
use Rattle.mc_clauses.specs.code.Meanings.{Knows}
use Rattle.mc_declarations.specs.code.Walking.{Taken}
use Rattle.mc_declarations.proofs.declared.declared_all.Given as goal

abbrev pub invariant-loop-term : goal.invariant-loop-term
invariant-loop-term l =
    (m : Met)
    → Knows [] m l.fn.variables
    → Taken l.at m (map (λ t. plain_term t.now) l.terms)
    (map (λ t. plain_term t.now) (drop l.term-index l.terms)) l.made.items l.variables
