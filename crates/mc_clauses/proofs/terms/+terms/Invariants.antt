use Rattle.std.proofs.Common.{drop}
use Rattle.mc_clauses.specs.Variables.{Numbers, Met}
use Rattle.mc_clauses.specs.code.Meanings.{Knows}
use Rattle.mc_clauses.specs.code.Walking.{Taken}
use Rattle.mc_clauses.proofs.terms.+terms.Given as goal

abbrev pub invariant-terms-loop-one : goal.invariant-terms-loop-one
invariant-terms-loop-one l =
    (q : Numbers) (m : Met) → Knows q m l.fn.variables → Taken l.at q m l.terms (drop l.one-index l.terms) l.made.items l.variables
