use Rattle.std.proofs.Common.{◌↔◌, map, drop}
use Rattle.mc_program.specs.PlainPrograms.{plain_clause}
use Rattle.mc_accepted.specs.Fits.{EachClauseHasScopes}
use Rattle.mc_self_check.proofs.procedure.have_scopes.Given as goal

abbrev pub invariant-loop-clause : goal.invariant-loop-clause
invariant-loop-clause l =
    EachClauseHasScopes (map plain_clause (drop l.clause-index l.clauses)) ↔ EachClauseHasScopes (map plain_clause l.clauses)
