use Rattle.std.proofs.Common.{◌↔◌, map, drop}
use Rattle.mc_program.specs.PlainPrograms.{plain_clause}
use Rattle.mc_accepted.specs.Fits.{HeadsHave}
use Rattle.mc_self_check.proofs.procedure.heads_have.Given as goal

abbrev pub invariant-loop-clause : goal.invariant-loop-clause
invariant-loop-clause l =
    HeadsHave l.arity (map plain_clause (drop l.clause-index l.clauses)) ↔ HeadsHave l.arity (map plain_clause l.clauses)
