use Rattle.std.proofs.Common.{◌≡◌, ◌++◌, map, drop}
use Rattle.mc_program.specs.PlainPrograms.{plain_clause}
use Rattle.mc_model.specs.PlainGoals.{plain_flat}
use Rattle.mc_accepted.specs.Normal.{all_disjuncts, clause_goals}
use Rattle.mc_goals.proofs.shape.disjuncts.Given as goal

abbrev pub invariant-loop-clause : goal.invariant-loop-clause
invariant-loop-clause l =
    let rest = clause_goals l.next (map plain_clause (drop l.clause-index l.clauses)) in
    let all = clause_goals l.fn.next (map plain_clause l.clauses) in
    record {
      goals : map plain_flat l.goals.items ++ all_disjuncts rest.goals ≡ all_disjuncts all.goals;
      next : rest.next ≡ all.next;
    }
