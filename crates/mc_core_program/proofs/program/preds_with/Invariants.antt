use Rattle.std.proofs.Common.{◌≡◌, ◌++◌, map}
use Rattle.mc_program.specs.PlainPrograms.{plain_pred}
use Rattle.mc_goals.specs.Resolved.{clause_of}
use Rattle.mc_core_program.specs.Whole.{each_with_clauses}
use Rattle.mc_core_program.proofs.program.preds_with.Given as goal

abbrev pub invariant-loop-pred : goal.invariant-loop-pred
invariant-loop-pred l =
    map plain_pred l.made.items ++ each_with_clauses (map plain_pred l.pred-iterator.rest.items) (map (map clause_of) l.rows.rest.items) ≡ each_with_clauses (map plain_pred l.fn.preds.items) (map (map clause_of) l.fn.clauses.items)
