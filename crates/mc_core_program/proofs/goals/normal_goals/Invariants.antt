use Rattle.std.proofs.Common.{◌≡◌, ℕ, List, length, Some, slice_get}
use Rattle.mc_program.specs.declared.program.Pred.{Pred}
use Rattle.mc_program.specs.declared.program.Resolved.{Resolved}
use Rattle.mc_model.specs.declared.flat.Normal.{Normal}
use Rattle.mc_core_program.specs.Goals.{IsNormal}
use Rattle.mc_core_program.proofs.goals.normal_goals.Given as goal

abbrev pub invariant-loop-number : goal.invariant-loop-number
invariant-loop-number l = record {
  count : length l.goals.items ≡ l.number;
  each :
      (number : ℕ) (goal : Normal) (pred : Pred) (own : List Resolved) → slice_get l.goals.items number ≡ Some goal → slice_get l.preds number ≡ Some pred
      → slice_get l.clauses number ≡ Some own → IsNormal number pred own goal;
}
