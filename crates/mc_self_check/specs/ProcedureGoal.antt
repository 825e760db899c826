-- The goal of a procedure: its predicate's normal goal.
use Rattle.std.specs.Prelude.{ℕ, length}
use Rattle.mc_program.specs.Programs.{Source}
use Rattle.mc_model.specs.Flat.{Flat_goal}
use Rattle.mc_accepted.specs.Normal.{normal_goal}

abbrev pub normal_body : Source → (pred : ℕ) → Flat_goal
normal_body P k = (normal_goal (length (P.preds k).types) (P.preds k).clauses).body
