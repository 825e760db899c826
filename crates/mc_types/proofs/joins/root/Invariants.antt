use Rattle.std.proofs.Common.{◌≡◌, ◌≤◌, ℕ}
use Rattle.mc_types.specs.Shapes.{Shape}
use Rattle.mc_types.specs.Holds.{Holds}
use Rattle.mc_types.proofs.joins.root.Given as goal

abbrev pub invariant-loop-next : goal.invariant-loop-next
invariant-loop-next l = record {
  below : l.at ≤ l.start;
  same : (ρ : ℕ → Shape) → Holds ρ l.g.cells.items → ρ l.start ≡ ρ l.at;
}

abbrev pub decreases-loop-next : goal.decreases-loop-next
decreases-loop-next l = l.at
