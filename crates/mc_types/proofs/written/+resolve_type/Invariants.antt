use Rattle.std.proofs.Common.{ℕ, ◌≡◌, length, map, take}
use Rattle.mc_program.specs.PlainPrograms.{plain_type}
use Rattle.mc_types.specs.Shapes.{Shape}
use Rattle.mc_types.specs.Trees.{placed, type_of}
use Rattle.mc_types.specs.Placed.{AreGeneral}
use Rattle.mc_types.proofs.written.+resolve_type.Given as goal

abbrev pub decreases-resolve_type : goal.decreases-resolve_type
decreases-resolve_type l = l.depth

abbrev pub invariant-loop-arg : goal.invariant-loop-arg
invariant-loop-arg l = record {
  as_many : length l.made ≡ l.arg-index;
  says : (ρ : ℕ → Shape) → AreGeneral l.g.cells.items ρ → map plain_type l.made ≡ map (λ t. type_of (placed l.vars ρ (plain_type t))) (take l.arg-index l.args);
}
