use Rattle.std.proofs.Common.{◌≡◌, ℕ, ◌<◌, length}
use Rattle.std.specs.List.{Contains}
use Rattle.mc_det_constraints.specs.code.Callers.{AllBelow}
use Rattle.mc_det_constraints.proofs.pending.Pending.all.Given as goal

abbrev pub invariant-loop-p : goal.invariant-loop-p
invariant-loop-p l =
    record {
      has : (q : ℕ) → q < l.p → Contains l.list.items q;
      below : AllBelow l.n l.list.items;
      count : length l.flags.items ≡ l.p;
    }
