use Rattle.std.proofs.Common.{◌≡◌, ◌&&◌, ℕ, drop}
use Rattle.std.specs.List.{list_any}
use Rattle.mc_model.specs.Stream.{is_bound}
use Rattle.mc_accepted.specs.Ordered.{change_at}
use Rattle.mc_det.specs.code.Points.{insts_in}
use Rattle.mc_det.specs.code.Prunes.{is_free_outside}
use Rattle.mc_det.proofs.prune.Pruning.one_given.Given as goal

abbrev pub invariant-loop-change : goal.invariant-loop-change
invariant-loop-change l =
    list_any (λ (change : ℕ × ℕ). is_free_outside l.self.point l.self.outside change && is_bound (change_at change.0 l.changes (insts_in l.self.point change.0))) (drop l.change-index l.changes)
    ≡ list_any (λ (change : ℕ × ℕ). is_free_outside l.self.point l.self.outside change && is_bound (change_at change.0 l.changes (insts_in l.self.point change.0))) l.changes
