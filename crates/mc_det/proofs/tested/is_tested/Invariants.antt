use Rattle.std.proofs.Common.{◌≡◌, drop}
use Rattle.mc_model.specs.Stream.{is_bound}
use Rattle.mc_accepted.specs.Determined.{tested}
use Rattle.mc_det.specs.code.Points.{insts_in}
use Rattle.mc_det.proofs.Tests.{there}
use Rattle.mc_det.proofs.tested.is_tested.Given as goal

abbrev pub invariant-loop-n : goal.invariant-loop-n
invariant-loop-n l = tested l.args (λ y. is_bound (insts_in l.point y)) ≡ tested (drop l.n l.args) (there (λ y. is_bound (insts_in l.point y)) l.args l.n)
