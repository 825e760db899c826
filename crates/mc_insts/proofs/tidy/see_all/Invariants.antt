use Rattle.std.proofs.Common.{ℕ, ◌<◌}
use Rattle.mc_insts.specs.code.Lists.{Extends, Stands}
use Rattle.mc_insts.specs.code.Pushes.{triple_of, NewAmong}
use Rattle.mc_insts.proofs.tidy.see_all.Given as goal

abbrev pub invariant-loop-k : goal.invariant-loop-k
invariant-loop-k l = record {
  extends : Extends l.initial.seen l.seen;
  seen : (k : ℕ) → k < l.k → (m : ℕ) × Stands l.seen m (triple_of l.insts l.insts l.types k);
  new : NewAmong (triple_of l.insts l.insts l.types) l.k l.initial.seen l.seen;
}
