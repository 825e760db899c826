use Rattle.std.proofs.Common.{ℕ, ◌<◌}
use Rattle.mc_insts.specs.code.Walks.{Covered}
use Rattle.mc_insts.specs.code.Lists.{Extends}
use Rattle.mc_insts.specs.code.Pushes.{triple_of, NewAmong}
use Rattle.mc_insts.proofs.graph.InstGraph.push_all.Given as goal

abbrev pub invariant-loop-k : goal.invariant-loop-k
invariant-loop-k l = record {
  extends : Extends l.initial.seen l.seen;
  covered : (k : ℕ) → k < l.k → Covered l.self.nodes l.seen (triple_of l.lows l.highs l.types k);
  new : NewAmong (triple_of l.lows l.highs l.types) l.k l.initial.seen l.seen;
}
