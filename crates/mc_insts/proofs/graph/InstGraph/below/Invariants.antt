use Rattle.std.proofs.Common.{ℕ, ◌<◌, ◌≤◌, ◌-◌, ◌^◌, length}
use Rattle.mc_insts.specs.declared.triples.Triple.{Triple}
use Rattle.mc_insts.specs.code.Lists.{Stands}
use Rattle.mc_insts.specs.code.Steps.{same_of}
use Rattle.mc_insts.specs.code.Walks.{scene, Covered, Below, Visited, Within}
use Rattle.mc_insts.proofs.graph.InstGraph.below.Given as goal

abbrev pub invariant-loop-t : goal.invariant-loop-t
invariant-loop-t l = record {
  there : Covered l.self.nodes l.seen (same_of l.i l.j l.r);
  within : (n : ℕ) (u : Triple) → Stands l.seen n u → Within (scene l.self l.shapes) u;
  sound : (n : ℕ) (u : Triple) → Stands l.seen n u → Below (scene l.self l.shapes) (same_of l.i l.j l.r) → Below (scene l.self l.shapes) u;
  done : (n : ℕ) (u : Triple) → n < l.next → Stands l.seen n u → Visited (scene l.self l.shapes) l.seen u;
  order : l.next ≤ length l.seen;
}

abbrev pub decreases-loop-t : goal.decreases-loop-t
decreases-loop-t l = 2 ^ 63 - l.next
