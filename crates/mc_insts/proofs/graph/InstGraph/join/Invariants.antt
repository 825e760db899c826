use Rattle.std.proofs.Common.{◌≤◌, ◌+◌, ◌-◌, length}
use Rattle.mc_insts.specs.code.Formed.{AllFilled}
use Rattle.mc_insts.specs.code.Joins.{Joining}
use Rattle.mc_insts.specs.code.Lists.{Extends}
use Rattle.mc_insts.specs.code.Merges.{Both, Fits, Sound, top_of}
use Rattle.mc_insts.specs.code.Walks.{scene}
use Rattle.mc_insts.proofs.graph.InstGraph.join.Given as goal

abbrev pub invariant-loop-a : goal.invariant-loop-a
invariant-loop-a l = record {
  extends : Extends l.initial.seen l.seen;
  sound : Sound (scene l.self l.shapes) l.seen;
  first : l.a ≤ length l.lows;
  second : l.b ≤ length l.highs;
  joining : Joining (Both (scene l.self l.shapes) l.seen l.t) l.lows l.highs l.a l.b l.out.items;
  fits : Fits (scene l.self l.shapes) (top_of (scene l.self l.shapes) l.seen) l.out.items;
  filled : AllFilled l.lows → AllFilled l.highs → AllFilled l.out.items;
}

abbrev pub decreases-loop-a : goal.decreases-loop-a
decreases-loop-a l = (length l.lows - l.a) + (length l.highs - l.b)
