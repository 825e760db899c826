use Rattle.std.proofs.Common.{◌≡◌, ℕ, ◌<◌, length, get_or}
use Rattle.mc_insts.specs.code.Lists.{Extends}
use Rattle.mc_insts.specs.code.Merges.{Refers, Sound, top_of}
use Rattle.mc_insts.specs.code.Pushes.{joined_of}
use Rattle.mc_insts.specs.code.Walks.{scene}
use Rattle.mc_insts.proofs.graph.InstGraph.join_typed.Given as goal

abbrev pub invariant-loop-k : goal.invariant-loop-k
invariant-loop-k l = record {
  extends : Extends l.initial.seen l.seen;
  sound : Sound (scene l.self l.shapes) l.seen;
  count : length l.out.items ≡ l.k;
  refers : (k : ℕ) → k < l.k → Refers (scene l.self l.shapes) l.seen (joined_of l.lows l.highs l.types k) (get_or l.out.items k 0);
  there : (k : ℕ) → k < length l.out.items → get_or l.out.items k 0 < top_of (scene l.self l.shapes) l.seen;
}
