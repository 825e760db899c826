use Rattle.std.proofs.Common.{◌≡◌, ℕ, ◌<◌, ◌≤◌, ◌-◌, ◌^◌, List, length}
use Rattle.mc_insts.specs.declared.graph.Case.{Case}
use Rattle.mc_insts.specs.declared.graph.Node.TheVariants as N
use Rattle.mc_insts.specs.declared.triples.Triple.{Triple}
use Rattle.mc_insts.specs.code.Formed.{AllFilled, Formed}
use Rattle.mc_insts.specs.code.Lists.{Stands}
use Rattle.mc_insts.specs.code.Merges.{Refers, Sound, Merges, top_of}
use Rattle.mc_insts.specs.code.Walks.{scene, node_at, ProperCases}
use Rattle.mc_insts.proofs.graph.InstGraph.made.Given as goal

abbrev pub invariant-loop-t : goal.invariant-loop-t
invariant-loop-t l = record {
  refers : Refers (scene l.self l.shapes) l.seen l.fn.root l.stands;
  sound : Sound (scene l.self l.shapes) l.seen;
  count : length l.nodes.items ≡ l.next;
  order : l.next ≤ length l.seen;
  merges : (n : ℕ) (u : Triple) → n < l.next → Stands l.seen n u → Merges (scene l.self l.shapes) l.seen u (node_at l.nodes.items n);
  fits : (n : ℕ) (cs : List Case) → node_at l.nodes.items n ≡ N.Bound cs → ProperCases (scene l.self l.shapes) (top_of (scene l.self l.shapes) l.seen) cs;
  filled : Formed l.self.nodes → (n : ℕ) (cs : List Case) → node_at l.nodes.items n ≡ N.Bound cs → AllFilled cs;
}

abbrev pub decreases-loop-t : goal.decreases-loop-t
decreases-loop-t l = 2 ^ 63 - l.next
