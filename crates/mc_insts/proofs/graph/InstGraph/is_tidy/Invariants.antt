use Rattle.std.proofs.Common.{◌≡◌, ℕ, ◌<◌, ◌≤◌, ◌-◌, ◌^◌, length}
use Rattle.mc_program.specs.Programs.{TypeTerm, Source}
use Rattle.mc_accepted.specs.Tidy.{Tidy}
use Rattle.mc_insts.specs.declared.triples.Triple.{Triple}
use Rattle.mc_insts.specs.code.Lists.{Stands}
use Rattle.mc_insts.specs.code.Shown.{plain_graph, RowsAre}
use Rattle.mc_insts.specs.code.Steps.{same_of}
use Rattle.mc_insts.specs.code.Walks.{scene, Within}
use Rattle.mc_insts.specs.code.TidyWalks.{Looked}
use Rattle.mc_insts.proofs.graph.InstGraph.is_tidy.Given as goal

abbrev pub invariant-loop-t : goal.invariant-loop-t
invariant-loop-t l = record {
  there : (n : ℕ) × Stands l.seen n (same_of l.i l.i l.r);
  within : (n : ℕ) (u : Triple) → Stands l.seen n u → Within (scene l.self l.shapes) u;
  alone : (n : ℕ) (u : Triple) → Stands l.seen n u → u.low ≡ u.high;
  sound :
      (P : Source) (type : ℕ → TypeTerm) → RowsAre P (scene l.self l.shapes) type
      → (n : ℕ) (u : Triple) → Stands l.seen n u
      → Tidy P (plain_graph l.self.functors l.self.nodes) l.i (type l.r)
      → Tidy P (plain_graph l.self.functors l.self.nodes) u.low (type u.row);
  done : (n : ℕ) (u : Triple) → n < l.next → Stands l.seen n u → Looked (scene l.self l.shapes) l.seen u;
  order : l.next ≤ length l.seen;
}

abbrev pub decreases-loop-t : goal.decreases-loop-t
decreases-loop-t l = 2 ^ 63 - l.next
