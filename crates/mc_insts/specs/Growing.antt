-- Insts to which nodes were added. (Mercury Language Reference Manual: Modes, insts.)
use Rattle.std.specs.Prelude.{◌≡◌, ◌↔◌, ℕ, ◌<◌, ◌≤◌}
use Rattle.mc_program.specs.Programs.{TypeTerm, Source}
use Rattle.mc_accepted.specs.Inclusion.{Path, Tip, Allows}
use Rattle.mc_accepted.specs.Tidy.{Tidy}
use Rattle.mc_insts.specs.declared.insts.Insts.{Insts}
use Rattle.mc_insts.specs.Graphs.{graph_of, count_of}

-- older nodes stay what they were, keep their meaning, and are tidy where they were
pub record Grown (P : Source) (before after : Insts) : Type 0 where
  pub more : count_of before ≤ count_of after
  pub same : (i : ℕ) → i < count_of before → graph_of after i ≡ graph_of before i
  pub meaning :
      (i : ℕ) → i < count_of before
      → (path : Path) (e : Tip) (t : TypeTerm)
      → Allows P (graph_of before) path e i t ↔ Allows P (graph_of after) path e i t
  pub tidy :
      (i : ℕ) → i < count_of before
      → (t : TypeTerm)
      → Tidy P (graph_of before) i t ↔ Tidy P (graph_of after) i t
