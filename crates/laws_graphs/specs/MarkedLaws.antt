-- Goals of which one follows the other do so when they are pruned, and with their determinisms as
-- marks. (Mercury Language Reference Manual: Determinism, inference, pruning of goals without
-- outputs.)
use Rattle.std.specs.Prelude.{ℕ, List}
use Rattle.mc_program.specs.Programs.{TypeTerm}
use Rattle.mc_model.specs.Good.{System}
use Rattle.mc_model.specs.Scheduled.{Node}
use Rattle.mc_accepted.specs.Ordered.{Insts}
use Rattle.mc_accepted.specs.Determined.{Known}
use Rattle.mc_det.specs.Pruned.{pruned_node}
use Rattle.mc_det.specs.Marked.{marked}
use Rattle.laws_graphs.specs.Nodes.{MeanOne}
use Rattle.laws_graphs.specs.Follows.{InstsFollow, Follows}
use Rattle.laws_graphs.specs.DeterminismLaws.{ListedOf, SystemsAlike}

abbrev pub PrunedGoalsFollow : Type 0
PrunedGoalsFollow =
    (S U : System) (T : ℕ → TypeTerm) (first m n : ℕ)
    → SystemsAlike T S U → ListedOf S.world.source
    → (outside : List ℕ) (b c : Insts) (g h : Node)
    → InstsFollow S.world.source T first (MeanOne S.world.source m S.insts n U.insts) b c
    → Follows S.world.source T first (MeanOne S.world.source m S.insts n U.insts) b c g h
    → Follows S.world.source T first (MeanOne S.world.source m S.insts n U.insts) b c
    (pruned_node S T outside b g) (pruned_node U T outside c h)

abbrev pub MarkedGoalsFollow : Type 0
MarkedGoalsFollow =
    (S U : System) (T : ℕ → TypeTerm) (first m n : ℕ)
    → SystemsAlike T S U → ListedOf S.world.source
    → (known : Known) (b c : Insts) (g h : Node)
    → InstsFollow S.world.source T first (MeanOne S.world.source m S.insts n U.insts) b c
    → Follows S.world.source T first (MeanOne S.world.source m S.insts n U.insts) b c g h
    → Follows S.world.source T first (MeanOne S.world.source m S.insts n U.insts) b c
    (marked S T b known g) (marked U T c known h)
