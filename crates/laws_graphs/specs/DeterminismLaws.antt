-- Goals of which one follows the other have one determinism and break one rule of it. (Mercury
-- Language Reference Manual: Determinism; this project's profile of io.)
use Rattle.std.specs.Prelude.{◌≡◌, ℕ, List, Bool}
use Rattle.mc_program.specs.Programs.{TypeTerm, Source}
use Rattle.mc_model.specs.Good.{System}
use Rattle.mc_model.specs.Lists.{In}
use Rattle.mc_model.specs.Scheduled.{Node}
use Rattle.mc_accepted.specs.Ordered.{Insts}
use Rattle.mc_accepted.specs.Determined.{Known, determined, leaves_dead}
use Rattle.mc_accepted.specs.DeterminismFaults.{first_misplaced, misplaces_io}
use Rattle.mc_accepted.specs.MergedArms.{never_ends}
use Rattle.mc_accepted.specs.PrunedMarks.{mark_of}
use Rattle.laws_graphs.specs.Nodes.{MeanOne}
use Rattle.laws_graphs.specs.Follows.{InstsFollow, Follows}

-- the constructors that are listed of a type are of that type
abbrev pub ListedOf : Source → Type 0
ListedOf P = (u s : ℕ) → In s (P.symbols_of u) → (P.symbols s).of_type ≡ u

-- two systems over one program, whose procedures have the same determinisms and leave the same
-- states dead
pub record SystemsAlike (T : ℕ → TypeTerm) (S U : System) : Type 0 where
  pub source : U.world.source ≡ S.world.source
  pub dets : (k : ℕ) → (S.procs k).det ≡ (U.procs k).det
  pub dead : (k : ℕ) → leaves_dead S T (S.procs k).last ≡ leaves_dead U T (U.procs k).last

-- what the tables and the rules say of two goals
pub record DeterminedAlike (T : ℕ → TypeTerm) (S U : System) (b c : Insts) (g h : Node)
    : Type 0 where
  pub determinism : (known : Known) → determined S T b known g ≡ determined U T c known h
  pub misplaced :
      (known : Known) (all : Bool)
      → first_misplaced S T b known all g ≡ first_misplaced U T c known all h
  pub io :
      (known : Known) (all : Bool)
      → misplaces_io S T b known all g ≡ misplaces_io U T c known all h
  pub end : never_ends S T b g ≡ never_ends U T c h
  pub mark : (outside : List ℕ) → mark_of S T outside b g ≡ mark_of U T outside c h

abbrev pub OneDeterminism : Type 0
OneDeterminism =
    (S U : System) (T : ℕ → TypeTerm) (first m n : ℕ)
    → SystemsAlike T S U → ListedOf S.world.source
    → (b c : Insts) (g h : Node)
    → InstsFollow S.world.source T first (MeanOne S.world.source m S.insts n U.insts) b c
    → Follows S.world.source T first (MeanOne S.world.source m S.insts n U.insts) b c g h
    → DeterminedAlike T S U b c g h
