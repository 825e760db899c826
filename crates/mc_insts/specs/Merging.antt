-- Merging insts at a type. (Mercury Language Reference Manual: Modes, insts; this project's profile
-- of uniqueness.)
use Rattle.std.specs.Prelude.{◌≡◌, ◌≢◌, ◌⊎◌, ℕ, List, [], ◌∷◌}
use Rattle.mc_program.specs.Programs.{TypeTerm, Source}
use Rattle.mc_model.specs.Insts.{free, dead, Graph}
use Rattle.mc_accepted.specs.Inclusion.{Tip, Path, Allows, Included, AllFree, NoneIs, OneIsDead, NoneMore, LeastAbove, Merged}
use Rattle.mc_accepted.specs.Proper.{ProperGraph}
use Rattle.mc_accepted.specs.Tidy.{Tidy, EachIsTidy}

-- an inst of some graph that isn't dead is above them all
pub record LivesAbove (P : Source) (G : Graph) (is : List ℕ) (t : TypeTerm) : Type 0 where
  pub graph : Graph
  pub proper : ProperGraph graph
  pub inst : ℕ
  pub lives : graph inst ≢ dead
  pub above : NoneMore P G is graph inst t

-- The insts have a merged one. They have none where some are free and others aren't, nor where
-- `dead` alone is above insts that aren't dead: `unique` and a bound inst that holds a dead one, at a
-- type variable.
abbrev pub Mergeable : Source → Graph → List ℕ → TypeTerm → Type 0
Mergeable P G is t = AllFree G is ⊎ (NoneIs free G is × (OneIsDead G is ⊎ LivesAbove P G is t))

-- one of the insts allows the path and what stands at its end
abbrev pub OneAllows : Source → Graph → List ℕ → Path → Tip → TypeTerm → Type 0
OneAllows P G [] path e t = ⊥
OneAllows P G (i ∷ is) path e t = Allows P G path e i t ⊎ OneAllows P G is path e t

-- Where `unique` and `dead` stand at io's state alone in each of the insts, they do so in this one,
-- it allows exactly what one of them allows, and it is the merged one but for free insts beside
-- others.
pub record MergedTidily (P : Source) (G : Graph) (is : List ℕ) (k : ℕ) (t : TypeTerm) : Type 0 where
  pub tidy : Tidy P G k t
  pub exact : (path : Path) (e : Tip) → Allows P G path e k t → OneAllows P G is path e t
  pub merged : AllFree G is ⊎ NoneIs free G is → Merged P G is k t

-- The inst stands for all of these at the type: it is the least above them, over all graphs, and
-- the merged one where they have one.
pub record StandsForAll (P : Source) (G : Graph) (is : List ℕ) (k : ℕ) (t : TypeTerm) : Type 0 where
  pub least : LeastAbove P G is k t
  pub merged : Mergeable P G is t → Merged P G is k t
  pub tidily : EachIsTidy P G is t → MergedTidily P G is k t

-- one of two insts is included in the other
abbrev pub OneIncludesTheOther : Source → Graph → (i j : ℕ) → TypeTerm → Type 0
OneIncludesTheOther P G i j t = Included P G i j t ⊎ Included P G j i t

-- each of these is that inst
abbrev pub EachIs : ℕ → List ℕ → Type 0
EachIs i [] = Unit {0}
EachIs i (j ∷ js) = (j ≡ i) × EachIs i js
