-- Nodes of two graphs of insts that mean one thing at a type: they allow the same, at every depth.
-- (Mercury Language Reference Manual: Modes, insts; this project's profile of uniqueness.)
use Rattle.std.specs.Prelude.{◌≡◌, ◌≢◌, ◌↔◌, ℕ, ◌<◌, Bool, List, [], ◌∷◌, map, Some, true}
use Rattle.mc_program.specs.Programs.{TypeTerm, state_type, Source}
use Rattle.mc_model.specs.Insts.{free, bound, Graph}
use Rattle.mc_model.specs.Lists.{is_in}
use Rattle.mc_model.specs.Stream.{is_bound}
use Rattle.mc_model.specs.Flat.{Flat_goal, variables_of}
use Rattle.mc_accepted.specs.Inclusion.{Tip, Path, Allows, Included, AllFree, NoneIs, NoneMore}
use Rattle.mc_accepted.specs.Tidy.{Tidy, EachIsTidy}
use Rattle.mc_accepted.specs.Determined.{is_dead}
use Rattle.mc_accepted.specs.Forms.{node_takes_constants}
use Rattle.mc_accepted.specs.Fits.{FitsInsts, FitsTypes}
use Rattle.mc_accepted.specs.ProperTypes.{Parameters}
use Rattle.mc_accepted.specs.InOrder.{SameName}
use Rattle.mc_accepted.specs.Typing.{TypedGoal}
use Rattle.mc_accepted.specs.Calls.{CallsOnly}
use Rattle.mc_accepted.specs.Arranged.{Declared, faulty, lacks, arrange}
use Rattle.mc_accepted.specs.NodeOracle.{NodeOracle, of_nodes}
use Rattle.mc_insts.specs.Merging.{OneAllows}
use Rattle.mc_insts.specs.Narrowed.{Narrowed}
use Rattle.laws_graphs.specs.Related.{Below, OneVerdict, NodesRelated, DeclaredRelated}

-- Constructors of one type are told apart by name and number of arguments.
abbrev pub NamedApart : Source → Type 0
NamedApart P =
    (u s r : ℕ)
    → is_in s (P.symbols_of u) ≡ true → is_in r (P.symbols_of u) ≡ true
    → (P.symbols s).of_type ≡ u → (P.symbols r).of_type ≡ u
    → SameName (P.symbols s).name (P.symbols r).name → s ≡ r

-- The inst allows just what one of these allows, it is tidy, and it is free where all are, and only
-- there.
pub record Joined (P : Source) (G : Graph) (is : List ℕ) (k : ℕ) (t : TypeTerm) : Type 0 where
  pub above : NoneMore P G is G k t
  pub exact : (path : Path) (e : Tip) → Allows P G path e k t → OneAllows P G is path e t
  pub tidy : Tidy P G k t
  pub all_free : AllFree G is → G k ≡ free
  pub none_free : NoneIs free G is → G k ≢ free

-- The bound inst of one symbol over these insts.
abbrev pub IsOver : Source → Graph → (node symbol : ℕ) → List ℕ → Type 0
IsOver P G k s is =
    G k
    ≡ bound
    (record {
      name = (P.symbols s).name.bytes;
      arity = (P.symbols s).name.arity;
      args = is;
    } ∷ [])

-- Functions that look for nodes among so many of a graph, and tell the truth of those. They need
-- not find a node.
pub record Finds (P : Source) (count : ℕ) (G : Graph) (C : NodeOracle) : Type 0 where
  pub some : 3 < count
  pub insts : FitsInsts G
  pub dies : (i : ℕ) → i < count → C.is_dead i ≡ is_dead (G i)
  pub constants : (i : ℕ) → i < count → C.takes_constants i ≡ node_takes_constants P G (G i)
  pub narrowed : (i s : ℕ) → i < count → Narrowed P G i s (C.narrowed i s)
  pub closed : (i s : ℕ) (is : List ℕ) → i < count → C.narrowed i s ≡ Some is → Below count is
  pub fits :
      (i j : ℕ) (t : TypeTerm)
      → i < count → j < count → (C.fits i j t ≡ true) ↔ Included P G i j t
  pub over :
      (s k : ℕ) (is : List ℕ) → C.over s is ≡ Some k → (k < count) × IsOver P G k s is
  pub joined :
      (t : TypeTerm) (k : ℕ) (is : List ℕ)
      → Below count is → EachIsTidy P G is t
      → C.joined t is ≡ Some k → (k < count) × Joined P G is k t

-- Nodes of two graphs that mean one thing at a type. Both are tidy there: else a node that holds
-- `dead` may allow what one that holds `ground` allows.
pub record MeanOne (P : Source) (m : ℕ) (G : Graph) (n : ℕ) (H : Graph) (t : TypeTerm) (i j : ℕ)
    : Type 0 where
  pub here : i < m
  pub there : j < n
  pub bound : is_bound i ≡ is_bound j
  pub tidy_here : Tidy P G i t
  pub tidy_there : Tidy P H j t
  pub same : (path : Path) (e : Tip) → Allows P G path e i t ↔ Allows P H path e j t

-- One order whatever the graph: where no node is lacking, a goal has one order over the nodes of
-- two graphs, but for changes and marks, or one fault. The insts of the modes of what it calls mean
-- one thing in both graphs, whatever their numbers.
abbrev pub OneOrderOverNodes : Type 0
OneOrderOverNodes =
    (P : Source) (D : Parameters) (m n : ℕ) (G H : Graph) (C E : NodeOracle)
    (counts : ℕ → Bool) (declared other : ℕ → List Declared) (T : ℕ → TypeTerm)
    → FitsTypes P D → NamedApart P → Finds P m G C → Finds P n H E
    → DeclaredRelated (of_nodes C) (of_nodes E) (MeanOne P m G n H) P (λ p. counts p ≡ true) declared
    other
    → (next : ℕ) (head first last starts ends : List ℕ) (g : Flat_goal)
    → CallsOnly (λ p. counts p ≡ true) g → TypedGoal P T g → Below next (variables_of g) → Below next head
    → NodesRelated (of_nodes C) (of_nodes E) (MeanOne P m G n H) first starts (map T head)
    → NodesRelated (of_nodes C) (of_nodes E) (MeanOne P m G n H) last ends (map T head)
    → arrange (of_nodes C) P declared T next head first last g ≢ faulty lacks
    → arrange (of_nodes E) P other T next head starts ends g ≢ faulty lacks
    → OneVerdict (arrange (of_nodes C) P declared T next head first last g)
    (arrange (of_nodes E) P other T next head starts ends g)

-- The builtin insts have one number in all graphs. They mean one thing, `unique` and `dead` at io's
-- state.
abbrev pub BuiltinNodesMeanOne : Type 0
BuiltinNodesMeanOne =
    (P : Source) (m n : ℕ) (G H : Graph)
    → 3 < m → 3 < n → FitsInsts G → FitsInsts H
    → (t : TypeTerm) → MeanOne P m G n H t 0 0
    × MeanOne P m G n H t 1 1
    × MeanOne P m G n H state_type 2 2
    × MeanOne P m G n H state_type 3 3
