-- The laws of merging insts, and of graphs of insts that only grow. (Mercury Language Reference
-- Manual: Modes, insts; this project's profile of uniqueness.)
use Rattle.std.specs.Prelude.{◌≡◌, ◌⊎◌, ◌↔◌, ℕ, suc, ◌<◌, List, [], ◌∷◌, replicate}
use Rattle.mc_program.specs.Values.{Val}
use Rattle.mc_program.specs.Programs.{TypeTerm, Source}
use Rattle.mc_model.specs.Insts.{Listed, InstNode, free, ground, unique, dead, bound, Graph, Within}
use Rattle.mc_accepted.specs.Inclusion.{Path, Tip, Allows, NoMore, Included, LeastAbove, Merged}
use Rattle.mc_accepted.specs.Proper.{ProperGraph}

-- the third inst allows exactly what one of the first two allows
pub record AllowsEither (P : Source) (G : Graph) (i j k : ℕ) (t : TypeTerm) : Type 0 where
  pub first : NoMore P G i k t
  pub second : NoMore P G j k t
  pub either :
      (path : Path) (e : Tip)
      → Allows P G path e k t → Allows P G path e i t ⊎ Allows P G path e j t

-- such an inst is the least above both
abbrev pub EitherIsLeast : Type 0
EitherIsLeast =
    (P : Source) (G : Graph) (i j k : ℕ) (t : TypeTerm)
    → AllowsEither P G i j k t → LeastAbove P G (i ∷ j ∷ []) k t

-- the merged inst of one inst, as often as it stands there, is that inst
abbrev pub OneIsMerged : Type 0
OneIsMerged =
    (P : Source) (G : Graph) (i n : ℕ) (t : TypeTerm) → Merged P G (replicate (suc n) i) i t

-- two merged insts of the same insts allow the same
abbrev pub MergedAllowTheSame : Type 0
MergedAllowTheSame =
    (P : Source) (G : Graph) → ProperGraph G → (i : ℕ) (is : List ℕ) (k h : ℕ) (t : TypeTerm)
    → Merged P G (i ∷ is) k t → Merged P G (i ∷ is) h t → NoMore P G k h t

-- nodes, and the arguments of a node, are below a number
abbrev pub NodesBelow : ℕ → List ℕ → Type 0
NodesBelow n [] = Unit {0}
NodesBelow n (i ∷ is) = (i < n) × NodesBelow n is

abbrev pub ListedBelow : ℕ → List Listed → Type 0
ListedBelow n [] = Unit {0}
ListedBelow n (l ∷ ls) = NodesBelow n l.args × ListedBelow n ls

abbrev pub ArgumentsBelow : ℕ → InstNode → Type 0
ArgumentsBelow n free = Unit {0}
ArgumentsBelow n ground = Unit {0}
ArgumentsBelow n unique = Unit {0}
ArgumentsBelow n dead = Unit {0}
ArgumentsBelow n (bound ls) = ListedBelow n ls

-- a graph of n nodes, whose arguments are among them, is grown to another
pub record Grows (n : ℕ) (G H : Graph) : Type 0 where
  pub closed : (i : ℕ) → i < n → ArgumentsBelow n (G i)
  pub same : (i : ℕ) → i < n → H i ≡ G i

-- older nodes keep their meaning: they allow the same paths, and the same values
abbrev pub OlderNodesKeepPaths : Type 0
OlderNodesKeepPaths =
    (P : Source) (G H : Graph) (n : ℕ) → Grows n G H →
    (i : ℕ) → i < n → (path : Path) (e : Tip) (t : TypeTerm)
    → Allows P G path e i t ↔ Allows P H path e i t

abbrev pub OlderNodesKeepValues : Type 0
OlderNodesKeepValues =
    (P : Source) (G H : Graph) (n : ℕ) → Grows n G H →
    (i : ℕ) → i < n → (v : Val) → Within P G v i ↔ Within P H v i

-- so what is included in what, and what insts are merged to, stays
abbrev pub OlderNodesKeepInclusion : Type 0
OlderNodesKeepInclusion =
    (P : Source) (G H : Graph) (n : ℕ) → Grows n G H →
    (i j : ℕ) → i < n → j < n → (t : TypeTerm) → Included P G i j t ↔ Included P H i j t

abbrev pub OlderNodesKeepMerges : Type 0
OlderNodesKeepMerges =
    (P : Source) (G H : Graph) (n : ℕ) → Grows n G H →
    (is : List ℕ) (k : ℕ) → NodesBelow n is → k < n → (t : TypeTerm)
    → Merged P G is k t ↔ Merged P H is k t
