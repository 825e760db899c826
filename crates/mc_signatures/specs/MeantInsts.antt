-- What a written inst is as a node of a graph, where definitions are followed. (The Mercury manual:
-- Modes, insts; that insts are finite graphs is this project's profile.)
use Rattle.std.specs.Prelude.{◌≡◌, ◌⊎◌, ℕ, zero, suc, List, [], ◌∷◌}
use Rattle.std.specs.List.Sorted.{IsPermutation}
use Rattle.mc_model.specs.Insts.{Listed, InstNode, free, ground, unique, dead, bound, Graph}
use Rattle.mc_accepted.specs.InstRules.{PlainInstDef, Functor, InstTerm, inst_node, bound_over, InstTerms, no_insts, inst_then, Bodies, ComesTo}
use Rattle.mc_insts.specs.Defining.{Defined}

-- The insts of the arguments of all constructors stand one behind another: those of the first one,
-- by its number of arguments, and those of the others.
abbrev pub first_insts : (arity : ℕ) → InstTerms → InstTerms
first_insts zero is = no_insts
first_insts (suc n) no_insts = no_insts
first_insts (suc n) (inst_then i is) = inst_then i (first_insts n is)

abbrev pub insts_behind : (arity : ℕ) → InstTerms → InstTerms
insts_behind zero is = is
insts_behind (suc n) no_insts = no_insts
insts_behind (suc n) (inst_then i is) = insts_behind n is

-- each inst is its node, whatever that means
abbrev pub EachIs : (Is : InstTerm → ℕ → Type 0) → InstTerms → List ℕ → Type 0
EachIs Is no_insts [] = Unit {0}
EachIs Is (inst_then i is) (n ∷ ns) = Is i n × EachIs Is is ns
EachIs Is _ _ = ⊥

abbrev pub AreListed :
    (Is : InstTerm → ℕ → Type 0) → List Functor → InstTerms → List Listed → Type 0
AreListed Is [] no_insts [] = Unit {0}
AreListed Is (f ∷ fs) is (c ∷ cs) =
    (c.name ≡ f.name) × (c.arity ≡ f.arity)
    × EachIs Is (first_insts f.arity is) c.args
    × AreListed Is fs (insts_behind f.arity is) cs
AreListed Is _ _ _ = ⊥

-- a node lists these constructors over these insts and no others, in whatever order
pub record ListsThese (Is : InstTerm → ℕ → Type 0) (fs : List Functor) (js : InstTerms)
    (node : InstNode) : Type 0 where
  pub as_written : List Listed
  pub are : AreListed Is fs js as_written
  pub listed : List Listed
  pub same : IsPermutation as_written listed
  pub is : node ≡ bound listed

-- An inst is a node down to a depth: it comes to that builtin inst, or to what the node lists, and
-- below it insts are nodes down to one less.
abbrev pub IsUpto : Bodies → Graph → (depth : ℕ) → InstTerm → (node : ℕ) → Type 0
IsUpto body G zero i n = Unit {0}
IsUpto body G (suc m) i n =
    ComesTo body i (inst_node n)
    ⊎ ((fs : List Functor) × (is : InstTerms) × ComesTo body i (bound_over fs is)
    × ListsThese (IsUpto body G m) fs is (G n))

-- An inst is a node: at any depth the node is what the inst says there.
abbrev pub IsNodeOf : Bodies → Graph → InstTerm → (node : ℕ) → Type 0
IsNodeOf body G i n = (depth : ℕ) → IsUpto body G depth i n

-- the builtin insts stand under their numbers in a graph
pub record HasBuiltins (G : Graph) : Type 0 where
  pub is_free : G 0 ≡ free
  pub is_ground : G 1 ≡ ground
  pub is_unique : G 2 ≡ unique
  pub is_dead : G 3 ≡ dead

-- An inst is this node in each graph in which definitions were put behind the builtin insts.
abbrev pub IsMeant : Bodies → List PlainInstDef → InstTerm → (node : ℕ) → Type 0
IsMeant body ds i n =
    (G : Graph) (nodes : List ℕ) → HasBuiltins G → Defined ds 4 G nodes → IsNodeOf body G i n
