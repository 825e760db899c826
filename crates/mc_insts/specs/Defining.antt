-- Definitions of insts, in a row, and the nodes that they make. A definition may speak of any other
-- of the row, before it or behind it. The rules that it can break are those of the language.
-- (Mercury Language Reference Manual: Modes, insts; this project's profile: insts are finite graphs.)
use Rattle.std.specs.Prelude.{◌≡◌, ℕ, suc, ◌+◌, ◌<◌, List, [], ◌∷◌, length, get_or, map, take}
use Rattle.std.specs.List.Sorted.{IsPermutation}
use Rattle.mc_model.specs.Insts.{Listed, InstNode, bound, Graph}
use Rattle.mc_model.specs.declared.inst.InstRef.{InstRef}
use Rattle.mc_model.specs.declared.inst.InstRef.TheVariants.{Old, New}
use Rattle.mc_model.specs.declared.inst.Choice.{Choice}
use Rattle.mc_accepted.specs.InstRules.{PlainChoice, PlainInstDef, same_inst, bound_inst, definition_at, IsUnfounded, HasFreeInside}
use Rattle.mc_insts.specs.declared.define.InstDef.{InstDef}
use Rattle.mc_insts.specs.declared.define.InstDef.TheVariants as D
use Rattle.mc_insts.specs.declared.define.InstFault.{InstFault}
use Rattle.mc_insts.specs.declared.define.InstFault.TheVariants as F

-- the definitions as the rules speak of them
abbrev pub plain_choice : Choice → PlainChoice
plain_choice c = record { name = c.name; arity = c.arity; args = c.args }

abbrev pub plain_definition : InstDef → PlainInstDef
plain_definition (D.Is r) = same_inst r
plain_definition (D.Bound cs) = bound_inst (map plain_choice cs)

abbrev pub plain_definitions : List InstDef → List PlainInstDef
plain_definitions ds = map plain_definition ds

-- how many of them list constructors: each of these makes a node
abbrev pub bounds_of : List PlainInstDef → ℕ
bounds_of [] = 0
bounds_of (same_inst r ∷ ds) = bounds_of ds
bounds_of (bound_inst cs ∷ ds) = suc (bounds_of ds)

-- the node that a definition makes, where they are numbered in the order of the definitions
abbrev pub node_made : List PlainInstDef → (first k : ℕ) → ℕ
node_made ds first k = first + bounds_of (take k ds)

-- an inst is a node: one that is there, that which the definition makes, or that of the inst that the
-- definition is another name of
pub data IsNode (ds : List PlainInstDef) (first : ℕ) : InstRef → (node : ℕ) → Type 0 where
  there : {i : ℕ} → IsNode ds first (Old i) i
  made :
      {k i : ℕ} {cs : List PlainChoice} → definition_at ds k ≡ bound_inst cs → i ≡ node_made ds first k
      → IsNode ds first (New k) i
  another_name :
      {k i : ℕ} {r : InstRef} → definition_at ds k ≡ same_inst r → IsNode ds first r i
      → IsNode ds first (New k) i

abbrev pub AreNodes : List PlainInstDef → (first : ℕ) → List InstRef → List ℕ → Type 0
AreNodes ds first [] [] = Unit {0}
AreNodes ds first (r ∷ rs) (i ∷ is) = IsNode ds first r i × AreNodes ds first rs is
AreNodes ds first _ _ = ⊥

-- a constructor is listed as the definition says
pub record IsListed (ds : List PlainInstDef) (first : ℕ) (c : PlainChoice) (l : Listed) : Type 0 where
  pub name : l.name ≡ c.name
  pub arity : l.arity ≡ c.arity
  pub args : AreNodes ds first c.args l.args

abbrev pub AreListed : List PlainInstDef → (first : ℕ) → List PlainChoice → List Listed → Type 0
AreListed ds first [] [] = Unit {0}
AreListed ds first (c ∷ cs) (l ∷ ls) = IsListed ds first c l × AreListed ds first cs ls
AreListed ds first _ _ = ⊥

-- a node lists these constructors and no others, in whatever order
pub record ListsThese (ds : List PlainInstDef) (first : ℕ) (cs : List PlainChoice) (node : InstNode) : Type 0 where
  pub as_written : List Listed
  pub are : AreListed ds first cs as_written
  pub listed : List Listed
  pub same : IsPermutation as_written listed
  pub is : node ≡ bound listed

-- The insts are those that the definitions define, in a graph whose new nodes are numbered from a
-- first one on.
pub record Defined (ds : List PlainInstDef) (first : ℕ) (G : Graph) (is : List ℕ) : Type 0 where
  pub count : length is ≡ length ds
  pub nodes : (k : ℕ) → k < length ds → IsNode ds first (New k) (get_or is k 0)
  pub bounds :
      (k : ℕ) (cs : List PlainChoice) → k < length ds → definition_at ds k ≡ bound_inst cs
      → ListsThese ds first cs (G (node_made ds first k))

-- a definition breaks neither rule
pub record IsSound (ds : List PlainInstDef) (k : ℕ) : Type 0 where
  pub no_free : HasFreeInside ds k → ⊥
  pub founded : IsUnfounded ds k → ⊥

abbrev pub AreSound : List PlainInstDef → (before : ℕ) → Type 0
AreSound ds n = (k : ℕ) → k < n → IsSound ds k

-- The fault is that of the first definition that breaks a rule: `free` inside a bound inst before an
-- inst that isn't well founded. Want of memory is said of no definition.
abbrev pub IsFault : List PlainInstDef → InstFault → Type 0
IsFault ds (F.FreeInside k) = (k < length ds) × HasFreeInside ds k × AreSound ds k
IsFault ds (F.NotFounded k) = (k < length ds) × IsUnfounded ds k × (HasFreeInside ds k → ⊥) × AreSound ds k
IsFault ds F.Memory = Unit {0}

-- A definition names insts that are there and definitions of the row. It lists a name with its number
-- of arguments once, with an inst for each argument.
abbrev pub FitsThere : (nodes definitions : ℕ) → InstRef → Type 0
FitsThere n m (Old i) = i < n
FitsThere n m (New k) = k < m

abbrev pub AllFitThere : (nodes definitions : ℕ) → List InstRef → Type 0
AllFitThere n m [] = Unit {0}
AllFitThere n m (r ∷ rs) = FitsThere n m r × AllFitThere n m rs

abbrev pub IsUnlisted : PlainChoice → List PlainChoice → Type 0
IsUnlisted c [] = Unit {0}
IsUnlisted c (d ∷ ds) = (c.name ≡ d.name → c.arity ≡ d.arity → ⊥) × IsUnlisted c ds

abbrev pub ChoicesFit : (nodes definitions : ℕ) → List PlainChoice → Type 0
ChoicesFit n m [] = Unit {0}
ChoicesFit n m (c ∷ cs) = (length c.args ≡ c.arity) × AllFitThere n m c.args × IsUnlisted c cs × ChoicesFit n m cs

abbrev pub DefinitionFits : (nodes definitions : ℕ) → PlainInstDef → Type 0
DefinitionFits n m (same_inst r) = FitsThere n m r
DefinitionFits n m (bound_inst cs) = ChoicesFit n m cs

abbrev pub DefinitionsFit : (nodes : ℕ) → List PlainInstDef → Type 0
DefinitionsFit n ds = (k : ℕ) → k < length ds → DefinitionFits n (length ds) (definition_at ds k)
