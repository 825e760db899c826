-- Insts of numbers as a row of definitions: the builtin ones, and behind them one for each definition.
use Rattle.std.specs.Prelude.{◌≡◌, ◌<◌, ◌≤◌, ◌+◌, ◌-◌, ℕ, List, [], ◌∷◌, length, get_or, map, take, drop, nat_lt, slice_index_or, Option, Some, None, if◌then◌else◌}
use Rattle.mc_model.specs.declared.inst.InstRef.{InstRef}
use Rattle.mc_model.specs.declared.inst.InstRef.TheVariants.{Old, New}
use Rattle.mc_accepted.specs.InstRules.{PlainChoice, PlainInstDef, same_inst, bound_inst, definition_at, Functor, InstTerm, inst_node, defined, bound_over, InstTerms, over, Bodies}
use Rattle.mc_insts.specs.Defining.{plain_choice, node_made, IsNode, IsUnlisted}
use Rattle.mc_model.specs.declared.inst.ModeDecl.{ModeDecl}
use Rattle.mc_model.specs.declared.inst.Sig.{Sig}
use Rattle.mc_inst_table.specs.declared.inst.Inst.{Inst}
use Rattle.mc_signatures.specs.declared.rows.Step.{Step}
use Rattle.mc_signatures.specs.declared.rows.Step.TheVariants as S
use Rattle.mc_inst_table.specs.Plain.{plain_inst}
use Rattle.mc_signatures.specs.code.Keys.{term_at, terms_at, AllBelow, IsInst}

-- what a number refers to: a builtin inst, or a definition of the row
abbrev pub reference : ℕ → InstRef
reference k = if nat_lt k 4 then Old k else New (k - 4)

-- Constructors are listed with as many of these insts as each has arguments, in turn.
abbrev pub Chosen : List Functor → List ℕ → List PlainChoice → Type 0
Chosen [] [] [] = Unit {0}
Chosen (f ∷ fs) ks (c ∷ cs) =
    (c.name ≡ f.name) × (c.arity ≡ f.arity) × (length c.args ≡ f.arity)
    × (c.args ≡ map reference (take f.arity ks))
    × Chosen fs (drop f.arity ks) cs
Chosen _ _ _ = ⊥

-- a constructor over insts
pub record IsChoice (f : Functor) (ks : List ℕ) (c : PlainChoice) : Type 0 where
  pub name : c.name ≡ f.name
  pub arity : c.arity ≡ f.arity
  pub args : c.args ≡ map reference ks

-- none of these has its name with its number of arguments
abbrev pub NoneSame : List PlainChoice → PlainChoice → Type 0
NoneSame [] c = Unit {0}
NoneSame (d ∷ ds) c = (d.name ≡ c.name → d.arity ≡ c.arity → ⊥) × NoneSame ds c

-- each name with its number of arguments is listed once
abbrev pub AreUnlisted : List PlainChoice → Type 0
AreUnlisted [] = Unit {0}
AreUnlisted (c ∷ cs) = IsUnlisted c cs × AreUnlisted cs

-- A definition of the row is what the inst says: the name of what its body is over these insts, or what
-- it lists.
pub data IsRow (body : Bodies) (ts : List InstTerm) : InstTerm → PlainInstDef → Type 0 where
  is_name :
      {d : ℕ} {is : InstTerms} {k : ℕ} → IsInst ts k (over is (body d))
      → IsRow body ts (defined d is) (same_inst (reference k))
  is_list :
      {fs : List Functor} {cs : List PlainChoice} (ks : List ℕ)
      → AllBelow (length ts) ks → Chosen fs ks cs → AreUnlisted cs
      → IsRow body ts (bound_over fs (terms_at ts ks)) (bound_inst cs)

-- the definitions' bodies are kept
abbrev pub BodiesAre : Bodies → List Inst → Type 0
BodiesAre body is =
    (k : ℕ) (i : Inst) → k < length is → i ≡ slice_index_or is k i → body k ≡ plain_inst i

-- so is each of the first ones
abbrev pub AreRows : Bodies → List InstTerm → List PlainInstDef → Type 0
AreRows body ts ds = (k : ℕ) → k < length ds → IsRow body ts (term_at ts (4 + k)) (definition_at ds k)

-- all of them, behind the builtin insts
pub record IsExpanded (body : Bodies) (ts : List InstTerm) (ds : List PlainInstDef) : Type 0 where
  pub builtin : (k : ℕ) → k < 4 → term_at ts k ≡ inst_node k
  pub count : length ts ≡ 4 + length ds
  pub rows : AreRows body ts ds

-- what is to be done for the inst in a place, where there is one
abbrev pub StepIs : List InstTerm → (place : ℕ) → Option Step → Type 0
StepIs ts p None = length ts ≤ 4 + p
StepIs ts p (Some (S.Listed cs)) =
    (4 + p < length ts)
    × ((fs : List Functor) × (ks : List ℕ) × (term_at ts (4 + p) ≡ bound_over fs (terms_at ts ks))
    × AllBelow (length ts) ks × Chosen fs ks (map plain_choice cs) × AreUnlisted (map plain_choice cs))
StepIs ts p (Some (S.Defined d ks)) =
    (4 + p < length ts) × (term_at ts (4 + p) ≡ defined d (terms_at ts ks.items)) × AllBelow (length ts) ks.items

-- the nodes that definitions make, by their places, or would make
abbrev pub AreMade : List PlainInstDef → List ℕ → Type 0
AreMade ds ns = (length ns ≡ length ds) × ((k d : ℕ) → k < length ds → node_made ds 4 k ≡ get_or ns k d)

-- nodes in the place of numbers
abbrev pub AreNumbered : List PlainInstDef → (numbers nodes : List ℕ) → Type 0
AreNumbered ds [] [] = Unit {0}
AreNumbered ds (k ∷ ks) (n ∷ ns) = IsNode ds 4 (reference k) n × AreNumbered ds ks ns
AreNumbered ds _ _ = ⊥

pub record IsPlaced (ds : List PlainInstDef) (m p : ModeDecl) : Type 0 where
  pub proc : p.proc ≡ m.proc
  pub first : AreNumbered ds m.first p.first
  pub last : AreNumbered ds m.last p.last
  pub det : p.det ≡ m.det
  pub at : p.at ≡ m.at

abbrev pub ModesPlaced : List PlainInstDef → (before after : List ModeDecl) → Type 0
ModesPlaced ds [] [] = Unit {0}
ModesPlaced ds (m ∷ ms) (p ∷ ps) = IsPlaced ds m p × ModesPlaced ds ms ps
ModesPlaced ds _ _ = ⊥

abbrev pub SigsPlaced : List PlainInstDef → (before after : List Sig) → Type 0
SigsPlaced ds [] [] = Unit {0}
SigsPlaced ds (s ∷ ss) (t ∷ us) = (t.pred ≡ s.pred) × ModesPlaced ds s.modes t.modes × SigsPlaced ds ss us
SigsPlaced ds _ _ = ⊥
