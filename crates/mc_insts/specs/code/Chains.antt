-- Where definitions of insts lead by names, as far as is known.
use Rattle.std.specs.Prelude.{◌≡◌, ◌⊎◌, ℕ, ◌<◌, Bool, true, false, List, length, get_or, Option, Some, None}
use Rattle.mc_model.specs.declared.inst.InstRef.{InstRef}
use Rattle.mc_model.specs.declared.inst.InstRef.TheVariants.{Old, New}
use Rattle.mc_accepted.specs.InstRules.{PlainInstDef, same_inst, bound_inst, definition_at, named_by, LeadsTo, IsUnfounded, HasFreeInside}
use Rattle.mc_insts.specs.declared.chains.Chain.{Chain}
use Rattle.mc_insts.specs.declared.chains.Chain.TheVariants as C
use Rattle.mc_insts.specs.declared.chains.Meeting.{Meeting}
use Rattle.mc_insts.specs.declared.chains.Meeting.TheVariants as M
use Rattle.mc_insts.specs.declared.define.InstFault.{InstFault}
use Rattle.mc_insts.specs.declared.define.InstFault.TheVariants as F
use Rattle.mc_insts.specs.Defining.{node_made, IsNode}

abbrev pub chain_at : List Chain → ℕ → Chain
chain_at cs k = get_or cs k C.Endless

-- the definition that one names, where it isn't known where that leads
abbrev pub names_of : Chain → Option ℕ
names_of (C.Names j) = Some j
names_of (C.Node i) = None
names_of C.Ring = None
names_of C.Endless = None

abbrev pub is_known : Chain → Bool
is_known (C.Names j) = false
is_known (C.Node i) = true
is_known C.Ring = true
is_known C.Endless = true

abbrev pub next_in : List Chain → ℕ → Option ℕ
next_in cs k = names_of (chain_at cs k)

abbrev pub known_at : List Chain → ℕ → Bool
known_at cs k = is_known (chain_at cs k)

-- the definitions that are named are there
abbrev pub AllThere : List Chain → Type 0
AllThere cs = (k j : ℕ) → next_in cs k ≡ Some j → j < length cs

-- one comes to another, or is it
abbrev pub Comes : List Chain → ℕ → ℕ → Type 0
Comes cs k j = (k ≡ j) ⊎ LeadsTo (next_in cs) k j

abbrev pub Meets : List Chain → (start : ℕ) → Meeting → Type 0
Meets cs start (M.Known k) = (k < length cs) × Comes cs start k × (known_at cs k ≡ true)
Meets cs start (M.Ring k) = (k < length cs) × Comes cs start k × LeadsTo (next_in cs) k k

-- the definitions from one on lead to an end now, and others stay what they were
pub record Settles (before after : List Chain) (start : ℕ) (end : Chain) : Type 0 where
  pub count : length after ≡ length before
  pub known : known_at after start ≡ true
  pub each :
      (k : ℕ)
      → (chain_at after k ≡ chain_at before k)
      ⊎ ((chain_at after k ≡ end) × (known_at before k ≡ false) × Comes before start k)
  pub closed :
      (k j : ℕ) → next_in before k ≡ Some j → known_at after k ≡ true → known_at after j ≡ true

-- what is known of a definition is so
abbrev pub ChainIs : List PlainInstDef → (first k : ℕ) → Chain → Type 0
ChainIs ds first k (C.Names j) = definition_at ds k ≡ same_inst (New j)
ChainIs ds first k (C.Node i) = IsNode ds first (New k) i
ChainIs ds first k C.Ring = IsUnfounded ds k
ChainIs ds first k C.Endless = ((i : ℕ) → IsNode ds first (New k) i → ⊥) × (IsUnfounded ds k → ⊥)

-- and where it is known of one, it is known of the one that it names
pub record ChainsAre (ds : List PlainInstDef) (first : ℕ) (cs : List Chain) : Type 0 where
  pub count : length cs ≡ length ds
  pub are : (k : ℕ) → k < length cs → ChainIs ds first k (chain_at cs k)
  pub closed :
      (k j : ℕ) → named_by (definition_at ds k) ≡ Some j → known_at cs k ≡ true → known_at cs j ≡ true

-- where an inst leads by itself
abbrev pub named_chain : InstRef → Chain
named_chain (Old i) = C.Node i
named_chain (New j) = C.Names j

-- what each definition shows by itself
abbrev pub first_chain : List PlainInstDef → (first k : ℕ) → PlainInstDef → Chain
first_chain ds first k (same_inst r) = named_chain r
first_chain ds first k (bound_inst cs) = C.Node (node_made ds first k)

abbrev pub FirstChains : List PlainInstDef → (first : ℕ) → List Chain → Type 0
FirstChains ds first cs = (k : ℕ) → k < length ds → chain_at cs k ≡ first_chain ds first k (definition_at ds k)

-- each definition leads to a node
pub record ChainsNodes (cs : List Chain) (is : List ℕ) : Type 0 where
  pub count : length is ≡ length cs
  pub each : (k : ℕ) → k < length cs → chain_at cs k ≡ C.Node (get_or is k 0)

pub record InstsAre (ds : List PlainInstDef) (first : ℕ) (is : List ℕ) : Type 0 where
  pub count : length is ≡ length ds
  pub each : (k : ℕ) → k < length ds → IsNode ds first (New k) (get_or is k 0)

-- the fault is that of one definition
abbrev pub FaultAt : List PlainInstDef → ℕ → InstFault → Type 0
FaultAt ds k (F.FreeInside j) = (j ≡ k) × HasFreeInside ds k
FaultAt ds k (F.NotFounded j) = (j ≡ k) × IsUnfounded ds k × (HasFreeInside ds k → ⊥)
FaultAt ds k F.Memory = Unit {0}
