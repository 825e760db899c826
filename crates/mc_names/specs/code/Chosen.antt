-- Types as they are looked up: those of a name, then those of them that have its arity, then those
-- that a module has and another sees.
use Rattle.std.specs.Prelude.{ℕ, Bool, false, nat_eq, ◌&&◌, ◌||◌, List, [], ◌∷◌, ◌++◌, Option, Some, None, slice_get, if◌then◌else◌}
use Rattle.mc_names.specs.Plain.{PlainNameArity, id, is_name_arity}
use Rattle.mc_names.specs.Linked.{Defined, Linked}
use Rattle.mc_names.specs.Candidates.{is_module}

abbrev pub passes : {A : Type 0} → (A → Bool) → Option A → Bool
passes p None = false
passes p (Some x) = p x

-- those of these numbers whose definitions pass a test
abbrev pub chosen : {A : Type 0} → (A → Bool) → List A → List ℕ → List ℕ
chosen p xs [] = []
chosen p xs (k ∷ ks) = if passes p (slice_get xs k) then k ∷ chosen p xs ks else chosen p xs ks

-- whether a type has the name
abbrev pub has_id : PlainNameArity → Defined → Bool
has_id x d = is_name_arity (id d.name.name d.name.arity) x

-- whether a type stands in the module of this number, and the module of the number `own` sees it
abbrev pub type_seen : Linked → (own : ℕ) → ℕ → Defined → Bool
type_seen l own j d = is_module d.name.module (slice_get l.scopes j) && (nat_eq own j || d.exported)

-- those of these types that these modules have, and the module of the number `own` sees
abbrev pub types_seen : Linked → (own : ℕ) → (types : List ℕ) → List ℕ → List ℕ
types_seen l own ks [] = []
types_seen l own ks (j ∷ js) = chosen (type_seen l own j) l.types ks ++ types_seen l own ks js
