-- Substitutions of types for type variables, and the most general one that makes two types equal.
-- (Robinson, A Machine-Oriented Logic Based on the Resolution Principle: unification.)
use Rattle.std.specs.Prelude.{◌≡◌, ◌↔◌, ℕ, ◌<◌, Bool, true, false, List, length, map, nat_lt, if◌then◌else◌, slice_index_or}
use Rattle.mc_program.specs.Programs.{TypeTerm, variable_type}
use Rattle.mc_program.specs.PlainPrograms.{plain_type}
use Rattle.mc_program.specs.declared.ty.Ty.{Ty}
use Rattle.mc_model.specs.Types.{instance_of}

-- A type with types for the variables below n. Any other variable is rigid: a type of its own.
abbrev pub under : (n : ℕ) → (ℕ → TypeTerm) → TypeTerm → TypeTerm
under n θ t = instance_of (λ v. if nat_lt v n then θ v else variable_type v) t

-- the types of a substitution
abbrev pub image : List Ty → ℕ → TypeTerm
image s v = slice_index_or (map plain_type s) v (variable_type v)

-- types for the variables of a substitution that are an instance of it
abbrev pub IsBelow : (ℕ → TypeTerm) → List Ty → Type 0
IsBelow θ s = (v : ℕ) → v < length s → θ v ≡ under (length s) θ (image s v)

-- the substitution of n variables for themselves
pub record IsIdentity (n : ℕ) (s : List Ty) : Type 0 where
  pub as_many : length s ≡ n
  pub same : (v : ℕ) → v < n → image s v ≡ variable_type v

-- two types are one where the variables below n have these types
abbrev pub AreOne : (n : ℕ) → (ℕ → TypeTerm) → Ty → Ty → Type 0
AreOne n θ a b = under n θ (plain_type a) ≡ under n θ (plain_type b)

-- What unifying two types answers. Yes: the types that are below the new substitution are those
-- below the old that make the two types one, and its own types are among them, so that it is the
-- most general such substitution. No: no types below the old make the two one, and nothing changed.
abbrev pub Unifies : Bool → (old new : List Ty) → Ty → Ty → Type 0
Unifies true old new a b =
    ((θ : ℕ → TypeTerm) → IsBelow θ new ↔ (IsBelow θ old × AreOne (length old) θ a b))
    × IsBelow (image new) new
Unifies false old new a b =
    ((θ : ℕ → TypeTerm) → IsBelow θ old → AreOne (length old) θ a b → ⊥) × (new ≡ old)
