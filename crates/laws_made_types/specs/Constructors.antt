-- The law that ties what a candidate takes to the typing of flat goals: a constructor of a type that
-- is declared with so many parameters takes types in one exactly where it is typed in the other.
-- (Mercury Language Reference Manual: Types.)
use Rattle.std.specs.Prelude.{◌≡◌, ℕ, true, List, [], ◌∷◌, ◌++◌, Some}
use Rattle.mc_program.specs.Programs.{TypeTerm, Source}
use Rattle.mc_model.specs.Lists.{is_in}
use Rattle.mc_accepted.specs.ProperTypes.{Parameters, ProperType, EachBelow}
use Rattle.mc_accepted.specs.Typing.{constructor_types}
use Rattle.mc_accepted.specs.Resolving.{Takes}
use Rattle.mc_source.specs.declared.name.Candidate.TheVariants as C

-- The constructor's type lists it and has so many parameters, and its arguments' types are over these
-- alone.
pub record IsDeclared (P : Source) (D : Parameters) (s k : ℕ) : Type 0 where
  pub listed : is_in s (P.symbols_of (P.symbols s).of_type) ≡ true
  pub parameters : D (P.symbols s).of_type ≡ Some k
  pub arguments : EachBelow k (P.symbols s).args

abbrev pub ConstructorsTake : Type 0
ConstructorsTake =
    (P : Source) (D : Parameters) (s k : ℕ) (ts : List TypeTerm) (t : TypeTerm)
    → IsDeclared P D s k
    → Takes P D (C.Con s) (ts ++ t ∷ []) → constructor_types P s t ≡ Some ts

abbrev pub ConstructorsAreTaken : Type 0
ConstructorsAreTaken =
    (P : Source) (D : Parameters) (s k : ℕ) (ts : List TypeTerm) (t : TypeTerm)
    → IsDeclared P D s k
    → ProperType D t → constructor_types P s t ≡ Some ts → Takes P D (C.Con s) (ts ++ t ∷ [])
