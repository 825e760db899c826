-- Types that are written out over the numbers of their free places.
use Rattle.std.specs.Prelude.{◌≡◌, ℕ, ◌<◌, Bool, true, false, List, [], ◌∷◌, map}
use Rattle.mc_program.specs.Programs.{TypeTerm, variable_type, union_type, TypeTerms}
use Rattle.mc_model.specs.Lists.{is_in}
use Rattle.mc_model.specs.Types.{instance_of}
use Rattle.mc_accepted.specs.MostGeneral.{at_least, variables_of}
use Rattle.mc_types.specs.Trees.{with_argument}
use Rattle.mc_types.specs.declared.written_types.Written.{Written}
use Rattle.mc_typecheck.specs.WrittenTypes.{type_written}
use Rattle.mc_typecheck.specs.VariableTypes.{free_of, free_in, number_of}
use Rattle.mc_typecheck.specs.code.Numbering.{Knows}
use Rattle.mc_typecheck.specs.declared.numbers.Numbers.{Numbers}

-- the type is that one, with these numbers for its free places
pub record IsWrittenOut (r : ℕ) (number : ℕ → ℕ) (w : Written) (t : TypeTerm) : Type 0 where
  pub variables : at_least r (variables_of t) ≡ map number (free_of w)
  pub stands :
      (σ τ : ℕ → TypeTerm)
      → ((k : ℕ) → is_in k (free_of w) ≡ true → τ (number k) ≡ σ k)
      → ((v : ℕ) → v < r → τ v ≡ variable_type v)
      → instance_of τ t ≡ type_written σ w

-- a union type with one argument more
pub record IsApplied (f x t : TypeTerm) : Type 0 where
  pub name : ℕ
  pub args : TypeTerms
  pub function : f ≡ union_type name args
  pub is : t ≡ union_type name (with_argument x args)

-- each of some types is the one of the other list
abbrev pub AllOut : (r : ℕ) (number : ℕ → ℕ) → List Written → List TypeTerm → Type 0
AllOut r number [] [] = Unit {0}
AllOut r number [] (t ∷ ts) = ⊥
AllOut r number (w ∷ ws) [] = ⊥
AllOut r number (w ∷ ws) (t ∷ ts) = IsWrittenOut r number w t × AllOut r number ws ts

-- these types were written out, and their free places have numbers
pub record OutSoFar (r : ℕ) (front : List Written) (types : List TypeTerm) (n : Numbers) : Type 0 where
  pub knows : Knows r (free_in front) n
  pub out : AllOut r (number_of r (free_in front)) front types

-- a type that is asked for
abbrev pub asked_for : Bool → Written → List Written
asked_for true w = w ∷ []
asked_for false w = []
