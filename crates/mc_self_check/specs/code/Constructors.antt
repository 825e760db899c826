-- What is tested of a program's constructors, type by type. (Mercury Language Reference Manual: Types,
-- discriminated unions.)
use Rattle.std.specs.Prelude.{◌≡◌, ◌&&◌, ℕ, ◌<◌, Bool, List, [], ◌∷◌, ◌++◌, length, get_or, map, nat_eq, if◌then◌else◌}
use Rattle.std.specs.Set.{is_member}
use Rattle.std.specs.Str.{bytes_eq}
use Rattle.mc_program.specs.Programs.{Source}
use Rattle.mc_program.specs.PlainPrograms.{plain_symbol, no_symbol}
use Rattle.mc_program.specs.declared.program.Symbol.{Symbol}
use Rattle.mc_model.specs.Lists.{In}
use Rattle.mc_self_check.specs.declared.functors.Functor.{Functor}

-- a name with a number of arguments
pub record PlainFunctor : Type 0 where
  pub name : List ℕ
  pub arity : ℕ

abbrev pub plain_functor : Functor → PlainFunctor
plain_functor f = record { name = f.name.now; arity = f.arity }

abbrev pub is_functor : PlainFunctor → PlainFunctor → Bool
is_functor f g = bytes_eq f.name g.name && nat_eq f.arity g.arity

-- the functors with one more put in; one that is there stays where it came first
abbrev pub with_functor : List PlainFunctor → PlainFunctor → List PlainFunctor
with_functor fs f = if is_member is_functor fs f then fs else fs ++ f ∷ []

-- the name of a constructor with its number of arguments
abbrev pub functor_of : Source → ℕ → PlainFunctor
functor_of P s =
    record { name = (P.symbols s).name.bytes; arity = (P.symbols s).name.arity }

-- each has as many arguments as its name says
abbrev pub AritiesFit : List Symbol → Type 0
AritiesFit ss =
    (s : ℕ)
    → (get_or (map plain_symbol ss) s no_symbol).name.arity
    ≡ length (get_or (map plain_symbol ss) s no_symbol).args

-- these are constructors of the type, and a name with its number of arguments stands among them once
pub record TypeFits (P : Source) (u : ℕ) (ss : List ℕ) : Type 0 where
  pub owned : (s : ℕ) → In s ss → (P.symbols s).of_type ≡ u
  pub once :
      (i j : ℕ)
      → i < length ss → j < length ss
      → (P.symbols (get_or ss i 0)).name.bytes ≡ (P.symbols (get_or ss j 0)).name.bytes
      → (P.symbols (get_or ss i 0)).name.arity ≡ (P.symbols (get_or ss j 0)).name.arity
      → i ≡ j
