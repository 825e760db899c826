-- Functors: what bound insts and types list constructors by.
use Rattle.std.specs.Prelude.{ℕ, List}

-- a name with a number of arguments
pub record Functor : Type 0 where
  pub name : List ℕ
  pub arity : ℕ

abbrev pub functor_named : List ℕ → ℕ → Functor
functor_named name arity = record { name = name; arity = arity }
