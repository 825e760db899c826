-- What insts ask of a program. (Mercury Language Reference Manual: Types, discriminated unions.)
use Rattle.std.specs.Prelude.{◌≡◌, ℕ, ◌<◌, length, get_or}
use Rattle.mc_program.specs.Programs.{Source}
use Rattle.mc_model.specs.Lists.{In}

-- A constructor has as many arguments as its name says. A type lists constructors of its own, and
-- lists a name with its number of arguments once.
pub record FitsConstructors (P : Source) : Type 0 where
  pub arities : (s : ℕ) → (P.symbols s).name.arity ≡ length (P.symbols s).args
  pub owned : (u s : ℕ) → In s (P.symbols_of u) → (P.symbols s).of_type ≡ u
  pub once :
      (u i j : ℕ)
      → i < length (P.symbols_of u) → j < length (P.symbols_of u)
      → (P.symbols (get_or (P.symbols_of u) i 0)).name.bytes
      ≡ (P.symbols (get_or (P.symbols_of u) j 0)).name.bytes
      → (P.symbols (get_or (P.symbols_of u) i 0)).name.arity
      ≡ (P.symbols (get_or (P.symbols_of u) j 0)).name.arity
      → i ≡ j
