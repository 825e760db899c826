-- A constructor by its functor.
use Rattle.std.specs.Prelude.{◌≡◌, ℕ, List}
use Rattle.mc_program.specs.Programs.{Source}
use Rattle.mc_insts.specs.code.Functors.{Functor}
use Rattle.mc_insts.specs.code.Walks.{functor_at}

-- the constructor has the functor's name and number of arguments
pub record IsFunctorOf (P : Source) (fs : List Functor) (f s : ℕ) : Type 0 where
  pub name : (functor_at fs f).name ≡ (P.symbols s).name.bytes
  pub arity : (functor_at fs f).arity ≡ (P.symbols s).name.arity
