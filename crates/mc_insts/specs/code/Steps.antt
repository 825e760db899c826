-- What a visit finds.
use Rattle.std.specs.Prelude.{◌≡◌, ℕ, ◌<◌, false, List, length, get_or}
use Rattle.mc_insts.specs.declared.graph.Case.{Case}
use Rattle.mc_insts.specs.declared.graph.Shape.{Shape}
use Rattle.mc_insts.specs.declared.graph.Shape.TheVariants as S
use Rattle.mc_insts.specs.declared.triples.Triple.{Triple}
use Rattle.mc_insts.specs.code.Cases.{node_has}
use Rattle.mc_insts.specs.code.Walks.{Scene, Counts, Passed, high_of, arity_of}

abbrev pub same_of : ℕ → ℕ → ℕ → Triple
same_of a b c = record { low = a; high = b; row = c }

-- a functor counts, and the second node doesn't list it
pub record Refused (C : Scene) (t : Triple) : Type 0 where
  pub functor : ℕ
  pub counts : Counts C t functor
  pub unlisted : node_has (high_of C t) functor ≡ false

-- the cases have their functors' numbers of arguments
abbrev pub Arities : Scene → List Case → Type 0
Arities C cs = (k : ℕ) (d : Case) → k < length cs → length (get_or cs k d).args ≡ arity_of C (get_or cs k d).functor

-- the first n cases passed
abbrev pub PassedCases : Scene → List Triple → Triple → List Case → ℕ → Type 0
PassedCases C seen t cs n = (m : ℕ) (d : Case) → m < n → Counts C t (get_or cs m d).functor → Passed C seen t (get_or cs m d).functor

-- all constructors of a union passed
abbrev pub PassedUnion : Scene → List Triple → Triple → Shape → Type 0
PassedUnion C seen t (S.Union cs) = PassedCases C seen t cs (length cs)
PassedUnion C seen t _ = Unit {0}
