-- Programs whose types are regular. (Mercury Language Reference Manual: Types; that types are
-- regular is this project's profile.)
use Rattle.std.specs.Prelude.{◌≡◌, ℕ, ◌≤◌, Bool, false, nat_eq, List, [], ◌∷◌, ◌++◌, if◌then◌else◌}
use Rattle.mc_program.specs.Programs.{TypeTerm, Source}
use Rattle.mc_components.specs.Reached.{reaches}
use Rattle.mc_type_table.specs.Rules.{types_in_all, is_one_irregular}
use Rattle.laws_order.specs.SomeTest.{TypesMet}

module _ (P : Source) where
  -- the body of a union: the types of its constructors' arguments
  abbrev pub arguments_among : (u : ℕ) → (constructors : List ℕ) → List TypeTerm
  arguments_among u [] = []
  arguments_among u (s ∷ ss) =
      (if nat_eq (P.symbols s).of_type u then (P.symbols s).args else []) ++ arguments_among u ss

  abbrev pub body : ℕ → List TypeTerm
  body u = arguments_among u (P.symbols_of u)

  -- Whether two unions are in one group, of which the first stands in the body of the second: each
  -- reaches the other by what stands in bodies.
  abbrev pub is_of_group : (bound : ℕ) → (inner outer : ℕ) → Bool
  is_of_group n inner outer = reaches (λ u. types_in_all (body u)) n inner outer

  -- The unions are numbered below a bound, and in the body of each every union of its group has as
  -- arguments type variables and types without variables alone.
  pub record AreRegular (bound : ℕ) : Type 0 where
    pub end : (u : ℕ) → bound ≤ u → P.symbols_of u ≡ []
    pub regular : (u : ℕ) → is_one_irregular (λ k. is_of_group bound k u) (body u) ≡ false

abbrev pub FinitelyManyMet : Type 0
FinitelyManyMet = (P : Source) (n : ℕ) → AreRegular P n → (t : TypeTerm) → TypesMet P t
