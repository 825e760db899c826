-- The law that a predicate's one normal goal says of its head variables what its clauses say of
-- arguments. (Mercury Language Reference Manual: Semantics, the completion of a predicate's
-- clauses; this project's normal form.)
use Rattle.std.specs.Prelude.{◌≡◌, ℕ, List, map, length}
use Rattle.mc_program.specs.Values.{Val}
use Rattle.mc_program.specs.Programs.{ClauseForm}
use Rattle.mc_model.specs.Truth.{Assignment, Facts, World, SomeClause, NoClause, stage}
use Rattle.mc_model.specs.Flat.{FlatYes, FlatNo}
use Rattle.mc_accepted.specs.Normal.{normal_goal}
use Rattle.mc_model.specs.Lists.{from}
use Rattle.mc_accepted.specs.Fits.{HeadsHave}

-- the head variables 0, 1, .. have these values
abbrev pub AtHead : List Val → Assignment → Type 0
AtHead ws u = map u (from 0 (length ws)) ≡ ws

-- An answer of the normal goal at these arguments makes a clause true of them; and where the goal
-- is false for all values of its other variables, each clause is false of them. (The goal
-- quantifies none of its variables at its top.)
pub record PredicateCarries
    (C : Facts) (arity : ℕ) (cls : List ClauseForm) (ws : List Val) : Type 0 where
  pub yes :
      (u : Assignment)
      → AtHead ws u → FlatYes C (normal_goal arity cls).body u → SomeClause C cls ws
  pub no :
      ((u : Assignment) → AtHead ws u → FlatNo C (normal_goal arity cls).body u) → NoClause C cls ws

-- at every stage, of as many arguments as the clauses have
abbrev pub PredicatesCarry : Type 0
PredicatesCarry =
    (P : World) (m arity : ℕ) (cls : List ClauseForm) → HeadsHave arity cls →
    (ws : List Val) → length ws ≡ arity → PredicateCarries (stage P m) arity cls ws
