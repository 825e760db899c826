-- The laws that tie the types along the walk of a clause to those of the variables of its normal goal.
-- (Mercury Language Reference Manual: Types; this project's profile: the walk, and its normal form.)
use Rattle.std.specs.Prelude.{◌≡◌, ◌↔◌, ℕ, ◌+◌, ◌<◌, ◌≤◌, List, [], ◌∷◌, ◌++◌, map, drop, length, Some}
use Rattle.mc_program.specs.Programs.{TypeTerm, Source}
use Rattle.mc_accepted.specs.ProperTypes.{Parameters, ProperType}
use Rattle.mc_accepted.specs.Typing.{TypedGoal}
use Rattle.mc_accepted.specs.Normal.{head_place, names_in, normal_goal, other_variables}
use Rattle.mc_accepted.specs.MostGeneral.{type_at, rigid_count, generalised, AreNumbered, MostGeneral}
use Rattle.mc_accepted.specs.Resolving.{Unresolved_clause, count, resolved, Step, steps_of, Walks}
use Rattle.mc_source.specs.declared.name.Candidate.{Candidate}
use Rattle.laws_made_types.specs.Makes.{makes, kept}
use Rattle.laws_made_types.specs.Traced.{Traces, HasTypes}
use Rattle.laws_made_types.specs.Known.{AllKnown, WalkIsKnown, ClauseHasValues, ClauseHasNames, Picked}

-- a walk goes through where some types of its occurrences go with it
abbrev pub WalksHaveTraces : Type 0
WalksHaveTraces =
    (P : Source) (D : Parameters) (τ : ℕ → TypeTerm) (steps : List Step) (stack : List TypeTerm)
    (picks : List Candidate)
    → Walks P D τ steps stack picks
    ↔ ((trace : List TypeTerm) × Traces P D τ steps stack picks trace)

-- The picks of a walk fit its steps, and the clause has as many arguments as its predicate has
-- types.
abbrev pub WalksArePicked : Type 0
WalksArePicked =
    (P : Source) (D : Parameters) (clause : Unresolved_clause) (picks : List Candidate)
    (τ : ℕ → TypeTerm)
    → Walks P D τ (steps_of clause) [] picks
    → Picked (steps_of clause) picks
    × (count clause.head ≡ length (P.preds clause.pred).types)

-- the picks of a walk are known where all that its names may stand for is
abbrev pub PicksAreKnown : Type 0
PicksAreKnown =
    (P : Source) (D : Parameters) (τ : ℕ → TypeTerm) (steps : List Step) (stack : List TypeTerm)
    (picks : List Candidate)
    → WalkIsKnown P D steps → Walks P D τ steps stack picks → AllKnown P D picks

-- The normal goal is typed with the predicate's types at its head variables, these types of the
-- clause's own variables, and these of those that it makes.
pub record TypedWith
    (P : Source) (clause : Unresolved_clause) (picks : List Candidate) (τ : ℕ → TypeTerm)
    (made : List TypeTerm)
    : Type 0 where
  pub as_many :
      length
      ((P.preds clause.pred).types ++ (map τ (other_variables (resolved clause picks)) ++ made))
      ≡ (normal_goal (length (P.preds clause.pred).types) (resolved clause picks ∷ [])).variables
  pub heads :
      (v k : ℕ)
      → head_place v (resolved clause picks).head ≡ Some k
      → τ v ≡ type_at (P.preds clause.pred).types k
  pub typed :
      TypedGoal P
      (type_at
      ((P.preds clause.pred).types ++ (map τ (other_variables (resolved clause picks)) ++ made)))
      (normal_goal (length (P.preds clause.pred).types) (resolved clause picks ∷ [])).body

-- What a walk types, the normal goal has, with the types of those occurrences that have variables of
-- their own.
abbrev pub TracesAreTyped : Type 0
TracesAreTyped =
    (P : Source) (D : Parameters) (clause : Unresolved_clause) (picks : List Candidate)
    (τ : ℕ → TypeTerm) (trace : List TypeTerm)
    → AllKnown P D picks
    → ClauseHasValues P clause
    → Traces P D τ (steps_of clause) [] picks trace
    → TypedWith P clause picks τ (kept (makes clause) trace)

-- the number of the first variable that a normal goal makes
abbrev pub first_made : Source → Unresolved_clause → List Candidate → ℕ
first_made P clause picks =
    length (P.preds clause.pred).types + length (other_variables (resolved clause picks))

-- What the normal goal has, a walk types: in any well formed typing, with the predicate's types at
-- the head, the types of the clause's variables are those of a walk, and the variables that the goal
-- makes have those of their occurrences in it.
abbrev pub TypedAreTraced : Type 0
TypedAreTraced =
    (P : Source) (D : Parameters) (clause : Unresolved_clause) (picks : List Candidate)
    (T : ℕ → TypeTerm)
    → AllKnown P D picks
    → Picked (steps_of clause) picks
    → ((v : ℕ) → ProperType D (T v))
    → count clause.head ≡ length (P.preds clause.pred).types
    → ((k : ℕ)
    → k < length (P.preds clause.pred).types → T k ≡ type_at (P.preds clause.pred).types k)
    → TypedGoal P T
    (normal_goal (length (P.preds clause.pred).types) (resolved clause picks ∷ [])).body
    → (trace : List TypeTerm)
    × Traces P D
    (λ v. T (names_in (length (P.preds clause.pred).types) (resolved clause picks) v))
    (steps_of clause) [] picks trace
    × HasTypes T (first_made P clause picks) (kept (makes clause) trace)

-- These types of the variables of a clause, of which it has so many, and behind them of those
-- occurrences that have variables of their own, are the most general: any types that the picks allow
-- come of them by types for the type variables that are not rigid, and each choice of types for these
-- is allowed.
pub record AreVariableTypes
    (P : Source) (D : Parameters) (clause : Unresolved_clause) (picks : List Candidate) (vars : ℕ)
    (types : List TypeTerm)
    : Type 0 where
  pub own : vars ≤ length types
  pub general :
      (τ : ℕ → TypeTerm) (trace : List TypeTerm)
      → Traces P D τ (steps_of clause) [] picks trace
      → (σ : ℕ → TypeTerm)
      × ((v : ℕ)
      → v < vars → τ v ≡ generalised (rigid_count (P.preds clause.pred).types) σ (type_at types v))
      × (kept (makes clause) trace
      ≡ map (generalised (rigid_count (P.preds clause.pred).types) σ) (drop vars types))
  pub typed :
      (σ : ℕ → TypeTerm)
      → (τ : ℕ → TypeTerm)
      × (trace : List TypeTerm)
      × Traces P D τ (steps_of clause) [] picks trace
      × ((v : ℕ)
      → v < vars → τ v ≡ generalised (rigid_count (P.preds clause.pred).types) σ (type_at types v))
      × (kept (makes clause) trace
      ≡ map (generalised (rigid_count (P.preds clause.pred).types) σ) (drop vars types))
  pub numbered : AreNumbered (rigid_count (P.preds clause.pred).types) types

-- They are the most general types of the normal goal.
abbrev pub TypesAreGeneral : Type 0
TypesAreGeneral =
    (P : Source) (D : Parameters) (clause : Unresolved_clause) (picks : List Candidate) (vars : ℕ)
    (types : List TypeTerm) (names : List (List ℕ))
    → AllKnown P D picks
    → ClauseHasValues P clause
    → ClauseHasNames vars clause
    → AreVariableTypes P D clause picks vars types
    → MostGeneral P D (P.preds clause.pred).types
    (record {
      clause = resolved clause picks;
      variables = vars;
      types = types;
      names = names;
    })
