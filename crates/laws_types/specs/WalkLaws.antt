-- The laws that tie the walk of a clause to the typing of its normal goal. (Mercury Language
-- Reference Manual: Types; this project's profile: the walk, and its normal form.)
use Rattle.std.specs.Prelude.{◌≡◌, ℕ, ◌<◌, List, [], ◌∷◌, ◌++◌, map, length, Some}
use Rattle.mc_program.specs.Programs.{TypeTerm, Source}
use Rattle.mc_accepted.specs.ProperTypes.{Parameters, ProperType}
use Rattle.mc_accepted.specs.Typing.{TypedGoal}
use Rattle.mc_accepted.specs.Normal.{head_place, names_in, normal_goal, other_variables}
use Rattle.mc_accepted.specs.MostGeneral.{type_at}
use Rattle.mc_accepted.specs.Resolving.{Unresolved_clause, count, resolved, steps_of, Walks, Resolves}
use Rattle.mc_source.specs.declared.name.Candidate.{Candidate}
use Rattle.laws_made_types.specs.Known.{AllKnown, ClauseHasValues, Picked}

-- What a walk types, the normal goal has: the head variables have the predicate's types, the
-- clause's own variables those of the walk, and there are types for the variables that are made.
pub record NormalTyped
    (P : Source) (clause : Unresolved_clause) (picks : List Candidate) (τ : ℕ → TypeTerm)
    : Type 0 where
  pub made : List TypeTerm
  pub as_many :
      length
      ((P.preds clause.pred).types ++ (map τ (other_variables (resolved clause picks)) ++ made))
      ≡ (normal_goal (length (P.preds clause.pred).types) (resolved clause picks ∷ [])).variables
  pub heads :
      (v k : ℕ)
      → head_place v (resolved clause picks).head ≡ Some k
      → τ v ≡ type_at (P.preds clause.pred).types k
  pub typed :
      TypedGoal P
      (type_at
      ((P.preds clause.pred).types ++ (map τ (other_variables (resolved clause picks)) ++ made)))
      (normal_goal (length (P.preds clause.pred).types) (resolved clause picks ∷ [])).body

abbrev pub WalksAreTyped : Type 0
WalksAreTyped =
    (P : Source) (D : Parameters) (clause : Unresolved_clause) (picks : List Candidate)
    (τ : ℕ → TypeTerm)
    → AllKnown P D picks
    → ClauseHasValues P clause
    → Walks P D τ (steps_of clause) [] picks → NormalTyped P clause picks τ

-- What the normal goal has, a walk types: the types of the clause's variables in any well formed
-- typing, with the predicate's types at the head, are those of a walk.
abbrev pub TypedAreWalked : Type 0
TypedAreWalked =
    (P : Source) (D : Parameters) (clause : Unresolved_clause) (picks : List Candidate)
    (T : ℕ → TypeTerm)
    → AllKnown P D picks
    → Picked (steps_of clause) picks
    → ((v : ℕ) → ProperType D (T v))
    → count clause.head ≡ length (P.preds clause.pred).types
    → ((k : ℕ)
    → k < length (P.preds clause.pred).types → T k ≡ type_at (P.preds clause.pred).types k)
    → TypedGoal P T
    (normal_goal (length (P.preds clause.pred).types) (resolved clause picks ∷ [])).body
    → Walks P D
    (λ v. T (names_in (length (P.preds clause.pred).types) (resolved clause picks) v))
    (steps_of clause) [] picks

-- a clause that picks type has as many arguments as its predicate has types
abbrev pub ResolvedHeadsFit : Type 0
ResolvedHeadsFit =
    (P : Source) (D : Parameters) (clause : Unresolved_clause) (picks : List Candidate)
    → Resolves P D clause picks
    → length (resolved clause picks).head ≡ length (P.preds clause.pred).types
