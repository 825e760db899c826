-- The types and names of the variables of predicates' normal goals. (This project's normal form.)
use Rattle.std.specs.Prelude.{◌≡◌, ◌<◌, ℕ, List, [], map, length, get_or}
use Rattle.mc_program.specs.Programs.{Predicate}
use Rattle.mc_program.specs.PlainPrograms.{plain_type, no_pred}
use Rattle.mc_model.specs.declared.flat.Normal.{Normal}
use Rattle.mc_accepted.specs.NormalTypes.{TypedClause, normal_types, normal_names}
use Rattle.mc_accepted.specs.NormalGoals.{goal_at}

-- the variables of a predicate's goal have the types and names of those of its clauses
pub record IsTypedGoal (p : Predicate) (clauses : List TypedClause) (goal : Normal) : Type 0 where
  pub types : map plain_type goal.var_types ≡ normal_types p.types clauses
  pub names : goal.var_names ≡ normal_names p.types clauses

-- so it is for each of them, by number
abbrev pub HasTypedGoals : List Predicate → List (List TypedClause) → List Normal → Type 0
HasTypedGoals ps css goals =
    (number : ℕ) → number < length goals
    → IsTypedGoal (get_or ps number no_pred) (get_or css number []) (goal_at goals number)
