-- The normal goals of a program's predicates. (This project's normal form.)
use Rattle.std.specs.Prelude.{◌≡◌, ℕ, List, map, length, Some, slice_get}
use Rattle.mc_program.specs.PlainPrograms.{plain_type}
use Rattle.mc_program.specs.declared.program.Pred.{Pred}
use Rattle.mc_program.specs.declared.program.Resolved.{Resolved}
use Rattle.mc_model.specs.Lists.{from}
use Rattle.mc_model.specs.PlainGoals.{plain_flat}
use Rattle.mc_model.specs.declared.flat.Normal.{Normal}
use Rattle.mc_accepted.specs.Normal.{normal_goal}
use Rattle.mc_accepted.specs.NormalTypes.{normal_types, normal_names}
use Rattle.mc_goals.specs.Resolved.{clause_of, typed_clause}

-- this is the normal goal of the predicate of a number and of its clauses
pub record IsNormal (number : ℕ) (p : Pred) (clauses : List Resolved) (goal : Normal) : Type 0 where
  pub pred : goal.pred ≡ number
  pub head : goal.head ≡ from 0 (length p.types)
  pub body :
      plain_flat goal.body ≡ (normal_goal (length p.types) (map clause_of clauses)).body
  pub types :
      map plain_type goal.var_types
      ≡ normal_types (map plain_type p.types) (map typed_clause clauses)
  pub names : goal.var_names ≡ normal_names (map plain_type p.types) (map typed_clause clauses)

-- these are those of predicates, by number
pub record AreNormal (preds : List Pred) (clauses : List (List Resolved)) (goals : List Normal) : Type 0 where
  pub count : length goals ≡ length clauses
  pub each :
      (number : ℕ) (goal : Normal) (pred : Pred) (own : List Resolved)
      → slice_get goals number ≡ Some goal
      → slice_get preds number ≡ Some pred
      → slice_get clauses number ≡ Some own
      → IsNormal number pred own goal
