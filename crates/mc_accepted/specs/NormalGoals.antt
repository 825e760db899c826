-- That goals are the normal goals of a program's predicates. (This project's normal form.)
use Rattle.std.specs.Prelude.{◌≡◌, ◌<◌, ℕ, List, [], length, get_or}
use Rattle.mc_program.specs.Programs.{Source}
use Rattle.mc_program.specs.PlainPrograms.{plain_program}
use Rattle.mc_program.specs.declared.program.Program.{Program}
use Rattle.mc_model.specs.Lists.{from}
use Rattle.mc_model.specs.PlainGoals.{plain_flat}
use Rattle.mc_model.specs.declared.flat.Flat.TheVariants.{True}
use Rattle.mc_model.specs.declared.flat.Normal.{Normal}
use Rattle.mc_accepted.specs.Normal.{normal_goal}

-- what stands at a number that no predicate has
abbrev pub no_goal : Normal
no_goal = record { pred = 0; head = []; var_types = []; var_names = []; body = True }

abbrev pub goal_at : List Normal → (predicate : ℕ) → Normal
goal_at goals p = get_or goals p no_goal

-- this is the one goal of a program's predicate, which has its clauses, over the head variables
-- 0, 1, ..
pub record IsNormalGoal (program : Source) (number : ℕ) (goal : Normal) : Type 0 where
  pub pred : goal.pred ≡ number
  pub head : goal.head ≡ from 0 (length (program.preds number).types)
  pub body :
      plain_flat goal.body
      ≡ (normal_goal (length (program.preds number).types) (program.preds number).clauses).body

-- there is one for each of its predicates, by number
pub record HasNormalGoals (program : Program) (goals : List Normal) : Type 0 where
  pub as_many : length goals ≡ length program.preds
  pub each :
      (number : ℕ) → number < length program.preds
      → IsNormalGoal (plain_program program) number (goal_at goals number)
