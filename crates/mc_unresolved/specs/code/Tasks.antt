-- What is still to be walked, the next last: the steps that it comes to, and that less is left.
use Rattle.std.specs.Prelude.{◌≡◌, ℕ, suc, ◌+◌, ◌<◌, List, [], ◌∷◌, ◌++◌, length, map}
use Rattle.mc_accepted.specs.Resolving.{Unresolved as PlainUnresolved, Unresolved_goal, equation, atom, all_of, one_of, choice, negation, exists, Unresolved_goals, no_goals, goal_then, Step, term_steps, terms_steps, goal_steps, goals_steps}
use Rattle.mc_unresolved.specs.Unresolved.{plain_unresolved, plain_unresolved_goal, unresolved_terms, unresolved_goals}
use Rattle.mc_unresolved.specs.Steps.{plain_walk_step}
use Rattle.mc_unresolved.specs.declared.term.Unresolved.{Unresolved}
use Rattle.mc_unresolved.specs.declared.goal.UnresolvedGoal.{UnresolvedGoal}
use Rattle.mc_unresolved.specs.declared.steps.WalkStep.{WalkStep}
use Rattle.mc_unresolved.specs.declared.tasks.Task.{Task}
use Rattle.mc_unresolved.specs.declared.tasks.Task.TheVariants as T

abbrev pub task_steps : Task → List Step
task_steps (T.Goal g) = goal_steps (plain_unresolved_goal g.now)
task_steps (T.Term t) = term_steps (plain_unresolved t.now)
task_steps (T.Step s) = plain_walk_step s ∷ []

abbrev pub agenda : List Task → List Step
agenda [] = []
agenda (t ∷ ts) = agenda ts ++ task_steps t

abbrev pub steps_of_terms : List Unresolved → List Step
steps_of_terms ts = terms_steps (unresolved_terms (map plain_unresolved ts))

abbrev pub steps_of_goals : List UnresolvedGoal → List Step
steps_of_goals gs = goals_steps (unresolved_goals (map plain_unresolved_goal gs))

-- twice as much as the steps, and one for each goal that holds others
abbrev pub twice : List Step → ℕ
twice steps = length steps + length steps

abbrev pub term_weight : PlainUnresolved → ℕ
term_weight t = twice (term_steps t)

abbrev pub terms_weight : List Unresolved → ℕ
terms_weight ts = twice (steps_of_terms ts)

abbrev mutual
  pub goal_weight : Unresolved_goal → ℕ
  goal_weight (equation a b) = twice (goal_steps (equation a b))
  goal_weight (atom cs args) = twice (goal_steps (atom cs args))
  goal_weight (all_of gs) = suc (plain_goals_weight gs)
  goal_weight (one_of gs) = suc (plain_goals_weight gs)
  goal_weight (choice vs c t e) = suc (goal_weight c + (goal_weight t + goal_weight e))
  goal_weight (negation g) = suc (goal_weight g)
  goal_weight (exists vs g) = suc (goal_weight g)

  pub plain_goals_weight : Unresolved_goals → ℕ
  plain_goals_weight no_goals = 0
  plain_goals_weight (goal_then g gs) = goal_weight g + plain_goals_weight gs

abbrev pub goals_weight : List UnresolvedGoal → ℕ
goals_weight gs = plain_goals_weight (unresolved_goals (map plain_unresolved_goal gs))

abbrev pub task_weight : Task → ℕ
task_weight (T.Goal g) = goal_weight (plain_unresolved_goal g.now)
task_weight (T.Term t) = term_weight (plain_unresolved t.now)
task_weight (T.Step s) = 1

abbrev pub weight : List Task → ℕ
weight [] = 0
weight (t ∷ ts) = weight ts + task_weight t

-- what comes to these steps, and has this weight, was put in front
pub record Put (steps : List Step) (more : ℕ) (before after : List Task) : Type 0 where
  pub is : agenda after ≡ steps ++ agenda before
  pub weighs : weight after ≡ weight before + more

-- what comes to these steps was put in front, and has less than this weight
pub record Opens (steps : List Step) (whole : ℕ) (before after : List Task) : Type 0 where
  pub is : agenda after ≡ steps ++ agenda before
  pub less : weight after < weight before + whole

-- steps were taken, and what is left is the rest
pub record Takes
    (task : Task) (steps more : List WalkStep) (before after : List Task)
    : Type 0 where
  pub is :
      map plain_walk_step more ++ agenda after
      ≡ map plain_walk_step steps ++ (task_steps task ++ agenda before)
  pub less : weight after < weight before + task_weight task
