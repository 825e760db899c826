-- The step of a walk that each stands for. (This project's profile.)
use Rattle.mc_accepted.specs.Resolving.{Step, push_variable, push_number, push_text, choose, equate, call, close_head}
use Rattle.mc_unresolved.specs.declared.steps.WalkStep.{WalkStep}
use Rattle.mc_unresolved.specs.declared.steps.WalkStep.TheVariants as W

abbrev pub plain_walk_step : WalkStep → Step
plain_walk_step (W.Variable v) = push_variable v
plain_walk_step W.Number = push_number
plain_walk_step W.Text = push_text
plain_walk_step (W.Choose candidates n) = choose candidates.now n
plain_walk_step W.Equate = equate
plain_walk_step (W.Call candidates n) = call candidates.now n
plain_walk_step (W.CloseHead p n) = close_head p n
