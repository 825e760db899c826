use Rattle.std.proofs.Common.{◌≡◌, true, false, arith}
use Rattle.std.proofs.lemmas.Grind.{common_steps}
use Rattle.mc_model.specs.PlainGoals.{plain_node}
use Rattle.mc_accepted.specs.Switched.{is_equation}
use Rattle.mc_switch.specs.Openings.{plain_openings}
use Rattle.mc_switch.proofs.Pushing.{stops, goes}
use Rattle.mc_switch.proofs.opening.+openings.Goals as goal

pub push_equations-returns-then-not-is_equation : goal.push_equations-returns-then-not-is_equation
push_equations-returns-then-not-is_equation t c =
    let g = c.goal-item.result in
    let halts : is_equation (plain_node g) ≡ false = grind (arith, common_steps) in
    stops c.args.goals.now c.loop-goal.goal-index g (plain_openings c.loop-goal.opened.items) _ c.loop-goal-test.true c.goal-item.is halts c.loop-goal.invariant

pub push_equations-loop-goal-preserved : goal.push_equations-loop-goal-preserved
push_equations-loop-goal-preserved t c =
    let g = c.goal-item.result in
    let holds : is_equation (plain_node g) ≡ true = grind (arith, common_steps) in
    goes c.args.goals.now c.loop-goal.goal-index g (plain_openings c.loop-goal.opened.items) (plain_openings c.push_openings.new.opened.items) _ c.loop-goal-test.true c.goal-item.is holds c.in_ok-push_openings.ensures c.loop-goal.invariant
