use Rattle.std.proofs.Common.{◌<◌, ◌∙◌, ◌+◌, ◌++◌, length, drop, ap, arith, append_assoc}
use Rattle.mc_model.specs.Flat.{variables_of}
use Rattle.mc_model.specs.PlainGoals.{plain_flat}
use Rattle.mc_modes.specs.code.Waiting.{goals_at, variables_of_each}
use Rattle.mc_modes.proofs.Placing.{each-from}
use Rattle.mc_modes.proofs.waiting.variables_at.Goals as goal

pub loop-place-preserved : goal.loop-place-preserved
loop-place-preserved c =
    let gs = c.args.goals.now in
    let ks = c.args.waiting.now in
    let k = c.loop-place.place in
    let x = c.goal_at.result.now in
    let list = c.loop-place.list.items in
    let after = variables_of_each (goals_at gs (drop (k + 1) ks)) in
    let h : k < length ks = omega (arith, c.loop-place-test.true) in
    ap (λ l. l ++ after) c.in_ok-push_variables.ensures
    ∙ (append_assoc list (variables_of (plain_flat x)) after
    ∙ (ap (λ vs. list ++ vs) (ap (λ y. variables_of (plain_flat y) ++ after) c.goal_at.ensures ∙ each-from gs ks k x c.requires h) ∙ c.loop-place.invariant))
