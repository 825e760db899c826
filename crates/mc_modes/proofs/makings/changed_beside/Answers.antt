use Rattle.std.proofs.Common.{◌∙◌, ◌++◌, ap}
use Rattle.mc_modes.proofs.DelayedGoals.{joined, others-are}
use Rattle.mc_modes.proofs.makings.changed_beside.Goals as goal

pub returns : goal.returns
returns c =
    joined _ _ _ c.args.others.now _ _ c.in_ok-push_all_changed-2.ensures c.in_ok-push_all_changed.ensures c.in_ok-list.ensures.items
    ∙ ap (λ vs. c.args.others.now ++ vs) (others-are c.args.goals.now c.args.place)
