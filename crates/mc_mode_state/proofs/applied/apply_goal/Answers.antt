use Rattle.std.proofs.Common.{◌∙◌, Bool, List, ap, ap₂}
use Rattle.mc_model.specs.Scheduled as S
use Rattle.mc_accepted.specs.Ordered.{at_inputs, at_outputs}
use Rattle.mc_procs.proofs.Views.{plain_sched-Apply}
use Rattle.mc_mode_state.proofs.Freshening.{mode-bound}
use Rattle.mc_mode_state.proofs.applied.apply_goal.Goals as goal

pub returns : goal.returns
returns c =
    let fs = c.args.mode.now.first in
    let ls = c.args.mode.now.last in
    let xs = c.args.xs.now in
    let e = mode-bound c.args.op fs ls c.requires.modes c.requires.many in
    plain_sched-Apply c.args.op c.in_ok-inputs.inputs c.in_ok-outputs.outputs
    ∙ ap₂ (S.Apply c.args.op)
    (c.in_ok-inputs.ensures ∙ ap (λ (bs : List Bool). at_inputs bs xs) e)
    (c.in_ok-outputs.ensures ∙ ap (λ (bs : List Bool). at_outputs bs xs) e)
