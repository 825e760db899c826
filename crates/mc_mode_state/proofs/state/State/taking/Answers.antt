use Rattle.std.proofs.Common.{◌∙◌, ap}
use Rattle.mc_model.specs.Scheduled as S
use Rattle.mc_procs.proofs.Views.{plain_sched-Take}
use Rattle.mc_mode_state.proofs.AtomOutcomes.{one_goal}
use Rattle.mc_mode_state.proofs.state.State.taking.Goals as goal

pub returns-clause-goals : goal.returns-clause-goals
returns-clause-goals c = λ s leads same.
    let x = c.args.x in
    let f = c.args.symbol in
    c.in_ok-part.ensures.goals s leads same
    ∙ ap (one_goal s c.args.self.now c.args.reachable) (plain_sched-Take x f c.in_ok-row.row ∙ ap (S.Take x f) c.in_ok-row.ensures)
