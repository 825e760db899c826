use Rattle.std.proofs.Common.{refl, sym, ap, ◌∙◌}
use Rattle.mc_model.specs.declared.run.Stop.{Stop}
use Rattle.mc_plain.specs.Rest as R
use Rattle.mc_plain.specs.Rest.{plain_halt}
use Rattle.mc_plain.proofs.Working.{ended_rest, stuck_rest, stopped_rest}
use Rattle.mc_plain.proofs.state.RunState.step.Goals as goal

pub returns-in-Ended : goal.returns-in-Ended
returns-in-Ended c =
    (c.requires.ready, λ input. (ended_rest c.args.t.now c.args.self.now c.in-Ended.is input, ended_rest c.args.t.now c.args.self.now c.in-Ended.is input), tt)

pub returns-in-Stuck : goal.returns-in-Stuck
returns-in-Stuck c = (c.requires.ready, λ input. (stuck_rest c.args.t.now c.args.self.now c.in-Stuck.is input, refl))

pub returns-in_ok-copy-in-Stopped : goal.returns-in_ok-copy-in-Stopped
returns-in_ok-copy-in-Stopped c = (
  c.requires.ready,
  λ input. (stopped_rest c.args.t.now c.args.self.now c.in-Stopped.stop c.in-Stopped.is input ∙ ap (λ (s : Stop). R.stopped (plain_halt s)) (sym c.in_ok-copy-in-Stopped.ensures), refl),
  tt,
)
