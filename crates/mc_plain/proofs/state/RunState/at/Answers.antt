use Rattle.std.proofs.Common.{sym, ◌∙◌}
use Rattle.mc_plain.proofs.Working.{absent_moves}
use Rattle.mc_plain.proofs.state.RunState.at.Goals as goal

pub run-requires : goal.run-requires
run-requires c =
    record { setting = c.requires.setting; ready = c.requires.ready; now = c.requires.now; goal_is = sym c.goal.ensures ∙ c.in-Some.is }

pub returns-in-None : goal.returns-in-None
returns-in-None c =
    absent_moves c.args.t.now c.args.self.now c.args.place c.requires.setting c.requires.ready c.requires.now (sym c.goal.ensures ∙ c.in-None.is)
