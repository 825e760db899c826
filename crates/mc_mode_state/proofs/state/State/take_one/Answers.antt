use Rattle.mc_mode_state.proofs.Steps.{stepped-set}
use Rattle.mc_mode_state.proofs.state.State.take_one.Goals as goal

pub returns-clause-stepped : goal.returns-clause-stepped
returns-clause-stepped c = λ q st k.
    let e = c.in_ok-set.ensures in
    stepped-set q c.args.self.now c.set.new.self c.args.y c.args.inst st c.requires k e.point e.trail e.count e.outside e.types e.nodes
