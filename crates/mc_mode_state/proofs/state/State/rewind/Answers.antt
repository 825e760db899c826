use Rattle.std.proofs.Common.{ap, sym}
use Rattle.mc_mode_state.specs.declared.state.Snapshot.{Snapshot}
use Rattle.mc_mode_state.proofs.Returns.{stepped-back}
use Rattle.mc_mode_state.proofs.state.State.rewind.Goals as goal

pub returns-clause-point : goal.returns-clause-point
returns-clause-point c = λ q r s step is. (c.back.ensures.back s step.later.leads (ap (λ (m : Snapshot). m.trail) (sym is))).0

pub returns-clause-stepped : goal.returns-clause-stepped
returns-clause-stepped c = λ q r s st step is.
    let b = c.back.ensures.back s step.later.leads (ap (λ (m : Snapshot). m.trail) (sym is)) in
    let e = c.back.ensures in
    stepped-back q r s c.args.self.now c.back.new.self st step b.0 b.1 e.count e.outside e.types e.nodes
