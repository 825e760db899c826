use Rattle.std.proofs.Common.{refl}
use Rattle.mc_mode_state.proofs.Steps.{stepped-nodes}
use Rattle.mc_mode_state.proofs.state.State.over.Goals as goal

pub returns-clause-found : goal.returns-clause-found
returns-clause-found c = λ C T a. a.over c.args.symbol c.in_ok-node.node c.args.insts.now c.in_ok-node.ensures.found

pub returns-clause-there : goal.returns-clause-there
returns-clause-there c = (c.in_ok-node.ensures.moved.are.overs c.args.symbol c.in_ok-node.node c.args.insts.now c.in_ok-node.ensures.found).0

pub returns-clause-stepped : goal.returns-clause-stepped
returns-clause-stepped c =
    let s = c.args.self.now in
    stepped-nodes c.args.procs.now c.over.new.procs s
    (record { insts = s.insts; trail = s.trail; outside = s.outside; types = s.types; nodes = c.over.new.self })
    c.requires.stands refl refl refl refl c.in_ok-node.ensures.moved
