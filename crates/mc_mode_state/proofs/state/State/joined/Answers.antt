use Rattle.std.proofs.Common.{refl}
use Rattle.mc_mode_state.specs.declared.state.State.{State}
use Rattle.mc_mode_state.proofs.Joins.{typed-at, joined-is, joined-there}
use Rattle.mc_mode_state.proofs.Steps.{stepped-nodes}
use Rattle.mc_mode_state.proofs.state.State.joined.Goals as goal

pub returns-clause-found : goal.returns-clause-found
returns-clause-found c =
    let s = c.args.self.now in
    let t : State = record { insts = s.insts; trail = s.trail; outside = s.outside; types = s.types; nodes = c.joined.new.self } in
    joined-is c.joined.new.procs t c.args.x c.in_ok-node.node c.index.result.now c.args.insts.now c.in_ok-node.ensures.found c.requires.variable
    (typed-at s.types.items c.args.x c.index.result.now c.requires.variable c.index.ensures)

pub returns-clause-there : goal.returns-clause-there
returns-clause-there c =
    joined-there c.args.procs.now c.joined.new.procs c.args.self.now.nodes c.joined.new.self c.in_ok-node.node c.index.result.now c.args.insts.now c.in_ok-node.ensures.moved c.in_ok-node.ensures.found

pub returns-clause-stepped : goal.returns-clause-stepped
returns-clause-stepped c =
    let s = c.args.self.now in
    stepped-nodes c.args.procs.now c.joined.new.procs s
    (record { insts = s.insts; trail = s.trail; outside = s.outside; types = s.types; nodes = c.joined.new.self })
    c.requires.stands refl refl refl refl c.in_ok-node.ensures.moved
