use Rattle.std.proofs.Common.{◌∙◌, sym}
use Rattle.mc_accepted.specs.NodeOracle.{of_nodes}
use Rattle.mc_procs.specs.Procedures.{source_of}
use Rattle.mc_mode_state.specs.States.{point_of}
use Rattle.mc_mode_state.proofs.Steps.{stepped-refl, stepped-set}
use Rattle.mc_mode_state.proofs.LeftInsts.{left-input, left-stays, left-given}
use Rattle.mc_mode_state.proofs.state.State.leave_one.Goals as goal

pub returns-then-is_bound-clause-left : goal.returns-then-is_bound-clause-left
returns-then-is_bound-clause-left c = λ declared C T a.
    left-input (of_nodes C) (source_of c.args.procs.now) declared T c.args.first c.args.last c.args.is_there c.args.x (point_of c.args.self.now.insts.items) (sym c.is_bound.ensures ∙ c.if-is_bound.true)
    ∙ c.in_ok-leave_input.ensures.left declared C T a

pub returns-then-stays-clause-left : goal.returns-then-stays-clause-left
returns-then-stays-clause-left c = λ declared C T a.
    left-stays (of_nodes C) (source_of c.args.procs.now) declared T c.args.first c.args.last c.args.is_there c.args.x (point_of c.args.self.now.insts.items) (sym c.is_bound.ensures ∙ c.if-is_bound.false) (sym c.stays.ensures ∙ c.if-stays.true)

pub returns-then-stays-clause-stepped : goal.returns-then-stays-clause-stepped
returns-then-stays-clause-stepped c = stepped-refl c.args.procs.now c.args.self.now c.requires.stands

pub returns-clause-left : goal.returns-clause-left
returns-clause-left c = λ declared C T a.
    left-given (of_nodes C) (source_of c.args.procs.now) declared T c.args.first c.args.last c.args.is_there c.args.x (point_of c.args.self.now.insts.items) (sym c.is_bound.ensures ∙ c.if-is_bound.false) (sym c.stays.ensures ∙ c.if-stays.false)
    ∙ sym c.in_ok-set.ensures.point

pub returns-clause-stepped : goal.returns-clause-stepped
returns-clause-stepped c =
    let e = c.in_ok-set.ensures in
    stepped-set c.args.procs.now c.args.self.now c.set.new.self c.args.x c.args.last c.requires.stands c.requires.variable c.requires.inst e.point e.trail e.count e.outside e.types e.nodes
