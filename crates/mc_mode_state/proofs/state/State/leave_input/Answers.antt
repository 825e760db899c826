use Rattle.std.proofs.Common.{◌∙◌, ◌<◌, sym, arith}
use Rattle.mc_insts.specs.Graphs.{count_of}
use Rattle.mc_procs.specs.Procedures.{source_of}
use Rattle.mc_mode_state.specs.Agreeing.{LaterByTrail}
use Rattle.mc_mode_state.proofs.Ahead.{agrees-before}
use Rattle.mc_mode_state.proofs.Steps.{stepped-set, stepped-trans}
use Rattle.mc_mode_state.proofs.LeftInsts.{input-dies, input-kept, input-changed}
use Rattle.mc_mode_state.proofs.state.State.leave_input.Goals as goal

pub returns-then-last-eq-DEAD-clause-stepped : goal.returns-then-last-eq-DEAD-clause-stepped
returns-then-last-eq-DEAD-clause-stepped c =
    let e = c.in_ok-set.ensures in
    stepped-set c.args.procs.now c.args.self.now c.set.new.self c.args.x c.args.last c.requires.stands c.requires.variable c.requires.inst e.point e.trail e.count e.outside e.types e.nodes

pub returns-then-last-eq-DEAD-clause-left : goal.returns-then-last-eq-DEAD-clause-left
returns-then-last-eq-DEAD-clause-left c = λ declared C T a.
    let q = c.args.procs.now in
    let s = c.args.self.now in
    let e = c.in_ok-set.ensures in
    let step : LaterByTrail q q s c.set.new.self = stepped-set q s c.set.new.self c.args.x c.args.last c.requires.stands c.requires.variable c.requires.inst e.point e.trail e.count e.outside e.types e.nodes in
    input-dies q s declared c.requires.stands C T (agrees-before q q s c.set.new.self C T c.requires.stands step.moved a) (source_of q) c.args.x c.args.first c.args.last c.requires.inst c.if-last-eq-DEAD.true
    ∙ sym e.point

pub returns-then-fits-clause-left : goal.returns-then-fits-clause-left
returns-then-fits-clause-left c = λ declared C T a.
    let q = c.args.procs.now in
    let r = c.fits.new.procs in
    let f = c.in_ok-fits.ensures in
    let more = f.stepped.moved.nodes.grown.more in
    let old = c.requires.inst in
    let l : c.args.last < count_of r.insts = omega arith in
    input-kept r c.args.self.now declared f.stepped.moved.stands C T a (source_of q) c.args.x c.args.first c.args.last l (λ e. c.if-last-eq-DEAD.false e) (f.fits C T a ∙ c.if-fits.true)

pub returns-clause-stepped : goal.returns-clause-stepped
returns-clause-stepped c =
    let q = c.args.procs.now in
    let r = c.fits.new.procs in
    let s = c.args.self.now in
    let t = c.set-2.new.self in
    let f = c.in_ok-fits.ensures in
    let e = c.in_ok-set-2.ensures in
    let more = f.stepped.moved.nodes.grown.more in
    let old = c.requires.inst in
    let l : c.args.last < count_of r.insts = omega arith in
    stepped-trans q r r s s t f.stepped
    (stepped-set r s t c.args.x c.args.last f.stepped.moved.stands c.requires.variable l e.point e.trail e.count e.outside e.types e.nodes)

pub returns-clause-left : goal.returns-clause-left
returns-clause-left c = λ declared C T a.
    let q = c.args.procs.now in
    let r = c.fits.new.procs in
    let s = c.args.self.now in
    let t = c.set-2.new.self in
    let f = c.in_ok-fits.ensures in
    let e = c.in_ok-set-2.ensures in
    let more = f.stepped.moved.nodes.grown.more in
    let old = c.requires.inst in
    let l : c.args.last < count_of r.insts = omega arith in
    let step : LaterByTrail r r s t = stepped-set r s t c.args.x c.args.last f.stepped.moved.stands c.requires.variable l e.point e.trail e.count e.outside e.types e.nodes in
    let b = agrees-before r r s t C T f.stepped.moved.stands step.moved a in
    input-changed r s declared f.stepped.moved.stands C T b (source_of q) c.args.x c.args.first c.args.last (f.fits C T b ∙ c.if-fits.false)
    ∙ sym e.point
