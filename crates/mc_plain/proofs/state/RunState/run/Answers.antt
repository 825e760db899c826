use Rattle.std.proofs.Common.{ℕ, refl, sym, subst}
use Rattle.mc_plain.specs.code.Constants.{AreConstants}
use Rattle.mc_model.specs.Stream.{Bindings, same_items}
use Rattle.mc_flat_code.specs.declared.code.Instr.{Instr}
use Rattle.mc_flat_code.specs.declared.code.Instr.TheVariants as I
use Rattle.mc_plain.proofs.Growth.{live_from_held}
use Rattle.mc_plain.specs.Frames.{bindings}
use Rattle.mc_plain.specs.Values.{AreLive}
use Rattle.mc_plain.specs.code.Machine.{condition, negated, pruned}
use Rattle.mc_plain.specs.code.RunState.{IsAt}
use Rattle.mc_plain.specs.declared.state.RunContext.{RunContext}
use Rattle.mc_plain.specs.declared.state.RunState.{RunState}
use Rattle.mc_plain.specs.declared.state.NextAction.TheVariants as N
use Rattle.mc_plain.proofs.Working.{atom_moves, alone_moves, either_moves, apart_moves, steps_to, case_moves}
use Rattle.mc_plain.proofs.state.RunState.run.Goals as goal

live_here : (t : RunContext) (w : RunState) (place : ℕ) (i : Instr) → IsAt t w place i → AreLive w.heap w.control.frame.items
live_here t w place i a = live_from_held t.library.program.now w.heap w.control.frame.items a.ready.held.frame

pub equate-requires : goal.equate-requires
equate-requires c = live_here c.args.t.now c.args.self.now c.args.place c.args.goal c.requires

pub choose-requires-clause-frame : goal.choose-requires-clause-frame
choose-requires-clause-frame c = live_here c.args.t.now c.args.self.now c.args.place c.args.goal c.requires

pub choose-requires-clause-constants : goal.choose-requires-clause-constants
choose-requires-clause-constants c = subst (AreConstants c.args.self.now.heap c.args.t.now.flat.code) (sym c.deref.ensures.value) c.requires.ready.constants.refs

pub returns-in-Fail : goal.returns-in-Fail
returns-in-Fail c =
    let a : IsAt c.args.t.now c.args.self.now c.args.place I.Fail = subst (IsAt c.args.t.now c.args.self.now c.args.place) c.in-Fail.is c.requires in
    alone_moves c.args.t.now c.args.self.now c.args.place I.Fail a N.Failing refl (λ input. refl)

pub returns-in_ok-equate-in-Same : goal.returns-in_ok-equate-in-Same
returns-in_ok-equate-in-Same c =
    let i : Instr = I.Same c.in-Same.x c.in-Same.y c.in-Same.next in
    let a : IsAt c.args.t.now c.args.self.now c.args.place i = subst (IsAt c.args.t.now c.args.self.now c.args.place) c.in-Same.is c.requires in
    let e : Bindings = bindings c.args.self.now.heap c.args.self.now.control.frame.items in
    atom_moves c.args.t.now c.args.self.now c.args.place i a c.equate.new.self (same_items c.in-Same.x c.in-Same.y e (e c.in-Same.x) (e c.in-Same.y)) c.in-Same.next (λ input. refl) c.in_ok-equate-in-Same.ensures.acted (c.in_ok-equate-in-Same.ensures.held c.args.t.now.library.program.now a.ready.held)

pub returns-in_ok-either-in-Or : goal.returns-in_ok-either-in-Or
returns-in_ok-either-in-Or c =
    let i : Instr = I.Or c.in-Or.first c.in-Or.second in
    let a : IsAt c.args.t.now c.args.self.now c.args.place i = subst (IsAt c.args.t.now c.args.self.now c.args.place) c.in-Or.is c.requires in
    either_moves c.args.t.now c.args.self.now c.args.place i a c.either.new.self c.in-Or.first c.in-Or.second refl (c.in_ok-either-in-Or.ensures.goes_on c.args.self.now.heap) (c.in_ok-either-in-Or.ensures.held c.args.t.now.library.program.now c.args.self.now.heap a.ready.held)

pub returns-in_ok-apart-in-If : goal.returns-in_ok-apart-in-If
returns-in_ok-apart-in-If c =
    let i : Instr = I.If c.in-If.condition c.in-If.then_place c.in-If.else_place in
    let a : IsAt c.args.t.now c.args.self.now c.args.place i = subst (IsAt c.args.t.now c.args.self.now c.args.place) c.in-If.is c.requires in
    apart_moves c.args.t.now c.args.self.now c.args.place i a c.apart.new.self c.in-If.condition (condition c.in-If.then_place c.in-If.else_place) refl (c.in_ok-apart-in-If.ensures.goes_on c.args.self.now.heap) (c.in_ok-apart-in-If.ensures.held c.args.t.now.library.program.now c.args.self.now.heap a.ready.held)

pub returns-in_ok-apart-in-Not : goal.returns-in_ok-apart-in-Not
returns-in_ok-apart-in-Not c =
    let i : Instr = I.Not c.in-Not.goal c.in-Not.next in
    let a : IsAt c.args.t.now c.args.self.now c.args.place i = subst (IsAt c.args.t.now c.args.self.now c.args.place) c.in-Not.is c.requires in
    apart_moves c.args.t.now c.args.self.now c.args.place i a c.apart-in-Not.new.self c.in-Not.goal (negated c.in-Not.next) refl (c.in_ok-apart-in-Not.ensures.goes_on c.args.self.now.heap) (c.in_ok-apart-in-Not.ensures.held c.args.t.now.library.program.now c.args.self.now.heap a.ready.held)

pub returns-in_ok-apart-in-Once : goal.returns-in_ok-apart-in-Once
returns-in_ok-apart-in-Once c =
    let i : Instr = I.Once c.in-Once.goal c.in-Once.next in
    let a : IsAt c.args.t.now c.args.self.now c.args.place i = subst (IsAt c.args.t.now c.args.self.now c.args.place) c.in-Once.is c.requires in
    apart_moves c.args.t.now c.args.self.now c.args.place i a c.apart-in-Once.new.self c.in-Once.goal (pruned c.in-Once.next) refl (c.in_ok-apart-in-Once.ensures.goes_on c.args.self.now.heap) (c.in_ok-apart-in-Once.ensures.held c.args.t.now.library.program.now c.args.self.now.heap a.ready.held)

pub returns-in_ok-call-in-Call : goal.returns-in_ok-call-in-Call
returns-in_ok-call-in-Call c =
    let i : Instr = I.Call c.in-Call.number c.in-Call.args c.in-Call.is_last c.in-Call.field-3 in
    let a : IsAt c.args.t.now c.args.self.now c.args.place i = subst (IsAt c.args.t.now c.args.self.now c.args.place) c.in-Call.is c.requires in
    steps_to c.args.t.now c.args.self.now c.call.new.self (λ outcome head last. c.in_ok-call-in-Call.ensures.steps c.in-Call.field-3 a.goal_is outcome head last c.args.self.now.heap) a.setting a.ready (c.in_ok-call-in-Call.ensures.held c.args.t.now.library.program.now c.args.self.now.heap a.ready.held)

pub returns-in_ok-choose-in-Case : goal.returns-in_ok-choose-in-Case
returns-in_ok-choose-in-Case c =
    let i : Instr = I.Case c.in-Case.x c.in-Case.branches c.in-Case.other in
    let a : IsAt c.args.t.now c.args.self.now c.args.place i = subst (IsAt c.args.t.now c.args.self.now c.args.place) c.in-Case.is c.requires in
    case_moves c.args.t.now c.args.self.now c.args.place c.in-Case.x c.in-Case.branches c.in-Case.other a c.choose.new.self c.in_ok-choose-in-Case.ensures.goes_on c.in_ok-choose-in-Case.ensures.others
