use Rattle.std.proofs.Common.{◌≡◌, ℕ, List, Vec, Global, Option, sym, ap, subst, ◌∙◌, map}
use Rattle.mc_program.specs.Values.{Val, plain_value}
use Rattle.mc_model.specs.Events.{bound_values}
use Rattle.mc_model.specs.Stream.{leave}
use Rattle.mc_plain.specs.Frames.{bindings}
use Rattle.mc_plain.specs.Values.{AreHeld}
use Rattle.mc_plain.specs.Rest as R
use Rattle.mc_plain.specs.code.RunState.{IsReady, rest_in}
use Rattle.mc_plain.specs.declared.state.Control.{Control}
use Rattle.mc_plain.specs.declared.state.RunContext.{RunContext}
use Rattle.mc_plain.specs.declared.state.RunState.{RunState}
use Rattle.mc_plain.specs.declared.state.NextAction.TheVariants as N
use Rattle.mc_plain.proofs.Working.{steps_to, answer_gives}
use Rattle.mc_plain.proofs.state.RunState.answer.Goals as goal

pub returns-then-apart : goal.returns-then-apart
returns-then-apart c =
    steps_to c.args.t.now c.args.self.now c.exit.new.self (c.in_ok-apart.ensures.steps c.if-apart.true (c.args._place, (c.requires.now, c.requires.goal_is))) c.requires.setting c.requires.ready
    (c.in_ok-apart.ensures.held c.args.t.now.library.program.now c.requires.ready.held)

pub returns : goal.returns
returns c =
    let t : RunContext = c.args.t.now in
    let w : RunState = c.args.self.now in
    let e : c.exit.new.self ≡ w.control = (c.in_ok-apart.ensures.stays c.if-apart.false).1 in
    let frame : Vec (Option ℕ) Global = c.widen_all.new.frame in
    let vs : List Val = map plain_value c.in_ok-values.values in
    let given =
    subst (λ (k : Control). IsReady t (record w { control = record k { frame = frame; now = N.Failing } }) × ((input : List ℕ) → rest_in t w input ≡ R.answered vs (rest_in t (record w { control = record k { frame = frame; now = N.Failing } }) input))) (sym e)
    (answer_gives t w c.args._place c.requires frame vs (c.in_ok-apart.ensures.stays c.if-apart.false).0
    (c.in_ok-widen_all.ensures.same w.heap ∙ ap (λ (k : Control). bindings w.heap k.frame.items) e)
    (c.in_ok-widen_all.ensures.held t.library.program.now w.heap (subst (λ (k : Control). AreHeld t.library.program.now w.heap k.frame.items) (sym e) c.requires.ready.held.frame))
    (c.in_ok-values.ensures ∙ (λ i. bound_values (leave (c.variables-head.ensures i) (c.variables-last.ensures i) (bindings w.heap frame.items))))) in
    (given.0, given.1, tt)
