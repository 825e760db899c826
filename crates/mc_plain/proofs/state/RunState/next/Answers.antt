use Rattle.std.proofs.Common.{[], sym, subst, ◌∙◌}
use Rattle.mc_plain.specs.Rest.{Rest, Gives}
use Rattle.mc_plain.specs.code.RunState.{Moves, Stepped, left_in, rest_in}
use Rattle.mc_plain.specs.declared.step.StepResult.{StepResult}
use Rattle.mc_plain.specs.declared.step.StepResult.TheVariants as T
use Rattle.mc_plain.proofs.Working.{same_rest}
use Rattle.mc_plain.proofs.state.RunState.next.Goals as goal

pub loop-took-preserved : goal.loop-took-preserved
loop-took-preserved c =
    let m : Moves c.args.t.now c.loop-took.self c.step.new.self = subst (λ (s : StepResult). Stepped c.args.t.now c.loop-took.self s c.step.new.self) c.in-Moved.is c.in_ok-took.ensures in
    record {
      ready = m.ready;
      shows = λ input. c.loop-took.invariant.shows input ∙ same_rest (left_in c.args.t.now c.loop-took.self input) (left_in c.args.t.now c.step.new.self input) (m.moved input).shows;
    }

pub loop-took-smaller : goal.loop-took-smaller
loop-took-smaller c =
    let m : Moves c.args.t.now c.loop-took.self c.step.new.self = subst (λ (s : StepResult). Stepped c.args.t.now c.loop-took.self s c.step.new.self) c.in-Moved.is c.in_ok-took.ensures in
    (m.moved []).costs

pub returns-in-Showed : goal.returns-in-Showed
returns-in-Showed c =
    let m : Stepped c.args.t.now c.loop-took.self (T.Showed c.in-Showed.step) c.step.new.self = subst (λ (s : StepResult). Stepped c.args.t.now c.loop-took.self s c.step.new.self) c.in-Showed.is c.in_ok-took.ensures in
    (m.0, λ input. subst (λ (r : Rest). Gives c.in-Showed.step r (rest_in c.args.t.now c.step.new.self input)) (sym (c.loop-took.invariant.shows input)) (m.1 input), m.2)

pub returns-in-Stuck : goal.returns-in-Stuck
returns-in-Stuck c =
    let m : Stepped c.args.t.now c.loop-took.self T.Stuck c.step.new.self = subst (λ (s : StepResult). Stepped c.args.t.now c.loop-took.self s c.step.new.self) c.in-Stuck.is c.in_ok-took.ensures in
    (m.0, λ input. (c.loop-took.invariant.shows input ∙ (m.1 input).0, (m.1 input).1 ∙ sym (c.loop-took.invariant.shows input)), tt)
