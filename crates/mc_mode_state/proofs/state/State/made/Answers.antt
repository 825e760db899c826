use Rattle.std.proofs.Common.{◌∙◌, ap, sym}
use Rattle.mc_model.specs.Stream.{is_bound}
use Rattle.mc_mode_state.proofs.MadeOutcomes.{made-dead, made-lacking, made-taken, made-built}
use Rattle.mc_mode_state.proofs.state.State.made.Goals as goal

pub returns-then-one_dies-clause-answer : goal.returns-then-one_dies-clause-answer
returns-then-one_dies-clause-answer c = λ declared O.
    made-dead c.args.procs.now c.args.self.now declared O c.requires.stands c.args.x c.args.symbol c.args.ys.now c.requires.variables.1 c.waiting_on.result c.waiting_on.ensures
    (sym c.one_dies.ensures ∙ c.if-one_dies.true)

pub returns-then-is_bound-clause-answer : goal.returns-then-is_bound-clause-answer
returns-then-is_bound-clause-answer c = λ declared O.
    made-taken c.args.procs.now c.args.self.now declared O c.requires.stands c.args.x c.args.symbol c.args.ys.now c.requires.variables.1 c.take.new.procs c.take.new.self c.in_ok-part.part
    (sym c.one_dies.ensures ∙ c.if-one_dies.false)
    (sym (c.is_bound.ensures ∙ ap is_bound c.inst.ensures) ∙ c.if-is_bound.true)
    (c.in_ok-part.ensures.ran declared)

pub returns-then-one_is_free_or_state-clause-answer : goal.returns-then-one_is_free_or_state-clause-answer
returns-then-one_is_free_or_state-clause-answer c = λ declared O.
    made-lacking c.args.procs.now c.args.self.now declared O c.requires.stands c.args.x c.args.symbol c.args.ys.now c.requires.variables.1 c.waiting_on-then-one_is_free_or_state.result c.waiting_on-then-one_is_free_or_state.ensures
    (sym c.one_dies.ensures ∙ c.if-one_dies.false)
    (sym (c.is_bound.ensures ∙ ap is_bound c.inst.ensures) ∙ c.if-is_bound.false)
    (sym c.one_is_free_or_state.ensures ∙ c.if-one_is_free_or_state.true)

pub returns-clause-answer : goal.returns-clause-answer
returns-clause-answer c = λ declared O.
    made-built c.args.procs.now c.args.self.now declared O c.requires.stands c.args.x c.args.symbol c.args.ys.now c.requires.variables.1 c.build.new.procs c.build.new.self c.in_ok-part-2.part
    (sym c.one_dies.ensures ∙ c.if-one_dies.false)
    (sym (c.is_bound.ensures ∙ ap is_bound c.inst.ensures) ∙ c.if-is_bound.false)
    (sym c.one_is_free_or_state.ensures ∙ c.if-one_is_free_or_state.false)
    (c.in_ok-part-2.ensures.ran declared)

pub returns-then-is_bound-clause-alike : goal.returns-then-is_bound-clause-alike
returns-then-is_bound-clause-alike c = λ T next same below. c.in_ok-part.ensures.alike T next same

pub returns-clause-alike : goal.returns-clause-alike
returns-clause-alike c = λ T next same below. c.in_ok-part-2.ensures.alike T next same
