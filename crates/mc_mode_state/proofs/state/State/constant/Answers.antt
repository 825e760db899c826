use Rattle.std.proofs.Common.{◌∙◌, ◌<◌, ◌&&◌, Bool, true, not, nat_eq, nat_lt, ap, ap₂, sym, arith}
use Rattle.mc_program.specs.declared.value.Value.{Value}
use Rattle.mc_model.specs.Stream.{is_bound}
use Rattle.mc_model.specs.Scheduled.{Const, TestConst}
use Rattle.mc_model.specs.PlainGoals.{plain_sched}
use Rattle.mc_model.specs.declared.sched.Sched as D
use Rattle.mc_insts.specs.Graphs.{count_of}
use Rattle.mc_program.specs.Values.{plain_value}
use Rattle.mc_procs.proofs.Views.{plain_sched-Const, plain_sched-TestConst}
use Rattle.mc_mode_state.proofs.Rewinds.{leads-refl}
use Rattle.mc_mode_state.proofs.Steps.{stepped-set}
use Rattle.mc_mode_state.proofs.AtomOutcomes.{one_goal, alike-one, constant-tested, constant-put}
use Rattle.mc_mode_state.proofs.state.State.constant.Goals as goal

pub one-requires-2 : goal.one-requires-2
one-requires-2 c =
    let q = c.args.procs.now in
    let s = c.args.self.now in
    let t = c.set.new.self in
    let e = c.in_ok-set.ensures in
    let many = c.requires.stands.fit.program.insts_are.builtins.many in
    let one : 1 < count_of q.insts = omega (arith, many) in
    let step = stepped-set q s t c.args.x 1 c.requires.stands c.requires.variable one e.point e.trail e.count e.outside e.types e.nodes in
    step.moved.stands.trail

pub returns-then-is_bound-clause-answer : goal.returns-then-is_bound-clause-answer
returns-then-is_bound-clause-answer c = λ declared O.
    let s = c.args.self.now in
    let p = c.in_ok-part.ensures in
    let r = c.takes_constants.ensures ∙ ap (λ i. not (nat_eq i 0) && nat_lt i 4) c.inst-inst.ensures in
    constant-tested c.args.procs.now s declared O c.requires.stands c.args.x c.args.value.now c.in_ok-part.part
    (sym c.one_is_dead.ensures ∙ c.if-one_is_dead.false)
    (sym (c.is_bound.ensures ∙ ap is_bound c.inst-inst.ensures) ∙ c.if-is_bound.true)
    (p.goals s (leads-refl s) (omega (arith, c.len-trail.ensures, c.args.self.now.trail.ok.0))
    ∙ ap₂ (λ (t : Bool) (v : Value). one_goal s s t (plain_sched (D.TestConst c.args.x v))) r c.in_ok-value.ensures)
    (p.reachable ∙ r) p.freshened

pub returns-clause-answer : goal.returns-clause-answer
returns-clause-answer c = λ declared O.
    let q = c.args.procs.now in
    let s = c.args.self.now in
    let t = c.set.new.self in
    let p = c.in_ok-part-2.ensures in
    let e = c.in_ok-set.ensures in
    let many = c.requires.stands.fit.program.insts_are.builtins.many in
    let one : 1 < count_of q.insts = omega (arith, many) in
    let step = stepped-set q s t c.args.x 1 c.requires.stands c.requires.variable one e.point e.trail e.count e.outside e.types e.nodes in
    constant-put q s declared O c.requires.stands c.args.x c.args.value.now t c.in_ok-part-2.part
    (sym c.one_is_dead.ensures ∙ c.if-one_is_dead.false)
    (sym (c.is_bound.ensures ∙ ap is_bound c.inst-inst.ensures) ∙ c.if-is_bound.false)
    e.point e.count step
    (p.goals s step.later.leads (omega (arith, c.len-trail.ensures, c.args.self.now.trail.ok.0)) ∙ ap (λ (v : Value). one_goal s t true (plain_sched (D.Const c.args.x v))) c.in_ok-value.ensures)
    p.reachable p.freshened

pub returns-then-is_bound-clause-alike : goal.returns-then-is_bound-clause-alike
returns-then-is_bound-clause-alike c = λ T next same below.
    let s = c.args.self.now in
    let r = c.takes_constants.result in
    alike-one T next c.in_ok-part.part s s r (TestConst c.args.x (plain_value c.args.value.now))
    (c.in_ok-part.ensures.goals s (leads-refl s) (omega (arith, c.len-trail.ensures, c.args.self.now.trail.ok.0))
    ∙ (ap (λ (v : Value). one_goal s s r (plain_sched (D.TestConst c.args.x v))) c.in_ok-value.ensures
    ∙ ap (one_goal s s r) (plain_sched-TestConst c.args.x c.args.value.now))) tt

pub returns-clause-alike : goal.returns-clause-alike
returns-clause-alike c = λ T next same below.
    let q = c.args.procs.now in
    let s = c.args.self.now in
    let t = c.set.new.self in
    let e = c.in_ok-set.ensures in
    let many = c.requires.stands.fit.program.insts_are.builtins.many in
    let one : 1 < count_of q.insts = omega (arith, many) in
    let step = stepped-set q s t c.args.x 1 c.requires.stands c.requires.variable one e.point e.trail e.count e.outside e.types e.nodes in
    alike-one T next c.in_ok-part-2.part s t true (Const c.args.x (plain_value c.args.value.now))
    (c.in_ok-part-2.ensures.goals s step.later.leads (omega (arith, c.len-trail.ensures, c.args.self.now.trail.ok.0))
    ∙ (ap (λ (v : Value). one_goal s t true (plain_sched (D.Const c.args.x v))) c.in_ok-value.ensures
    ∙ ap (one_goal s t true) (plain_sched-Const c.args.x c.args.value.now))) tt
