use Rattle.std.proofs.Common.{◌≡◌, ◌∙◌, ◌<◌, true, false, ap, sym, arith}
use Rattle.mc_model.specs.Scheduled.{Assign, Test}
use Rattle.mc_model.specs.Stream.{is_bound}
use Rattle.mc_procs.proofs.Views.{plain_sched-Test, plain_sched-Assign}
use Rattle.mc_mode_state.proofs.Rewinds.{leads-refl}
use Rattle.mc_mode_state.proofs.AtomOutcomes.{one_goal, alike-one, same-tested, same-assigned-back, same-assigned-on, same-both-free}
use Rattle.mc_mode_state.proofs.state.State.same.Goals as goal
use Rattle.mc_mode_state.proofs.state.State.same.Goals.{else-x_is_bound-via-then-x_is_bound+else-y_is_bound, else-x_is_bound-via-else-x_is_bound}

pub one-requires-then-x_is_bound-2 : goal.one-requires-then-x_is_bound-2
one-requires-then-x_is_bound-2 c = (c.in_ok-assign.ensures.stepped c.args.procs.now c.requires.stands).moved.stands.trail

pub one-requires-then-y_is_bound-2 : goal.one-requires-then-y_is_bound-2
one-requires-then-y_is_bound-2 c = (c.in_ok-assign-2.ensures.stepped c.args.procs.now c.requires.stands).moved.stands.trail

pub returns-then-y_is_bound-clause-answer : goal.returns-then-y_is_bound-clause-answer
returns-then-y_is_bound-clause-answer c = λ declared O.
    let p = c.in_ok-part.ensures in
    same-tested c.args.procs.now c.args.self.now declared O c.requires.stands c.args.x c.args.y c.requires.variables.0 c.requires.variables.1.0 c.in_ok-part.part
    (sym c.one_is_dead.ensures ∙ c.if-one_is_dead.false)
    (sym (c.is_bound-x_is_bound.ensures ∙ ap is_bound c.inst.ensures) ∙ c.if-x_is_bound.true)
    (sym (c.is_bound-y_is_bound.ensures ∙ ap is_bound c.inst-2.ensures) ∙ c.if-y_is_bound.true)
    (sym c.is_state.ensures ∙ c.if-is_state.false)
    (p.goals c.args.self.now (leads-refl c.args.self.now) (omega (arith, c.len-trail.ensures, c.args.self.now.trail.ok.0))) p.reachable p.freshened

pub returns-then-x_is_bound-2-clause-answer : goal.returns-then-x_is_bound-2-clause-answer
returns-then-x_is_bound-2-clause-answer c = λ declared O.
    let p = c.in_ok-part-2.ensures in
    let e = c.in_ok-assign.ensures in
    let step = e.stepped c.args.procs.now c.requires.stands in
    let g : c.is_bound-y_is_bound.result ≡ false =
    elim c.else-x_is_bound.branch [
      | else-x_is_bound-via-then-x_is_bound+else-y_is_bound w ↦ w.if-y_is_bound.false
      | else-x_is_bound-via-else-x_is_bound w ↦ (let f : true ≡ false = sym c.if-x_is_bound-2.true ∙ w.if-x_is_bound.false in cc)
    ] in
    same-assigned-back c.args.procs.now c.args.self.now declared O c.requires.stands c.args.x c.args.y c.requires.variables.0 c.requires.variables.1.0 c.assign.new.self c.in_ok-part-2.part
    (sym c.one_is_dead.ensures ∙ c.if-one_is_dead.false)
    (sym (c.is_bound-x_is_bound.ensures ∙ ap is_bound c.inst.ensures) ∙ c.if-x_is_bound-2.true)
    (sym (c.is_bound-y_is_bound.ensures ∙ ap is_bound c.inst-2.ensures) ∙ g)
    e.point e.count step (p.goals c.args.self.now step.later.leads (omega (arith, c.len-trail.ensures, c.args.self.now.trail.ok.0))) p.reachable p.freshened

pub returns-then-y_is_bound-2-clause-answer : goal.returns-then-y_is_bound-2-clause-answer
returns-then-y_is_bound-2-clause-answer c = λ declared O.
    let p = c.in_ok-part-3.ensures in
    let e = c.in_ok-assign-2.ensures in
    let step = e.stepped c.args.procs.now c.requires.stands in
    same-assigned-on c.args.procs.now c.args.self.now declared O c.requires.stands c.args.x c.args.y c.requires.variables.0 c.requires.variables.1.0 c.assign-then-y_is_bound-2.new.self c.in_ok-part-3.part
    (sym c.one_is_dead.ensures ∙ c.if-one_is_dead.false)
    (sym (c.is_bound-x_is_bound.ensures ∙ ap is_bound c.inst.ensures) ∙ c.if-x_is_bound-2.false)
    (sym (c.is_bound-y_is_bound.ensures ∙ ap is_bound c.inst-2.ensures) ∙ c.if-y_is_bound-2.true)
    e.point e.count step (p.goals c.args.self.now step.later.leads (omega (arith, c.len-trail.ensures, c.args.self.now.trail.ok.0))) p.reachable p.freshened

pub returns-clause-answer : goal.returns-clause-answer
returns-clause-answer c = λ declared O.
    same-both-free c.args.procs.now c.args.self.now declared O c.requires.stands c.args.x c.args.y c.requires.variables.0 c.requires.variables.1.0 c.waiting-2.result c.waiting-2.ensures
    (sym c.one_is_dead.ensures ∙ c.if-one_is_dead.false)
    (sym (c.is_bound-x_is_bound.ensures ∙ ap is_bound c.inst.ensures) ∙ c.if-x_is_bound-2.false)
    (sym (c.is_bound-y_is_bound.ensures ∙ ap is_bound c.inst-2.ensures) ∙ c.if-y_is_bound-2.false)

pub returns-then-y_is_bound-clause-alike : goal.returns-then-y_is_bound-clause-alike
returns-then-y_is_bound-clause-alike c = λ T next same below.
    let x = c.args.x in
    let y = c.args.y in
    let l : x < next = below.0 in
    let s = c.args.self.now in
    alike-one T next c.in_ok-part.part s s true (Test x y)
    (c.in_ok-part.ensures.goals s (leads-refl s) (omega (arith, c.len-trail.ensures, c.args.self.now.trail.ok.0)) ∙ ap (one_goal s s true) (plain_sched-Test x y))
    (λ le. absurd (omega (arith, l, le)))

pub returns-then-x_is_bound-2-clause-alike : goal.returns-then-x_is_bound-2-clause-alike
returns-then-x_is_bound-2-clause-alike c = λ T next same below.
    let x = c.args.x in
    let y = c.args.y in
    let s = c.args.self.now in
    let t = c.assign.new.self in
    alike-one T next c.in_ok-part-2.part s t true (Assign y x)
    (c.in_ok-part-2.ensures.goals s (c.in_ok-assign.ensures.stepped c.args.procs.now c.requires.stands).later.leads (omega (arith, c.len-trail.ensures, c.args.self.now.trail.ok.0)) ∙ ap (one_goal s t true) (plain_sched-Assign y x)) tt

pub returns-then-y_is_bound-2-clause-alike : goal.returns-then-y_is_bound-2-clause-alike
returns-then-y_is_bound-2-clause-alike c = λ T next same below.
    let x = c.args.x in
    let y = c.args.y in
    let s = c.args.self.now in
    let t = c.assign-then-y_is_bound-2.new.self in
    alike-one T next c.in_ok-part-3.part s t true (Assign x y)
    (c.in_ok-part-3.ensures.goals s (c.in_ok-assign-2.ensures.stepped c.args.procs.now c.requires.stands).later.leads (omega (arith, c.len-trail.ensures, c.args.self.now.trail.ok.0)) ∙ ap (one_goal s t true) (plain_sched-Assign x y)) tt
