use Rattle.std.proofs.Common.{◌∙◌, List, not, ap, ap₂, subst, arith}
use Rattle.mc_accepted.specs.Ordered.{Mode}
use Rattle.mc_mode_state.specs.States.{point_of}
use Rattle.mc_mode_state.proofs.AtomOutcomes.{one_goal, alike-one}
use Rattle.mc_mode_state.proofs.BuiltinOutcomes.{Leaves, apply_of, ran-plainly}
use Rattle.mc_mode_state.proofs.state.State.apply_plainly.Goals as goal

pub one-requires : goal.one-requires
one-requires c = c.in_ok-leave_arguments.ensures.stepped.moved.stands.trail

pub returns-clause-ran : goal.returns-clause-ran
returns-clause-ran c = λ declared.
    let q = c.args.procs.now in
    let r = c.leave_arguments.new.procs in
    let s = c.args.self.now in
    let t = c.leave_arguments.new.self in
    let xs = c.args.xs.now in
    let e = c.in_ok-leave_arguments.ensures in
    let p = c.in_ok-part.ensures in
    ran-plainly q r s t declared c.args.op xs c.in_ok-part.part e.stepped
    (subst (λ (ms : List Mode). Leaves q r ms xs (point_of s.insts.items) t) c.requires.modes e.after)
    e.count
    (p.goals s e.stepped.later.leads (omega (arith, c.len-trail.ensures, c.args.self.now.trail.ok.0)) ∙ ap₂ (one_goal s t) (ap not c.never_returns.ensures) c.in_ok-goal.ensures)
    (p.reachable ∙ ap not c.never_returns.ensures) p.freshened

pub returns-clause-alike : goal.returns-clause-alike
returns-clause-alike c = λ T next same.
    let s = c.args.self.now in
    let t = c.leave_arguments.new.self in
    let r = not c.never_returns.result in
    alike-one T next c.in_ok-part.part s t r (apply_of c.args.op c.args.xs.now)
    (c.in_ok-part.ensures.goals s c.in_ok-leave_arguments.ensures.stepped.later.leads (omega (arith, c.len-trail.ensures, c.args.self.now.trail.ok.0)) ∙ ap (one_goal s t r) c.in_ok-goal.ensures) tt
