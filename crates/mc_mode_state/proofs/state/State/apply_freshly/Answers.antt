use Rattle.std.proofs.Common.{◌≡◌, ◌∙◌, ◌+◌, ℕ, true, List, length, refl, ap, ap₂, sym, subst, arith}
use Rattle.mc_model.specs.Scheduled.{Node, node_then}
use Rattle.mc_accepted.specs.Arranged.{Point, after, test_nodes, fresh_at, tests_at}
use Rattle.mc_accepted.specs.NodeOracle.{of_nodes}
use Rattle.mc_accepted.specs.Ordered.{Mode, zipped}
use Rattle.mc_accepted.specs.FreshTests.{AllAlike}
use Rattle.mc_procs.specs.Named.{NumbersBelow}
use Rattle.mc_procs.specs.Procedures.{source_of}
use Rattle.mc_mode_state.specs.States.{point_of}
use Rattle.mc_mode_state.specs.code.Applying.{AlikeIn}
use Rattle.mc_mode_state.specs.declared.part.Part.{Part}
use Rattle.mc_mode_state.specs.Agreeing.{LaterByTrail}
use Rattle.mc_mode_state.proofs.Steps.{stepped-trans}
use Rattle.mc_mode_state.proofs.BuiltinOutcomes.{apply_of, freshly_goals, ran-freshly}
use Rattle.mc_mode_state.proofs.Freshening.{tests-alike}
use Rattle.mc_mode_state.proofs.state.State.apply_freshly.Goals as goal

pub keeping-requires : goal.keeping-requires
keeping-requires c = c.in_ok-leave_arguments.ensures.stepped.moved.stands.trail

pub returns-clause-ran : goal.returns-clause-ran
returns-clause-ran c = λ declared.
    let q = c.args.procs.now in
    let r = c.leave_arguments.new.procs in
    let s = c.args.self.now in
    let u = c.freshen.new.self in
    let t = c.leave_arguments.new.self in
    let op = c.args.op in
    let n = length s.insts.items in
    let zs = fresh_at 0 c.args.implied.now c.args.xs.now n in
    let ts = tests_at 0 c.args.implied.now c.args.xs.now n in
    let fs = c.args.mode.now.first in
    let ls = c.args.mode.now.last in
    let m = c.in_ok-args.ensures in
    let l = c.in_ok-leave_arguments.ensures in
    let v : c.as_slice.result.now ≡ zs = c.as_slice.ensures.value ∙ m.args in
    let w : c.as_slice-2.result.now ≡ zs = c.as_slice-2.ensures.value ∙ m.args in
    let step : LaterByTrail q r s t = stepped-trans q q r s u t (m.stepped q c.requires.stands) l.stepped in
    let part : Part = record { goals = c.in_ok-goals.goals; reachable = true; freshened = c.in_ok-args.field-0.args } in
    ran-freshly q r s u t declared op zs ts part (m.stepped q c.requires.stands) l.stepped
    (λ d C T a.
    ap (λ (ms : List Mode). after (of_nodes C) (source_of q) d T ms zs (point_of s.insts.items)) (sym c.requires.modes)
    ∙ (ap₂ (λ (ys : List ℕ) (b : Point ℕ). after (of_nodes C) (source_of q) d T (zipped fs ls) ys b) (sym w) (sym m.point)
    ∙ l.after d C T a))
    (l.count ∙ (m.count ∙ ap (λ (ks : List (ℕ × ℕ)). n + length ks) m.tests))
    (c.in_ok-goals.ensures
    ∙ (ap (λ (g : Node). node_then g (test_nodes c.as_slice-3.result.now)) (c.in_ok-node.ensures s step.later.leads (omega (arith, c.len-trail.ensures, c.args.self.now.trail.ok.0)))
    ∙ ap₂ (freshly_goals s t) (c.in_ok-goal.ensures ∙ ap (apply_of op) v) (c.as_slice-3.ensures.value ∙ m.tests)))
    refl m.args
    (subst (NumbersBelow (length t.insts.items)) m.args (subst (λ (k : ℕ). NumbersBelow k c.in_ok-args.field-0.args.items) (sym l.count) m.there))

pub returns-clause-alike : goal.returns-clause-alike
returns-clause-alike c = λ T next same.
    let q = c.args.procs.now in
    let r = c.leave_arguments.new.procs in
    let s = c.args.self.now in
    let u = c.freshen.new.self in
    let t = c.leave_arguments.new.self in
    let ts = tests_at 0 c.args.implied.now c.args.xs.now (length c.args.self.now.insts.items) in
    let m = c.in_ok-args.ensures in
    let l = c.in_ok-leave_arguments.ensures in
    let step : LaterByTrail q r s t = stepped-trans q q r s u t (m.stepped q c.requires.stands) l.stepped in
    subst (AllAlike T next)
    (sym (c.in_ok-goals.ensures
    ∙ (ap (λ (g : Node). node_then g (test_nodes c.as_slice-3.result.now)) (c.in_ok-node.ensures s step.later.leads (omega (arith, c.len-trail.ensures, c.args.self.now.trail.ok.0)))
    ∙ ap₂ (freshly_goals s t) (c.in_ok-goal.ensures ∙ ap (apply_of c.args.op) (c.as_slice.ensures.value ∙ m.args)) (c.as_slice-3.ensures.value ∙ m.tests))))
    (tt, tests-alike u.types.items t T next ts l.stepped.moved.types same (subst (AlikeIn u.types.items) m.tests m.alike))
