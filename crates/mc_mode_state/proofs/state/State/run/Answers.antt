use Rattle.std.proofs.Common.{◌≡◌, ◌∙◌, ℕ, List, Bool, true, false, not, if◌then◌else◌, length, Some, None, refl, ap, ap₂, sym, arith}
use Rattle.mc_model.specs.Stream.{is_bound}
use Rattle.mc_model.specs.Scheduled as S
use Rattle.mc_accepted.specs.Arranged.{Point, after}
use Rattle.mc_accepted.specs.NodeOracle.{of_nodes}
use Rattle.mc_accepted.specs.Ordered.{implied_places, zipped}
use Rattle.mc_procs.specs.Procedures.{source_of}
use Rattle.mc_procs.proofs.Views.{plain_sched-Call}
use Rattle.mc_mode_state.specs.States.{point_of}
use Rattle.mc_mode_state.specs.Answers.{end_of}
use Rattle.mc_mode_state.specs.Modes.{never_answers}
use Rattle.mc_mode_state.specs.declared.state.State.{State}
use Rattle.mc_mode_state.proofs.AtomOutcomes.{one_goal, alike-one, none-fresh, runs-one}
use Rattle.mc_mode_state.proofs.state.State.run.Goals as goal

ended : (n : Bool) (b : Point ℕ) (t : State) → b ≡ point_of t.insts.items → (if n then None else Some b) ≡ end_of (not n) t
ended true b t e = refl
ended false b t e = ap Some e

pub one-requires : goal.one-requires
one-requires c = c.in_ok-leave_arguments.ensures.stepped.moved.stands.trail

pub returns-clause-ran : goal.returns-clause-ran
returns-clause-ran c = λ declared h.
    let q = c.args.procs.now in
    let s = c.args.self.now in
    let t = c.leave_arguments.new.self in
    let m = c.args.mode.now in
    let xs = c.args.xs.now in
    let n = length s.insts.items in
    let b = point_of s.insts.items in
    let is = implied_places 0 (zipped m.first m.last) xs (λ x. is_bound (b x)) in
    let e = c.in_ok-leave_arguments.ensures in
    let p = c.in_ok-part.ensures in
    record {
      outcome = λ C T a.
          runs-one C c.in_ok-part.part s t (S.Call m.proc xs is false)
          (if never_answers m.det then None else Some (after (of_nodes C) (source_of q) declared T (zipped m.first m.last) xs b)) n (not (never_answers m.det))
          (p.goals s e.stepped.later.leads (omega (arith, c.len-trail.ensures, c.args.self.now.trail.ok.0))
          ∙ ap₂ (one_goal s t) (ap not c.never_answers.ensures)
          (plain_sched-Call m.proc c.in_ok-row_of.field-0 c.args.implied
          ∙ (ap (λ (ys : List ℕ). S.Call m.proc ys c.args.implied false) c.in_ok-row_of.ensures ∙ ap (λ (js : List ℕ). S.Call m.proc xs js false) h)))
          (p.reachable ∙ ap not c.never_answers.ensures) p.freshened
          (ended (never_answers m.det) (after (of_nodes C) (source_of q) declared T (zipped m.first m.last) xs b) t (e.after declared C T a))
          (sym e.count);
      fresh = none-fresh (length t.insts.items) c.in_ok-part.part.freshened.items p.freshened;
      stepped = e.stepped;
    }

pub returns-clause-alike : goal.returns-clause-alike
returns-clause-alike c = λ T next same.
    let s = c.args.self.now in
    let t = c.leave_arguments.new.self in
    let r = not c.never_answers.result in
    alike-one T next c.in_ok-part.part s t r (S.Call c.args.mode.now.proc c.in_ok-row_of.field-0 c.args.implied false)
    (c.in_ok-part.ensures.goals s c.in_ok-leave_arguments.ensures.stepped.later.leads (omega (arith, c.len-trail.ensures, c.args.self.now.trail.ok.0)) ∙ ap (one_goal s t r) (plain_sched-Call c.args.mode.now.proc c.in_ok-row_of.field-0 c.args.implied)) tt
