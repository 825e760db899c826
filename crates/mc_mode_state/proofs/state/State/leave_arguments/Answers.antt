use Rattle.std.proofs.Common.{◌≡◌, ◌∙◌, ◌<◌, ◌≤◌, ◌+◌, ◌∷◌, ◌&&◌, ◌||◌, ℕ, Bool, List, not, if◌then◌else◌, length, get_or, ap, ap₂, sym, subst, arith}
use Rattle.std.proofs.lemmas.List.{get_or_read}
use Rattle.mc_model.specs.Lists.{is_in}
use Rattle.mc_model.specs.Stream.{is_bound}
use Rattle.mc_accepted.specs.Arranged.{Point}
use Rattle.mc_accepted.specs.NodeOracle.{of_nodes}
use Rattle.mc_insts.specs.Graphs.{count_of}
use Rattle.mc_procs.specs.Procedures.{source_of}
use Rattle.mc_mode_state.specs.States.{point_of}
use Rattle.mc_mode_state.specs.code.Given.{there_before}
use Rattle.mc_mode_state.specs.code.Leaving.{left_by}
use Rattle.mc_mode_state.proofs.Ahead.{agrees-before}
use Rattle.mc_mode_state.proofs.Numbers.{number-at}
use Rattle.mc_mode_state.proofs.Growths.{refused_stepped}
use Rattle.mc_mode_state.proofs.Steps.{stepped-trans}
use Rattle.mc_mode_state.proofs.LeftInsts.{leaving_from, leaving-on, leaving-end, map-at}
use Rattle.mc_mode_state.proofs.state.State.leave_arguments.Goals as goal

pub leave_one-requires-clause-variable : goal.leave_one-requires-clause-variable
leave_one-requires-clause-variable c =
    subst (λ n. get_or c.args.xs.now c.loop-k.k 0 < n) (sym c.loop-k.invariant.count)
    (number-at (length c.args.self.now.insts.items) c.args.xs.now c.loop-k.k c.requires.variables
    (omega (arith, c.loop-k-test.true, c.len-k-end.ensures, c.requires.arguments)))

pub leave_one-requires-clause-inst : goal.leave_one-requires-clause-inst
leave_one-requires-clause-inst c =
    let ls = c.args.mode.now.last in
    let k = c.loop-k.k in
    let h : k < length ls = omega (arith, c.loop-k-test.true, c.len-k-end.ensures, c.requires.mode.as_many) in
    let e : c.get-in-loop-k.result.now ≡ get_or ls k 0 = get_or_read ls k c.get-in-loop-k.result.now h c.get-in-loop-k.ensures 0 in
    let n : get_or ls k 0 < count_of c.args.procs.now.insts = number-at (count_of c.args.procs.now.insts) ls k c.requires.mode.last h in
    let m : count_of c.args.procs.now.insts ≤ count_of c.loop-k.procs.insts = c.loop-k.invariant.stepped.moved.nodes.grown.more in
    omega (arith, e, n, m)

pub returns-clause-after : goal.returns-clause-after
returns-clause-after c = λ declared C T a.
    sym (c.loop-k.invariant.rest declared C T a)
    ∙ leaving-end (of_nodes C) (source_of c.args.procs.now) declared T c.args.mode.now.first c.args.mode.now.last c.args.xs.now (point_of c.args.self.now.insts.items) c.loop-k.given.items c.loop-k.k (point_of c.loop-k.self.insts.items)
    (omega (arith, c.loop-k-test.false, c.len-k-end.ensures))

pub loop-k-preserved : goal.loop-k-preserved
loop-k-preserved c =
    let q = c.args.procs.now in
    let s = c.args.self.now in
    let p = c.loop-k.procs in
    let u = c.loop-k.self in
    let r = c.leave_one.new.procs in
    let t = c.leave_one.new.self in
    let fs = c.args.mode.now.first in
    let ls = c.args.mode.now.last in
    let xs = c.args.xs.now in
    let k = c.loop-k.k in
    let b = point_of s.insts.items in
    let gs = c.loop-k.given.items in
    let x = get_or xs k 0 in
    let e = c.in_ok-leave_one.ensures in
    let h : k < length fs = omega (arith, c.loop-k-test.true, c.len-k-end.ensures) in
    let i : k < length ls = omega (arith, h, c.requires.mode.as_many) in
    let j : k < length xs = omega (arith, h, c.requires.arguments) in
    let m : c.get.result.now ≡ get_or fs k 0 = get_or_read fs k c.get.result.now h c.get.ensures 0 in
    let n : c.get-in-loop-k.result.now ≡ get_or ls k 0 = get_or_read ls k c.get-in-loop-k.result.now i c.get-in-loop-k.ensures 0 in
    let js : List ℕ = c.as_slice-before.result.now in
    let was : get_or js k 0 ≡ b x = ap (λ (is : List ℕ). get_or is k 0) (c.as_slice-before.ensures.value ∙ c.in_ok-insts.ensures) ∙ map-at b xs k j in
    let w : c.was_there-is_there.result ≡ there_before gs b x =
    c.was_there-is_there.ensures ∙ (ap (λ (us : List ℕ). is_in x us || is_bound (get_or js k 0)) c.deref.ensures.value ∙ ap (λ v. is_in x gs || is_bound v) was) in
    let o : c.is_output.result ≡ (not (is_bound (get_or fs k 0)) && is_bound (get_or ls k 0)) =
    c.is_output.ensures ∙ ap₂ (λ (v z : ℕ). not (is_bound v) && is_bound z) m n in
    record {
      stepped = stepped-trans q p r s u t c.loop-k.invariant.stepped e.stepped;
      count = e.count ∙ c.loop-k.invariant.count;
      rest = λ declared C T a.
          let before = agrees-before p r u t C T c.loop-k.invariant.stepped.moved.stands e.stepped.moved a in
          let left : left_by (of_nodes C) (source_of q) declared T (get_or fs k 0, get_or ls k 0) (there_before gs b x) x (point_of u.insts.items) ≡ point_of t.insts.items =
          ap₂ (λ (v z : ℕ). left_by (of_nodes C) (source_of q) declared T (v, z) (there_before gs b x) x (point_of u.insts.items)) (sym m) (sym n)
          ∙ (ap (λ (z : Bool). left_by (of_nodes C) (source_of q) declared T (c.get.result.now, c.get-in-loop-k.result.now) z x (point_of u.insts.items)) (sym w)
          ∙ e.left declared C T a) in
          ap₂ (λ (us : List ℕ) (d : Point ℕ). leaving_from (of_nodes C) (source_of q) declared T fs ls xs b (k + 1) us d)
          (c.in_ok-give.ensures ∙ ap₂ (λ (v z : Bool). if v && not z then x ∷ gs else gs) o w) (sym left)
          ∙ (sym (leaving-on C (source_of q) declared T fs ls xs b gs k (point_of u.insts.items) h i j) ∙ c.loop-k.invariant.rest declared C T before);
    }

pub returns-in_err-give-clause-kept : goal.returns-in_err-give-clause-kept
returns-in_err-give-clause-kept c =
    let q = c.args.procs.now in
    let s = c.args.self.now in
    let p = c.loop-k.procs in
    let u = c.loop-k.self in
    let r = c.leave_one.new.procs in
    let t = c.leave_one.new.self in
    refused_stepped _ q r s t (stepped-trans q p r s u t c.loop-k.invariant.stepped c.in_ok-leave_one.ensures.stepped)
