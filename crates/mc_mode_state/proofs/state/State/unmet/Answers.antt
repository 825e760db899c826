use Rattle.std.proofs.Common.{◌≡◌, ◌∙◌, ◌<◌, ◌≤◌, ℕ, length, get_or, ap₂, sym, arith}
use Rattle.std.proofs.lemmas.List.{get_or_read}
use Rattle.mc_accepted.specs.NodeOracle.{of_nodes}
use Rattle.mc_insts.specs.Graphs.{count_of}
use Rattle.mc_procs.specs.Procedures.{source_of}
use Rattle.mc_mode_state.specs.States.{point_of}
use Rattle.mc_mode_state.proofs.Ahead.{agrees-before}
use Rattle.mc_mode_state.proofs.Numbers.{number-at}
use Rattle.mc_mode_state.proofs.Steps.{stepped-trans}
use Rattle.mc_mode_state.proofs.Beginnings.{unmet-here, met-here, all-met}
use Rattle.mc_mode_state.proofs.state.State.unmet.Goals as goal

pub fits-requires-clause-variable : goal.fits-requires-clause-variable
fits-requires-clause-variable c =
    let xs = c.args.head.now in
    let k = c.loop-k.k in
    let h : k < length xs = omega (arith, c.loop-k-test.true, c.len-k-end.ensures) in
    let m : c.get.result.now ≡ get_or xs k 0 = get_or_read xs k c.get.result.now h c.get.ensures 0 in
    let l : get_or xs k 0 < length c.args.self.now.insts.items = number-at (length c.args.self.now.insts.items) xs k c.requires.head h in
    omega (arith, m, l)

pub fits-requires-clause-inst : goal.fits-requires-clause-inst
fits-requires-clause-inst c =
    let ls = c.args.last.now in
    let k = c.loop-k.k in
    let h : k < length ls = omega (arith, c.loop-k-test.true, c.len-k-end.ensures, c.requires.arguments) in
    let e : c.get-in-loop-k.result.now ≡ get_or ls k 0 = get_or_read ls k c.get-in-loop-k.result.now h c.get-in-loop-k.ensures 0 in
    let n : get_or ls k 0 < count_of c.args.procs.now.insts = number-at (count_of c.args.procs.now.insts) ls k c.requires.last h in
    let m : count_of c.args.procs.now.insts ≤ count_of c.loop-k.procs.insts = c.loop-k.invariant.stepped.moved.nodes.grown.more in
    omega (arith, e, n, m)

pub returns-then-not-fits-clause-unmet : goal.returns-then-not-fits-clause-unmet
returns-then-not-fits-clause-unmet c = λ declared C T a.
    let p = c.loop-k.procs in
    let r = c.fits.new.procs in
    let s = c.args.self.now in
    let b = point_of s.insts.items in
    let xs = c.args.head.now in
    let ls = c.args.last.now in
    let k = c.loop-k.k in
    let e = c.in_ok-fits.ensures in
    let h : k < length xs = omega (arith, c.loop-k-test.true, c.len-k-end.ensures) in
    let i : k < length ls = omega (arith, h, c.requires.arguments) in
    let m : c.get.result.now ≡ get_or xs k 0 = get_or_read xs k c.get.result.now h c.get.ensures 0 in
    let n : c.get-in-loop-k.result.now ≡ get_or ls k 0 = get_or_read ls k c.get-in-loop-k.result.now i c.get-in-loop-k.ensures 0 in
    sym (c.loop-k.invariant.rest declared C T (agrees-before p r s s C T c.loop-k.invariant.stepped.moved.stands e.stepped.moved a))
    ∙ unmet-here (of_nodes C) (source_of c.args.procs.now) declared T xs ls b k h i
    (ap₂ (λ (u v : ℕ). C.fits (b u) v (T u)) (sym m) (sym n) ∙ (e.fits C T a ∙ c.if-not-fits.true))

pub returns-then-not-fits-clause-stepped : goal.returns-then-not-fits-clause-stepped
returns-then-not-fits-clause-stepped c =
    stepped-trans c.args.procs.now c.loop-k.procs c.fits.new.procs c.args.self.now c.args.self.now c.args.self.now c.loop-k.invariant.stepped c.in_ok-fits.ensures.stepped

pub loop-k-preserved : goal.loop-k-preserved
loop-k-preserved c =
    let p = c.loop-k.procs in
    let r = c.fits.new.procs in
    let s = c.args.self.now in
    let b = point_of s.insts.items in
    let xs = c.args.head.now in
    let ls = c.args.last.now in
    let k = c.loop-k.k in
    let e = c.in_ok-fits.ensures in
    let h : k < length xs = omega (arith, c.loop-k-test.true, c.len-k-end.ensures) in
    let i : k < length ls = omega (arith, h, c.requires.arguments) in
    let m : c.get.result.now ≡ get_or xs k 0 = get_or_read xs k c.get.result.now h c.get.ensures 0 in
    let n : c.get-in-loop-k.result.now ≡ get_or ls k 0 = get_or_read ls k c.get-in-loop-k.result.now i c.get-in-loop-k.ensures 0 in
    record {
      stepped = stepped-trans c.args.procs.now p r s s s c.loop-k.invariant.stepped e.stepped;
      rest = λ declared C T a.
          met-here (of_nodes C) (source_of c.args.procs.now) declared T xs ls b k h i
          (ap₂ (λ (u v : ℕ). C.fits (b u) v (T u)) (sym m) (sym n) ∙ (e.fits C T a ∙ c.if-not-fits.false))
          ∙ c.loop-k.invariant.rest declared C T (agrees-before p r s s C T c.loop-k.invariant.stepped.moved.stands e.stepped.moved a);
    }

pub returns-clause-unmet : goal.returns-clause-unmet
returns-clause-unmet c = λ declared C T a.
    sym (c.loop-k.invariant.rest declared C T a)
    ∙ all-met (of_nodes C) (source_of c.args.procs.now) declared T c.args.head.now c.args.last.now (point_of c.args.self.now.insts.items) c.loop-k.k
    (omega (arith, c.loop-k-test.false, c.len-k-end.ensures))
