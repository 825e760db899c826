use Rattle.std.proofs.Common.{◌≡◌, ◌∙◌, ◌<◌, ◌≤◌, ℕ, length, get_or, ap₂, sym, arith}
use Rattle.std.proofs.lemmas.List.{get_or_read}
use Rattle.mc_insts.specs.Graphs.{count_of}
use Rattle.mc_procs.specs.Procedures.{source_of}
use Rattle.mc_mode_state.proofs.Ahead.{agrees-before}
use Rattle.mc_mode_state.proofs.Numbers.{number-at}
use Rattle.mc_mode_state.proofs.Steps.{stepped-trans}
use Rattle.mc_mode_state.proofs.CallOutcomes.{not-many, taken_by, usable-on, usable-not, all-used}
use Rattle.mc_mode_state.proofs.state.State.usable.Goals as goal

pub returns-then-len-xs-clause-usable : goal.returns-then-len-xs-clause-usable
returns-then-len-xs-clause-usable c = λ declared C T a.
    not-many c.args.procs.now c.args.self.now declared c.requires.stands C T a (source_of c.args.procs.now) c.args.xs.now c.args.mode.now.first c.args.mode.now.last c.args.xs.now c.requires.mode.as_many
    (λ e. omega (arith, e, c.if-len-xs.true, c.len.ensures))

pub takes-requires-clause-variable : goal.takes-requires-clause-variable
takes-requires-clause-variable c =
    number-at (length c.args.self.now.insts.items) c.args.xs.now c.loop-k.k c.requires.variables
    (omega (arith, c.loop-k-test.true, c.len-k-end.ensures, c.if-len-xs.false, c.len.ensures))

pub takes-requires-clause-first : goal.takes-requires-clause-first
takes-requires-clause-first c =
    let fs = c.args.mode.now.first in
    let k = c.loop-k.k in
    let h : k < length fs = omega (arith, c.loop-k-test.true, c.len-k-end.ensures) in
    let e : c.get.result.now ≡ get_or fs k 0 = get_or_read fs k c.get.result.now h c.get.ensures 0 in
    let n : get_or fs k 0 < count_of c.args.procs.now.insts = number-at (count_of c.args.procs.now.insts) fs k c.requires.mode.first h in
    let m : count_of c.args.procs.now.insts ≤ count_of c.loop-k.procs.insts = c.loop-k.invariant.stepped.moved.nodes.grown.more in
    omega (arith, e, n, m)

pub takes-requires-clause-last : goal.takes-requires-clause-last
takes-requires-clause-last c =
    let ls = c.args.mode.now.last in
    let k = c.loop-k.k in
    let h : k < length ls = omega (arith, c.loop-k-test.true, c.len-k-end.ensures, c.requires.mode.as_many) in
    let e : c.get-in-loop-k.result.now ≡ get_or ls k 0 = get_or_read ls k c.get-in-loop-k.result.now h c.get-in-loop-k.ensures 0 in
    let n : get_or ls k 0 < count_of c.args.procs.now.insts = number-at (count_of c.args.procs.now.insts) ls k c.requires.mode.last h in
    let m : count_of c.args.procs.now.insts ≤ count_of c.loop-k.procs.insts = c.loop-k.invariant.stepped.moved.nodes.grown.more in
    omega (arith, e, n, m)

pub returns-then-not-branch-clause-usable : goal.returns-then-not-branch-clause-usable
returns-then-not-branch-clause-usable c = λ declared C T a.
    let q = c.args.procs.now in
    let p = c.loop-k.procs in
    let r = c.takes.new.procs in
    let s = c.args.self.now in
    let fs = c.args.mode.now.first in
    let ls = c.args.mode.now.last in
    let xs = c.args.xs.now in
    let k = c.loop-k.k in
    let e = c.in_ok-takes.ensures in
    let h : k < length fs = omega (arith, c.loop-k-test.true, c.len-k-end.ensures) in
    let i : k < length ls = omega (arith, h, c.requires.mode.as_many) in
    let j : k < length xs = omega (arith, h, c.if-len-xs.false, c.len.ensures) in
    let m : c.get.result.now ≡ get_or fs k 0 = get_or_read fs k c.get.result.now h c.get.ensures 0 in
    let n : c.get-in-loop-k.result.now ≡ get_or ls k 0 = get_or_read ls k c.get-in-loop-k.result.now i c.get-in-loop-k.ensures 0 in
    sym (c.loop-k.invariant.rest declared C T (agrees-before p r s s C T c.loop-k.invariant.stepped.moved.stands e.stepped.moved a))
    ∙ usable-not r s declared e.stepped.moved.stands C T a (source_of q) xs fs ls xs k h i j
    (ap₂ (λ (u v : ℕ). taken_by r s declared e.stepped.moved.stands C T a (source_of q) xs (u, v) (get_or xs k 0)) (sym m) (sym n)
    ∙ (e.takes declared C T a ∙ c.if-not-branch.true))

pub returns-then-not-branch-clause-stepped : goal.returns-then-not-branch-clause-stepped
returns-then-not-branch-clause-stepped c =
    let s = c.args.self.now in
    stepped-trans c.args.procs.now c.loop-k.procs c.takes.new.procs s s s c.loop-k.invariant.stepped c.in_ok-takes.ensures.stepped

pub loop-k-preserved : goal.loop-k-preserved
loop-k-preserved c =
    let q = c.args.procs.now in
    let p = c.loop-k.procs in
    let r = c.takes.new.procs in
    let s = c.args.self.now in
    let fs = c.args.mode.now.first in
    let ls = c.args.mode.now.last in
    let xs = c.args.xs.now in
    let k = c.loop-k.k in
    let e = c.in_ok-takes.ensures in
    let h : k < length fs = omega (arith, c.loop-k-test.true, c.len-k-end.ensures) in
    let i : k < length ls = omega (arith, h, c.requires.mode.as_many) in
    let j : k < length xs = omega (arith, h, c.if-len-xs.false, c.len.ensures) in
    let m : c.get.result.now ≡ get_or fs k 0 = get_or_read fs k c.get.result.now h c.get.ensures 0 in
    let n : c.get-in-loop-k.result.now ≡ get_or ls k 0 = get_or_read ls k c.get-in-loop-k.result.now i c.get-in-loop-k.ensures 0 in
    record {
      stepped = stepped-trans q p r s s s c.loop-k.invariant.stepped e.stepped;
      rest = λ declared C T a.
          usable-on r s declared e.stepped.moved.stands C T a (source_of q) xs fs ls xs k h i j
          (ap₂ (λ (u v : ℕ). taken_by r s declared e.stepped.moved.stands C T a (source_of q) xs (u, v) (get_or xs k 0)) (sym m) (sym n)
          ∙ (e.takes declared C T a ∙ c.if-not-branch.false))
          ∙ c.loop-k.invariant.rest declared C T (agrees-before p r s s C T c.loop-k.invariant.stepped.moved.stands e.stepped.moved a);
    }

pub returns-clause-usable : goal.returns-clause-usable
returns-clause-usable c = λ declared C T a.
    let p = c.loop-k.procs in
    let k = c.loop-k.k in
    let h : length c.args.mode.now.first ≤ k = omega (arith, c.loop-k-test.false, c.len-k-end.ensures) in
    sym (c.loop-k.invariant.rest declared C T a)
    ∙ all-used p c.args.self.now declared c.loop-k.invariant.stepped.moved.stands C T a (source_of c.args.procs.now) c.args.xs.now c.args.mode.now.first c.args.mode.now.last c.args.xs.now k h
    (omega (arith, h, c.requires.mode.as_many)) (omega (arith, h, c.if-len-xs.false, c.len.ensures))
