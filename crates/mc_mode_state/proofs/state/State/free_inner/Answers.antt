use Rattle.std.proofs.Common.{◌∙◌, ◌<◌, ◌+◌, ℕ, Vec, Global, Bool, List, length, get_or, drop, sym, ap, arith}
use Rattle.std.proofs.lemmas.List.{length-drop, nil_from_length}
use Rattle.mc_mode_state.specs.States.{point_of, is_outside}
use Rattle.mc_mode_state.specs.code.Columns.{freed, freed_one}
use Rattle.mc_mode_state.proofs.Numbers.{below-rest}
use Rattle.mc_mode_state.proofs.Steps.{stepped-trans}
use Rattle.mc_mode_state.proofs.EndsMerged.{freed-on}
use Rattle.mc_mode_state.proofs.state.State.free_inner.Goals as goal

pub loop-x-preserved : goal.loop-x-preserved
loop-x-preserved c =
    let f : ℕ → Bool = is_outside c.args.self.now.outside.items in
    let xs = c.args.own.now in
    let k = c.loop-x.x-index in
    let s = c.args.self.now in
    let t = c.loop-x.self in
    let u = c.free_one.new.self in
    let b = point_of t.insts.items in
    let e = c.in_ok-free_one.ensures in
    let i = c.loop-x.invariant in
    let h : k < length xs = omega arith in
    record {
      below = below-rest (length t.insts.items) (length u.insts.items) xs k e.count i.below h;
      count = e.count ∙ i.count;
      even = ap (λ (v : Vec ℕ Global). length v.items) e.outside ∙ (i.even ∙ sym e.count);
      outside = e.outside ∙ i.outside;
      point = ap (freed f (drop (k + 1) xs)) (e.point ∙ ap (λ (v : Vec ℕ Global). freed_one (is_outside v.items) (get_or xs k 0) b) i.outside)
          ∙ (sym (freed-on f xs b k h) ∙ i.point);
      stepped = λ q st. let p = i.stepped q st in stepped-trans q q q s t u p (e.stepped q p.moved.stands);
    }

pub returns-clause-point : goal.returns-clause-point
returns-clause-point c =
    let xs = c.args.own.now in
    let k = c.loop-x.x-index in
    sym (ap (λ (ys : List ℕ). freed (is_outside c.args.self.now.outside.items) ys (point_of c.loop-x.self.insts.items)) (nil_from_length (drop k xs) (omega (arith, length-drop k xs))))
    ∙ c.loop-x.invariant.point
