use Rattle.std.proofs.Common.{◌∙◌, ◌<◌, ◌≤◌, ◌-◌, ℕ, length, get_or, ap, sym, subst, arith}
use Rattle.mc_accepted.specs.Arranged.{with_inst}
use Rattle.mc_mode_state.proofs.Numbers.{number-at}
use Rattle.mc_mode_state.proofs.Beginnings.{all-free, entered-none, entered-one}
use Rattle.mc_mode_state.proofs.entry.first_insts.Goals as goal

pub loop-k-init : goal.loop-k-init
loop-k-init c = record {
  within = omega arith;
  count = c.in_ok-insts.ensures.many;
  point = sym (all-free c.in_ok-insts.insts.items c.in_ok-insts.ensures.zeros)
      ∙ sym (entered-none c.args.head.now c.args.first.now (length c.args.head.now) (omega arith));
}

pub put-requires : goal.put-requires
put-requires c =
    let k = c.loop-k.k in
    let h : k - 1 < length c.args.head.now = omega (arith, c.loop-k.invariant.within, c.loop-k-test.true) in
    subst (λ (n : ℕ). get_or c.args.head.now (k - 1) 0 < n) (sym c.loop-k.invariant.count) (number-at c.args.many c.args.head.now (k - 1) c.requires.head h)

pub loop-k-preserved : goal.loop-k-preserved
loop-k-preserved c =
    let head = c.args.head.now in
    let first = c.args.first.now in
    let k = c.loop-k.k in
    let h : 0 < k = omega (arith, c.loop-k-test.true) in
    let l : k ≤ length head = c.loop-k.invariant.within in
    record {
      within = omega (arith, l);
      count = c.put.ensures.count ∙ c.loop-k.invariant.count;
      point = c.put.ensures.point
          ∙ (ap (with_inst ℕ (get_or head (k - 1) 0) (get_or first (k - 1) 0)) c.loop-k.invariant.point
          ∙ sym (entered-one head first k h l c.requires.arguments));
    }
