use Rattle.std.proofs.Common.{◌≡◌, suc, ◌-◌, ◌<◌, length, drop, true, sym, ap, ◌∙◌, arith}
use Rattle.std.proofs.Math.Seq.{drop-length}
use Rattle.mc_accepted.specs.Least.{least}
use Rattle.mc_switch.proofs.Choosing.{least_from}
use Rattle.mc_switch.proofs.choice.least.Goals as goal

pub loop-n-init : goal.loop-n-init
loop-n-init c = record {
  left = omega arith;
  least = ap (least (λ _. true)) (sym (drop-length c.args.xs.now));
}

pub loop-n-preserved : goal.loop-n-preserved
loop-n-preserved c =
    let xs = c.args.xs.now in
    let k = c.loop-n.n - 1 in
    let n : c.loop-n.n ≡ suc k = omega arith in
    let h = c.loop-n.invariant.left in
    let lt : k < length xs = omega arith in
    record {
      left = omega arith;
      least =
          c.with_one_more-found.ensures
          ∙ least_from (λ _. true) xs k c.loop-n.found lt (c.loop-n.invariant.least ∙ ap (λ m. least (λ _. true) (drop m xs)) n);
    }
