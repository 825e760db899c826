use Rattle.std.proofs.Common.{◌≡◌, suc, ◌-◌, ◌<◌, length, get_or, drop, Bool, Some, if◌then◌else◌, sym, ap, ◌∙◌, arith}
use Rattle.std.proofs.Math.Seq.{drop-length}
use Rattle.mc_accepted.specs.Least.{lesser, least}
use Rattle.mc_accepted.specs.Switched.{misses_none}
use Rattle.mc_procs.specs.Procedures.{as_system}
use Rattle.mc_procs.specs.VariableTypes.{type_in}
use Rattle.mc_switch.specs.Types.{inst_in}
use Rattle.mc_switch.proofs.Choosing.{least_from}
use Rattle.mc_switch.proofs.choice.least_covered.Goals as goal

pub loop-n-init : goal.loop-n-init
loop-n-init c = record {
  left = omega arith;
  least = λ outcome ds opens. ap (least (misses_none (as_system outcome c.args.procs.now) (type_in c.args.types.now) (inst_in c.args.insts.now) ds)) (sym (drop-length c.args.xs.now));
}

pub loop-n-preserved : goal.loop-n-preserved
loop-n-preserved c =
    let xs = c.args.xs.now in
    let k = c.loop-n.n - 1 in
    let n : c.loop-n.n ≡ suc k = omega arith in
    let h = c.loop-n.invariant.left in
    let lt : k < length xs = omega arith in
    record {
      left = omega arith;
      least =
          λ outcome ds opens.
          let test = misses_none (as_system outcome c.args.procs.now) (type_in c.args.types.now) (inst_in c.args.insts.now) ds in
          c.with_one_more-found.ensures
          ∙ ap (λ (t : Bool). if t then Some (lesser (get_or xs k 0) c.loop-n.found) else c.loop-n.found) (c.in_ok-counts.ensures outcome ds opens)
          ∙ least_from test xs k c.loop-n.found lt (c.loop-n.invariant.least outcome ds opens ∙ ap (λ m. least test (drop m xs)) n);
    }

pub returns : goal.returns
returns c =
    λ outcome ds opens.
    let test = misses_none (as_system outcome c.args.procs.now) (type_in c.args.types.now) (inst_in c.args.insts.now) ds in
    let over = c.loop-n-test.false in
    let none : c.loop-n.n ≡ 0 = omega arith in
    c.loop-n.invariant.least outcome ds opens ∙ ap (λ m. least test (drop m c.args.xs.now)) none
