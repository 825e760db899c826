use Rattle.std.proofs.Common.{◌≡◌, ◌<◌, [], ◌∷◌, length, length-append, get_or, ap, subst, arith}
use Rattle.mc_model.specs.declared.sched.Proc.{Proc}
use Rattle.mc_procs.specs.Procedures.{PlainProcs}
use Rattle.mc_det.proofs.Replacing.{one_placed, get_any}
use Rattle.mc_switch.specs.SwitchedBodies.{IsSwitched}
use Rattle.mc_switch.proofs.Growing.{grown_twice}
use Rattle.mc_switch.proofs.SwitchedProcs.{switched_later}
use Rattle.mc_switch.proofs.procedures.switched_procs.Goals as goal

pub loop-k-preserved : goal.loop-k-preserved
loop-k-preserved c =
    let q : PlainProcs = c.args.procs.now in
    let now = c.loop-k in
    let l : PlainProcs = now.procs in
    let r : PlainProcs = c.switched_proc.new.procs in
    let k = now.k in
    let x : Proc = c.in_ok-p.p in
    let did = c.in_ok-p.ensures in
    let lt : k < length q.added = omega (arith, c.loop-k-test.true, c.count-k-end.ensures) in
    let p : Proc = get_or q.added k x in
    let was : get_or l.added k x ≡ p = ap (λ (v : PlainProcs). get_or v.added k x) now.invariant.grew.others in
    record {
      count = omega (arith, ap length c.in_ok-push.ensures.items, length-append now.switched.items (x ∷ []), now.invariant.count);
      grew = grown_twice q l r now.invariant.grew did.grew;
      each =
          one_placed (IsSwitched r) q.added now.switched.items c.push.new.self.items k p x now.invariant.count lt (get_any q.added k x p lt) c.in_ok-push.ensures.items
          (subst (λ (y : Proc). IsSwitched r y x) was did.switched)
          (λ j d less. switched_later l r (get_or q.added j d) (get_or now.switched.items j d) did.grew (now.invariant.each j d less));
    }

pub returns-in_err-p-clause-grew : goal.returns-in_err-p-clause-grew
returns-in_err-p-clause-grew c = search (grown_twice)

pub returns-in_err-push-clause-grew : goal.returns-in_err-push-clause-grew
returns-in_err-push-clause-grew c = search (grown_twice)
