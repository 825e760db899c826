use Rattle.std.proofs.Common.{ℕ, List, length, sym, subst}
use Rattle.std.specs.List.{Contains}
use Rattle.mc_source.specs.declared.det.Det.{Det}
use Rattle.mc_det_constraints.specs.Skeletons.{value}
use Rattle.mc_det_constraints.specs.Least.{assigned, body_at, declared_at}
use Rattle.mc_det_constraints.specs.code.Callers.{AllBelow}
use Rattle.mc_det_constraints.specs.code.Raising.{Look}
use Rattle.mc_det_constraints.proofs.Raising.{Standing, begins, stays, last_below, raised_after, falls_after, look_raises, look_stays}
use Rattle.mc_det_constraints.proofs.inference.least.Goals as goal

pub look-requires-clause-body : goal.look-requires-clause-body
look-requires-clause-body c =
    last_below (length c.args.bodies.now) c.loop-p.left.list.items c.take.new.self.list.items c.in-Some.p c.in-Some.ensures.last c.loop-p.invariant.standing.below

pub loop-p-init : goal.loop-p-init
loop-p-init c =
    record {
      standing =
          subst (λ (ds : List Det). Standing c.args.bodies.now c.args.declared.now ds c.in_ok-left.left.list.items) (sym c.in_ok-dets.ensures)
          (begins c.args.bodies.now c.args.declared.now c.in_ok-left.left.list.items c.requires.many c.in_ok-left.ensures.has c.in_ok-left.ensures.below);
      pending = c.in_ok-left.ensures.pending;
    }

pub loop-p-preserved : goal.loop-p-preserved
loop-p-preserved c =
    let p = c.in-Some.p in
    let looked =
    subst (λ (ds : List Det). Look (declared_at c.args.declared.now p) (assigned ds p) (value (assigned ds) (body_at c.args.bodies.now p)) c.in_ok-d.field-0)
    c.as_slice.ensures.value c.in_ok-d.ensures in
    record {
      standing =
          stays c.args.bodies.now c.args.declared.now c.loop-p.dets.items c.take.new.self.list.items p
          (subst (Standing c.args.bodies.now c.args.declared.now c.loop-p.dets.items) c.in-Some.ensures.last c.loop-p.invariant.standing)
          (look_stays (declared_at c.args.declared.now p) (assigned c.loop-p.dets.items p) (value (assigned c.loop-p.dets.items) (body_at c.args.bodies.now p)) c.in_ok-d.field-0 looked c.in_default-2.not-Some);
      pending = c.take.ensures.pending;
    }

pub loop-p-preserved-in-Continue-branch-6 : goal.loop-p-preserved-in-Continue-branch-6
loop-p-preserved-in-Continue-branch-6 c =
    let p = c.in-Some.p in
    let looked =
    subst (λ (ds : List Det). Look (declared_at c.args.declared.now p) (assigned ds p) (value (assigned ds) (body_at c.args.bodies.now p)) c.in_ok-d.field-0)
    c.as_slice.ensures.value c.in_ok-d.ensures in
    let r = look_raises (declared_at c.args.declared.now p) (assigned c.loop-p.dets.items p) (value (assigned c.loop-p.dets.items) (body_at c.args.bodies.now p)) c.in_ok-d.field-0 c.in-Some-2.d looked c.in-Some-2.is in
    let b = last_below (length c.args.bodies.now) c.loop-p.left.list.items c.take.new.self.list.items p c.in-Some.ensures.last c.loop-p.invariant.standing.below in
    let are = c.in_ok-callers.ensures in
    record {
      standing =
          raised_after c.args.bodies.now c.args.declared.now c.loop-p.dets.items p c.loop-p.left.list.items c.take.new.self.list.items c.get.result.now c.put_all.new.self.list.items c.in-Some-2.d
          r.1.0 c.in-Some.ensures.last c.in_ok-put_all.ensures.put
          (λ q lt e. subst (λ (l : List ℕ). Contains l q) (sym c.get.ensures.list) (are.all q p lt b e))
          (subst (AllBelow (length c.args.bodies.now)) (sym c.get.ensures.list) (are.there p))
          b r.0 c.loop-p.invariant.standing;
      pending = c.in_ok-put_all.ensures.pending;
    }

pub loop-p-smaller-in-Continue-branch-6 : goal.loop-p-smaller-in-Continue-branch-6
loop-p-smaller-in-Continue-branch-6 c =
    let p = c.in-Some.p in
    let looked =
    subst (λ (ds : List Det). Look (declared_at c.args.declared.now p) (assigned ds p) (value (assigned ds) (body_at c.args.bodies.now p)) c.in_ok-d.field-0)
    c.as_slice.ensures.value c.in_ok-d.ensures in
    let r = look_raises (declared_at c.args.declared.now p) (assigned c.loop-p.dets.items p) (value (assigned c.loop-p.dets.items) (body_at c.args.bodies.now p)) c.in_ok-d.field-0 c.in-Some-2.d looked c.in-Some-2.is in
    let b = last_below (length c.args.bodies.now) c.loop-p.left.list.items c.take.new.self.list.items p c.in-Some.ensures.last c.loop-p.invariant.standing.below in
    falls_after c.args.bodies.now c.args.declared.now c.loop-p.dets.items p c.loop-p.left.list.items c.take.new.self.list.items c.get.result.now c.put_all.new.self.list.items c.in-Some-2.d
    r.1.0 c.in-Some.ensures.last c.in_ok-put_all.ensures.put c.loop-p.invariant.standing.many b r.1.1 c.get.ensures.few
