use Rattle.std.proofs.Common.{◌<◌, ◌∙◌, Some, map, length, get_or, arith, refl}
use Rattle.mc_values.specs.Heap.{value_at, values_at}
use Rattle.mc_plain.specs.Frames.{bindings}
use Rattle.mc_plain.proofs.Unifying.{unify_lengths, length_all_seen, all_seen, fails_here, goes_on}
use Rattle.mc_plain.proofs.frame.unify_refs.Goals as goal

pub returns-then-vars-refs-clause-unifies : goal.returns-then-vars-refs-clause-unifies
returns-then-vars-refs-clause-unifies c =
    unify_lengths c.args.vars.now (map Some (values_at c.args.heap.now c.args.refs.now)) (bindings c.args.heap.now c.args.frame.now.items)
    (λ q. c.if-vars-refs.true (q ∙ length_all_seen c.args.heap.now c.args.refs.now))

pub returns-then-not-branch-clause-unifies : goal.returns-then-not-branch-clause-unifies
returns-then-not-branch-clause-unifies c =
    let h = c.args.heap.now in
    let refs = c.args.refs.now in
    let k = c.loop-k.k in
    let lt : k < length c.args.vars.now = omega arith in
    let within : k < length refs = omega arith in
    let lt' : k < length (map Some (values_at h refs)) = omega (arith, length_all_seen h refs) in
    fails_here c.args.vars.now (map Some (values_at h refs)) k (bindings h c.loop-k.frame.items) lt lt' _ c.loop-k.invariant.unifies
    (Some (value_at h (get_or refs k 0))) c.in_ok-meet.field-0 (bindings h c.meet.new.frame.items) (all_seen h refs k (get_or refs k 0) within refl)
    (c.in_ok-meet.ensures {u = tt}).meets c.if-not-branch.true

pub returns-then-not-branch-clause-held : goal.returns-then-not-branch-clause-held
returns-then-not-branch-clause-held c P a b =
    let within : c.loop-k.k < length c.args.refs.now = omega arith in
    c.meet.ensures.held P (a c.loop-k.k 0 within) (c.loop-k.invariant.held P a b)

pub loop-k-preserved : goal.loop-k-preserved
loop-k-preserved c =
    let h = c.args.heap.now in
    let refs = c.args.refs.now in
    let k = c.loop-k.k in
    let lt : k < length c.args.vars.now = omega arith in
    let within : k < length refs = omega arith in
    let lt' : k < length (map Some (values_at h refs)) = omega (arith, length_all_seen h refs) in
    record {
      size = c.meet.ensures.size ∙ c.loop-k.invariant.size;
      live = c.meet.ensures.live;
      held = λ P a b. c.meet.ensures.held P (a k 0 within) (c.loop-k.invariant.held P a b);
      unifies =
          goes_on c.args.vars.now (map Some (values_at h refs)) k (bindings h c.loop-k.frame.items) lt lt' _ c.loop-k.invariant.unifies
          (Some (value_at h (get_or refs k 0))) c.in_ok-meet.field-0 (bindings h c.meet.new.frame.items) (all_seen h refs k (get_or refs k 0) within refl)
          (c.in_ok-meet.ensures {u = tt}).meets c.if-not-branch.false;
    }
