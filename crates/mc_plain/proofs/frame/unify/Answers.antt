use Rattle.std.proofs.Common.{◌<◌, ◌∙◌, None, map, length, get_or, arith, refl}
use Rattle.std.proofs.lemmas.List.{length-map}
use Rattle.mc_plain.specs.Frames.{bindings, seen}
use Rattle.mc_plain.proofs.Unifying.{unify_lengths, one_seen, fails_here, goes_on}
use Rattle.mc_plain.proofs.frame.unify.Goals as goal

pub returns-then-vars-values-clause-unifies : goal.returns-then-vars-values-clause-unifies
returns-then-vars-values-clause-unifies c =
    unify_lengths c.args.vars.now (map (seen c.args.heap.now) c.args.values.now) (bindings c.args.heap.now c.args.frame.now.items)
    (λ q. c.if-vars-values.true (q ∙ length-map c.args.values.now (seen c.args.heap.now)))

pub returns-then-not-branch-clause-unifies : goal.returns-then-not-branch-clause-unifies
returns-then-not-branch-clause-unifies c =
    let h = c.args.heap.now in
    let values = c.args.values.now in
    let k = c.loop-k.k in
    let lt : k < length c.args.vars.now = omega arith in
    let within : k < length values = omega arith in
    let lt' : k < length (map (seen h) values) = omega (arith, length-map values (seen h)) in
    fails_here c.args.vars.now (map (seen h) values) k (bindings h c.loop-k.frame.items) lt lt' _ c.loop-k.invariant.unifies
    (seen h (get_or values k None)) c.in_ok-meet_if.field-0 (bindings h c.meet_if.new.frame.items) (one_seen h values k (get_or values k None) within refl)
    (c.in_ok-meet_if.ensures {u = tt}).meets c.if-not-branch.true

pub returns-then-not-branch-clause-held : goal.returns-then-not-branch-clause-held
returns-then-not-branch-clause-held c P a b =
    let within : c.loop-k.k < length c.args.values.now = omega arith in
    c.meet_if.ensures.held P (a c.loop-k.k None within) (c.loop-k.invariant.held P a b)

pub loop-k-preserved : goal.loop-k-preserved
loop-k-preserved c =
    let h = c.args.heap.now in
    let values = c.args.values.now in
    let k = c.loop-k.k in
    let lt : k < length c.args.vars.now = omega arith in
    let within : k < length values = omega arith in
    let lt' : k < length (map (seen h) values) = omega (arith, length-map values (seen h)) in
    record {
      size = c.meet_if.ensures.size ∙ c.loop-k.invariant.size;
      live = c.meet_if.ensures.live;
      held = λ P a b. c.meet_if.ensures.held P (a k None within) (c.loop-k.invariant.held P a b);
      unifies =
          goes_on c.args.vars.now (map (seen h) values) k (bindings h c.loop-k.frame.items) lt lt' _ c.loop-k.invariant.unifies
          (seen h (get_or values k None)) c.in_ok-meet_if.field-0 (bindings h c.meet_if.new.frame.items) (one_seen h values k (get_or values k None) within refl)
          (c.in_ok-meet_if.ensures {u = tt}).meets c.if-not-branch.false;
    }
