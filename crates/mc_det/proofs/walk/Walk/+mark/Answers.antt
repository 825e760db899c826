use Rattle.std.proofs.Common.{◌≡◌, ◌+◌, ◌<◌, List, length, get_or, take, set, map, refl, sym, ap, ap₂, ◌∙◌, subst, arith, Box, Global, get_or-set_same, get_or-set_other}
use Rattle.std.proofs.lemmas.List.{get_or_default, length-set, take_all, take_more_set}
use Rattle.std.specs.Box.{with_value}
use denote.Param.Weighed.{at_most}
use borrow.Enum.Total.{values_d, values_d_at, values_o, values_o_at}
use Rattle.mc_source.specs.Determinism.{inferred, row_of, negated, ite}
use Rattle.mc_model.specs.Scheduled.{nodes, Not, Exists, Ite, Take}
use Rattle.mc_model.specs.PlainGoals.{plain_node, plain_sched, plain_arm, arms_of}
use Rattle.mc_model.specs.contracts.sched.Sched.{enum}
use Rattle.mc_source.specs.declared.det.Det.{Det}
use Rattle.mc_model.specs.declared.sched.Sched as D
use Rattle.mc_model.specs.declared.sched.Arm.{Arm, size-Arm}
use Rattle.mc_model.specs.declared.sched.GoalNode.{GoalNode, size-GoalNode}
use Rattle.mc_model.specs.declared.sched.Sched.{the_lemmas}
use Rattle.mc_procs.proofs.Views.{plain_sched-Not, plain_sched-Some, plain_sched-Ite, plain_sched-Take}
use Rattle.mc_accepted.specs.Determined.{insts_after, allowed_in, misses}
use Rattle.mc_procs.specs.Named.{Named}
use Rattle.mc_procs.specs.Procedures.{as_system}
use Rattle.mc_det.specs.Marked.{marked_all, marked_each, marked_arms}
use Rattle.mc_det.specs.declared.walk.Walk.{Walk}
use Rattle.mc_det.specs.code.Facts.{known_in}
use Rattle.mc_det.specs.code.Marks.{IsTold, NodeMarked, ThenMarked, under, all_told, any_told, arms_told}
use Rattle.mc_det.specs.code.Points.{insts_in, undone}
use Rattle.mc_det.specs.code.Walks.{typed, bounds_in}
use Rattle.mc_det.proofs.Declaring.{if_ok_as}
use Rattle.mc_det.proofs.Naming.{ready_same, item_named, arm_item_named}
use Rattle.mc_det.proofs.Walking.{taken_off}
use Rattle.mc_det.proofs.MarkedParts.{node_marked, told_as, conj_is, disj_is, switch_is, not_is, some_is, ite_is, marked_there, stays_both, still_named, goal_run, goal_tried, arm_chosen, then_marked, all_are, each_are, arms_are}
use Rattle.mc_det.proofs.walk.Walk.+mark.Goals as goal

-- what is in a box
abbrev inside : Box GoalNode Global → GoalNode
inside b = b.value

-- a goal with its mark
pub mark-returns-clause-marked : goal.mark-returns-clause-marked
mark-returns-clause-marked t c =
    node_marked c.args.procs.now c.args.types.now c.args.dets.now c.args.self.now c.args.goal.now
    (record { goal = c.mark_sched.new.goal; changes = c.args.goal.now.changes; det = c.goal_told-goal.result; pruned = c.args.goal.now.pruned })
    c.in_ok-det.det refl refl c.goal_told-goal.ensures c.in_ok-det.ensures.told

-- a conjunction
pub mark_conj-mark-requires : goal.mark_conj-mark-requires
mark_conj-mark-requires t c =
    let inv = c.loop-n.invariant in
    let gs : List GoalNode = c.args.goals.now in
    let k = c.loop-n.n in
    let g : GoalNode = c.index_mut.result.now in
    let lt : k < length gs = omega (arith, c.loop-n-test.true, inv.end) in
    let is : g ≡ get_or gs k g = c.index_mut.ensures.value ∙ inv.rest k g (omega arith) in
    let one = at_most size-GoalNode gs k g lt in
    (omega (arith, c.decreases, one, ap size-GoalNode is), (inv.ready, item_named (bounds_in c.args.procs.now (length c.args.types.now)) gs k g is lt c.requires.named))

pub mark_conj-enter-requires-clause-named : goal.mark_conj-enter-requires-clause-named
mark_conj-enter-requires-clause-named t c =
    let inv = c.loop-n.invariant in
    let B = bounds_in c.args.procs.now (length c.args.types.now) in
    let gs : List GoalNode = c.args.goals.now in
    let k = c.loop-n.n in
    let g : GoalNode = c.index_mut.result.now in
    let x : GoalNode = c.mark.new.goal in
    let lt : k < length gs = omega (arith, c.loop-n-test.true, inv.end) in
    let is : g ≡ get_or gs k g = c.index_mut.ensures.value ∙ inv.rest k g (omega arith) in
    subst (λ (h : GoalNode). Named B (plain_node h)) (sym (c.index.ensures ∙ get_or-set_same c.loop-n.nodes.items k x _ (omega (arith, inv.count, lt))))
    (still_named c.args.procs.now c.args.types.now c.args.dets.now B c.loop-n.self (plain_node g) (plain_node x) c.in_ok-mark.ensures.marked (item_named B gs k g is lt c.requires.named))

pub mark_conj-loop-n-preserved : goal.mark_conj-loop-n-preserved
mark_conj-loop-n-preserved t c =
    let inv = c.loop-n.invariant in
    let q = c.args.procs.now in
    let types = c.args.types.now in
    let ds = c.args.dets.now in
    let gs : List GoalNode = c.args.goals.now in
    let ns : List GoalNode = c.loop-n.nodes.items in
    let k = c.loop-n.n in
    let g : GoalNode = c.index_mut.result.now in
    let x : GoalNode = c.mark.new.goal in
    let a : Walk = c.args.self.now in
    let lt : k < length gs = omega (arith, c.loop-n-test.true, inv.end) in
    let lt_ns : k < length ns = omega (arith, inv.count, lt) in
    record {
      end = inv.end;
      count = length-set ns k x ∙ inv.count;
      rest = λ j d le. get_or-set_other ns k j x d (let n : j ≡ k → ⊥ = omega arith in n) ∙ inv.rest j d (omega arith);
      ready = c.in_ok-enter.ensures.ready;
      undone = c.in_ok-enter.ensures.found ∙ ap (undone c.loop-n.found.items) c.in_ok-mark.ensures.stays.point ∙ inv.undone;
      known = c.in_ok-enter.ensures.known ∙ c.in_ok-mark.ensures.stays.known ∙ inv.known;
      left =
          goal_run q types ds a c.loop-n.self c.mark.new.self c.enter.new.self.point gs k g x (take k ns) (take (k + 1) (set ns k x))
          (λ S. marked_all (under ds S) (typed types) (insts_in a.point) (known_in a.known.items) (nodes (map plain_node gs)))
          inv.known lt (c.index_mut.ensures.value ∙ inv.rest k g (omega arith)) c.in_ok-mark.ensures.stays
          (c.in_ok-enter.ensures.insts ∙ ap (λ (h : GoalNode). insts_after (plain_node h) (insts_in c.mark.new.self.point)) (c.index.ensures ∙ get_or-set_same ns k x _ lt_ns))
          c.in_ok-mark.ensures.marked (take_more_set ns k x lt_ns) inv.left;
    }

pub mark_conj-returns-clause-told : goal.mark_conj-returns-clause-told
mark_conj-returns-clause-told t c =
    let inv = c.loop-n.invariant in
    let q = c.args.procs.now in
    let types = c.args.types.now in
    let ds = c.args.dets.now in
    let gs : List GoalNode = c.args.goals.now in
    let ns : List GoalNode = c.loop-n.nodes.items in
    let k = c.loop-n.n in
    let a : Walk = c.args.self.now in
    let end : k ≡ length gs = omega (arith, inv.end, c.loop-n-test.false) in
    conj_is q types ds a gs c.from_vec.result c.all_told-det.result
    (c.all_told-det.ensures ∙ ap (λ (l : List GoalNode). inferred (all_told (nodes (map plain_node l)))) (c.as_slice.ensures.value ∙ sym c.from_vec.ensures))
    (λ outcome.
    let S = under ds (as_system outcome q) in
    ap (λ (l : List GoalNode). nodes (map plain_node l)) (c.from_vec.ensures ∙ sym (take_all k ns (omega (arith, inv.count, end))))
    ∙ all_are S (typed types) (insts_in c.loop-n.self.point) (known_in a.known.items) gs (take k ns) k (marked_all S (typed types) (insts_in a.point) (known_in a.known.items) (nodes (map plain_node gs))) end (inv.left outcome))

-- a disjunction
pub mark_disj-mark-requires : goal.mark_disj-mark-requires
mark_disj-mark-requires t c =
    let inv = c.loop-n.invariant in
    let gs : List GoalNode = c.args.goals.now in
    let k = c.loop-n.n in
    let g : GoalNode = c.index_mut.result.now in
    let lt : k < length gs = omega (arith, c.loop-n-test.true, inv.end) in
    let is : g ≡ get_or gs k g = c.index_mut.ensures.value ∙ inv.rest k g (omega arith) in
    let one = at_most size-GoalNode gs k g lt in
    (omega (arith, c.decreases, one, ap size-GoalNode is), (inv.ready, item_named (bounds_in c.args.procs.now (length c.args.types.now)) gs k g is lt c.requires.named))

pub mark_disj-loop-n-preserved : goal.mark_disj-loop-n-preserved
mark_disj-loop-n-preserved t c =
    let inv = c.loop-n.invariant in
    let q = c.args.procs.now in
    let types = c.args.types.now in
    let ds = c.args.dets.now in
    let gs : List GoalNode = c.args.goals.now in
    let ns : List GoalNode = c.loop-n.nodes.items in
    let k = c.loop-n.n in
    let g : GoalNode = c.index_mut.result.now in
    let x : GoalNode = c.mark.new.goal in
    let a : Walk = c.args.self.now in
    let lt : k < length gs = omega (arith, c.loop-n-test.true, inv.end) in
    record {
      end = inv.end;
      count = length-set ns k x ∙ inv.count;
      rest = λ j d le. get_or-set_other ns k j x d (let n : j ≡ k → ⊥ = omega arith in n) ∙ inv.rest j d (omega arith);
      ready = ready_same q types c.loop-n.self.point c.mark.new.self.point c.in_ok-mark.ensures.stays.point inv.ready;
      point = c.in_ok-mark.ensures.stays.point ∙ inv.point;
      known = c.in_ok-mark.ensures.stays.known ∙ inv.known;
      left =
          goal_tried q types ds a c.loop-n.self gs k g x (take k ns) (take (k + 1) (set ns k x))
          (λ S. marked_each (under ds S) (typed types) (insts_in a.point) (known_in a.known.items) (nodes (map plain_node gs)))
          (record { point = inv.point; known = inv.known }) lt (c.index_mut.ensures.value ∙ inv.rest k g (omega arith))
          c.in_ok-mark.ensures.marked (take_more_set ns k x (omega (arith, inv.count, lt))) inv.left;
    }

pub mark_disj-returns-clause-told : goal.mark_disj-returns-clause-told
mark_disj-returns-clause-told t c =
    let inv = c.loop-n.invariant in
    let q = c.args.procs.now in
    let types = c.args.types.now in
    let ds = c.args.dets.now in
    let gs : List GoalNode = c.args.goals.now in
    let ns : List GoalNode = c.loop-n.nodes.items in
    let k = c.loop-n.n in
    let a : Walk = c.args.self.now in
    let end : k ≡ length gs = omega (arith, inv.end, c.loop-n-test.false) in
    disj_is q types ds a gs c.from_vec.result c.any_told-det.result
    (c.any_told-det.ensures ∙ ap (λ (l : List GoalNode). inferred (any_told (nodes (map plain_node l)))) (c.as_slice.ensures.value ∙ sym c.from_vec.ensures))
    (λ outcome.
    let S = under ds (as_system outcome q) in
    ap (λ (l : List GoalNode). nodes (map plain_node l)) (c.from_vec.ensures ∙ sym (take_all k ns (omega (arith, inv.count, end))))
    ∙ each_are S (typed types) (insts_in a.point) (known_in a.known.items) gs (take k ns) k (marked_each S (typed types) (insts_in a.point) (known_in a.known.items) (nodes (map plain_node gs))) end (inv.left outcome))

-- arms
pub mark_arms-mark-requires : goal.mark_arms-mark-requires
mark_arms-mark-requires t c =
    let inv = c.loop-n.invariant in
    let arms : List Arm = c.args.arms.now in
    let k = c.loop-n.n in
    let r : Arm = c.index_mut.result.now in
    let lt : k < length arms = omega (arith, c.loop-n-test.true, inv.end) in
    let is : r ≡ get_or arms k r = c.index_mut.ensures.value ∙ inv.rest k r (omega arith) in
    let one = at_most size-Arm arms k r lt in
    (omega (arith, the_lemmas, c.decreases, one, ap size-Arm is), (inv.ready, arm_item_named (bounds_in c.args.procs.now (length c.args.types.now)) arms k r is lt c.requires.named))

pub mark_arms-loop-n-preserved : goal.mark_arms-loop-n-preserved
mark_arms-loop-n-preserved t c =
    let inv = c.loop-n.invariant in
    let q = c.args.procs.now in
    let types = c.args.types.now in
    let ds = c.args.dets.now in
    let arms : List Arm = c.args.arms.now in
    let ns : List Arm = c.loop-n.bodies.items in
    let k = c.loop-n.n in
    let r : Arm = c.index_mut.result.now in
    let a : Walk = c.args.self.now in
    let l : Walk = c.loop-n.self in
    let w : Walk = record l { known = c.push.new.self } in
    let m : Walk = c.mark.new.self in
    let x : Arm = record { on = r.on; body = c.mark.new.goal } in
    let lt : k < length arms = omega (arith, c.loop-n-test.true, inv.end) in
    let lt_ns : k < length ns = omega (arith, inv.count, lt) in
    let on : c.in_ok-on.on ≡ r.on =
    c.in_ok-on.ensures ∙ ap (λ (h : Arm). h.on) (c.index.ensures ∙ get_or_default ns k c.index.result.now r lt_ns ∙ sym c.index_mut.ensures.value) in
    record {
      end = inv.end;
      count = length-set ns k x ∙ inv.count;
      rest = λ j d le. get_or-set_other ns k j x d (let n : j ≡ k → ⊥ = omega arith in n) ∙ inv.rest j d (omega arith);
      ready = ready_same q types l.point m.point c.in_ok-mark.ensures.stays.point inv.ready;
      point = c.in_ok-mark.ensures.stays.point ∙ inv.point;
      known =
          taken_off c.last_fact.result l.known.items m.known.items c.last_fact.new.facts.items _ (c.in_ok-mark.ensures.stays.known ∙ c.in_ok-push.ensures.items) c.last_fact.ensures
          ∙ inv.known;
      left =
          arm_chosen q types ds a l w c.args.x _ arms k r x (take k ns) (take (k + 1) (set ns k x))
          (λ S. marked_arms (under ds S) (typed types) (insts_in a.point) (known_in a.known.items) c.args.x (arms_of (map plain_arm arms)))
          (record { point = inv.point; known = inv.known })
          refl c.in_ok-push.ensures.items refl on lt (c.index_mut.ensures.value ∙ inv.rest k r (omega arith)) refl c.in_ok-mark.ensures.marked (take_more_set ns k x lt_ns) inv.left;
    }

pub mark_arms-returns-clause-told : goal.mark_arms-returns-clause-told
mark_arms-returns-clause-told t c =
    let inv = c.loop-n.invariant in
    let q = c.args.procs.now in
    let types = c.args.types.now in
    let ds = c.args.dets.now in
    let arms : List Arm = c.args.arms.now in
    let ns : List Arm = c.loop-n.bodies.items in
    let k = c.loop-n.n in
    let a : Walk = c.args.self.now in
    let end : k ≡ length arms = omega (arith, inv.end, c.loop-n-test.false) in
    switch_is q types ds a c.args.x arms c.from_vec.result c.in_ok-is_missed.is_missed c.arms_told-told.result c.switch_told.result c.switch_told.ensures
    (c.arms_told-told.ensures ∙ ap (λ (l : List Arm). inferred (arms_told (arms_of (map plain_arm l)))) (c.as_slice-2.ensures.value ∙ sym c.from_vec.ensures))
    (λ outcome. c.in_ok-is_missed.ensures outcome ∙ ap (λ (l : List Arm). misses (as_system outcome q) (typed types) (allowed_in (as_system outcome q) (typed types) (typed types c.args.x) (insts_in a.point c.args.x)) (arms_of (map plain_arm l))) c.as_slice.ensures.items)
    (λ outcome.
    let S = under ds (as_system outcome q) in
    ap (λ (l : List Arm). arms_of (map plain_arm l)) (c.from_vec.ensures ∙ sym (take_all k ns (omega (arith, inv.count, end))))
    ∙ arms_are S (typed types) (insts_in a.point) (known_in a.known.items) c.args.x arms (take k ns) k (marked_arms S (typed types) (insts_in a.point) (known_in a.known.items) c.args.x (arms_of (map plain_arm arms))) end (inv.left outcome))

-- a then part
pub mark_then-returns-clause-marked : goal.mark_then-returns-clause-marked
mark_then-returns-clause-marked t c =
    then_marked c.args.procs.now c.args.types.now c.args.dets.now c.args.self.now c.enter.new.self (plain_node c.args.condition.now) c.args.then_part.now c.mark.new.goal c.in_ok-enter.ensures.known c.in_ok-enter.ensures.insts c.in_ok-mark.ensures.marked

-- the forms of goals
pub mark_sched-returns-in_ok-mark-in-Not-clause-told : goal.mark_sched-returns-in_ok-mark-in-Not-clause-told
mark_sched-returns-in_ok-mark-in-Not-clause-told t c =
    let q = c.args.procs.now in
    let types = c.args.types.now in
    let ds = c.args.dets.now in
    let a : Walk = c.args.self.now in
    let g : GoalNode = c.in-Not.inner.value in
    let x : GoalNode = c.mark-in-Not.new.goal in
    rw (ap (values_o enum 4) c.in-Not.is ∙ values_o_at enum 4 (c.in-Not.inner, tt))
    (told_as q types ds a _ _ (Not (plain_node g)) (Not (plain_node x)) _ (ap plain_sched c.in-Not.is ∙ plain_sched-Not c.in-Not.inner) (plain_sched-Not _)
    (not_is q types ds a g x _ (c.negated.ensures ∙ ap (λ (h : GoalNode). inferred (negated (row_of h.det))) c.deref-in-Not.ensures)
    (subst (λ (h : GoalNode). NodeMarked q types ds a (plain_node h) (plain_node x)) (c.deref_mut-in-Not.ensures.value ∙ ap inside c.in-Not.inner-is) c.in_ok-mark-in-Not.ensures.marked)))

pub mark_sched-returns-in_ok-mark-in-Some-clause-told : goal.mark_sched-returns-in_ok-mark-in-Some-clause-told
mark_sched-returns-in_ok-mark-in-Some-clause-told t c =
    let q = c.args.procs.now in
    let types = c.args.types.now in
    let ds = c.args.dets.now in
    let a : Walk = c.args.self.now in
    let g : GoalNode = c.in-Some.inner.value in
    let x : GoalNode = c.mark-in-Some.new.goal in
    rw (ap (values_o enum 5) c.in-Some.is ∙ values_o_at enum 5 (c.in-Some.field-0, (c.in-Some.inner, tt)))
    (told_as q types ds a _ _ (Exists c.in-Some.field-0 (plain_node g)) (Exists c.in-Some.field-0 (plain_node x)) _ (ap plain_sched c.in-Some.is ∙ plain_sched-Some c.in-Some.field-0 c.in-Some.inner) (plain_sched-Some c.in-Some.field-0 _)
    (some_is q types ds a c.in-Some.field-0 g x _ (c.row.ensures ∙ ap (λ (h : GoalNode). inferred (row_of h.det)) c.deref-in-Some.ensures)
    (subst (λ (h : GoalNode). NodeMarked q types ds a (plain_node h) (plain_node x)) (c.deref_mut-in-Some.ensures.value ∙ ap inside c.in-Some.inner-is) c.in_ok-mark-in-Some.ensures.marked)))

pub mark_sched-returns-in_ok-mark-in-Ite-2-clause-told : goal.mark_sched-returns-in_ok-mark-in-Ite-2-clause-told
mark_sched-returns-in_ok-mark-in-Ite-2-clause-told t c =
    let q = c.args.procs.now in
    let types = c.args.types.now in
    let ds = c.args.dets.now in
    let a : Walk = c.args.self.now in
    let vs = c.in-Ite.field-0 in
    let b = c.in-Ite.condition in
    let d = c.in-Ite.then_part in
    let e = c.in-Ite.else_part in
    rw (ap (values_d enum 3 (vs, (b, (d, (e, tt))))) c.in-Ite.is ∙ values_d_at enum 3 (vs, (b, (d, (e, tt)))) (vs, (b, (d, (e, tt)))))
    (told_as q types ds a _ _ (Ite vs (plain_node b.value) (plain_node d.value) (plain_node e.value)) (Ite vs (plain_node c.mark.new.goal) (plain_node c.mark_then.new.then_part) (plain_node c.mark-in-Ite.new.goal)) _
    (ap plain_sched c.in-Ite.is ∙ plain_sched-Ite vs b d e)
    (plain_sched-Ite vs (with_value b c.mark.new.goal) (with_value d c.mark_then.new.then_part) (with_value e c.mark-in-Ite.new.goal))
    (ite_is q types ds a vs b.value d.value e.value c.mark.new.goal c.mark_then.new.then_part c.mark-in-Ite.new.goal _
    (c.ite.ensures
    ∙ ap (λ (h : GoalNode). inferred (ite (row_of h.det) (row_of c.deref-in-Ite-2.result.now.det) (row_of c.deref-in-Ite-3.result.now.det))) c.deref-in-Ite.ensures
    ∙ ap₂ (λ (h i : GoalNode). inferred (ite (row_of c.mark.new.goal.det) (row_of h.det) (row_of i.det))) c.deref-in-Ite-2.ensures c.deref-in-Ite-3.ensures)
    (marked_there q types ds a c.mark_then.new.self (plain_node b.value) (plain_node c.mark.new.goal) c.in_ok-mark_then-in-Ite.ensures.stays
    (subst (λ (h : GoalNode). NodeMarked q types ds c.mark_then.new.self (plain_node h) (plain_node c.mark.new.goal)) (c.deref_mut-in-Ite.ensures.value ∙ ap inside c.in-Ite.condition-is) c.in_ok-mark-in-Ite.ensures.marked))
    (subst (λ (h : GoalNode). ThenMarked q types ds a (plain_node b.value) (plain_node h) (plain_node c.mark_then.new.then_part)) (c.deref_mut.ensures.value ∙ ap inside c.in-Ite.then_part-is)
    (subst (λ (h : GoalNode). ThenMarked q types ds a (plain_node h) (plain_node c.deref_mut.result.now) (plain_node c.mark_then.new.then_part)) (c.deref.ensures ∙ ap inside c.in-Ite.condition-is) c.in_ok-mark_then-in-Ite.ensures.marked))
    (marked_there q types ds a c.mark.new.self (plain_node e.value) (plain_node c.mark-in-Ite.new.goal) (stays_both a c.mark_then.new.self c.mark.new.self c.in_ok-mark_then-in-Ite.ensures.stays c.in_ok-mark-in-Ite.ensures.stays)
    (subst (λ (h : GoalNode). NodeMarked q types ds c.mark.new.self (plain_node h) (plain_node c.mark-in-Ite.new.goal)) (c.deref_mut-in-Ite-2.ensures.value ∙ ap inside c.in-Ite.else_part-is) c.in_ok-mark-in-Ite-2.ensures.marked))))

pub mark_sched-returns-in-Take-clause-told : goal.mark_sched-returns-in-Take-clause-told
mark_sched-returns-in-Take-clause-told t c =
    let q = c.args.procs.now in
    let types = c.args.types.now in
    let ds = c.args.dets.now in
    let a : Walk = c.args.self.now in
    let x = c.in-Take.x in
    let s = c.in-Take.symbol in
    let args = c.in-Take.args in
    rw (ap (values_d enum 9 (x, (s, (args, tt)))) c.in-Take.is ∙ values_d_at enum 9 (x, (s, (args, tt))) (x, (s, (args, tt))))
    (if_ok_as c.take_told.result
    (λ det. (dets : List Det) → IsTold q types dets a (Take x s args) (Take x s args) det)
    (λ det. IsTold q types ds a (plain_sched c.args.goal.now) (plain_sched (D.Take x s args)) det)
    (λ det told. told_as q types ds a _ _ (Take x s args) (Take x s args) det (ap plain_sched c.in-Take.is ∙ plain_sched-Take x s args) (plain_sched-Take x s args) (told ds))
    (rw (ap (values_d enum 9 (x, (s, (args, tt)))) c.in-Take.is ∙ values_d_at enum 9 (x, (s, (args, tt))) (x, (s, (args, tt)))) at c.take_told.ensures))
