use Rattle.std.proofs.Common.{◌++◌, ◌∷◌, [], List, length, map, refl, sym, ap, ◌∙◌, subst, arith, ℕ, if◌then◌else◌}
use Rattle.std.proofs.lemmas.Result.{on_ok_weaker}
use Rattle.mc_source.specs.Determinism.{det, failure, erroneous}
use Rattle.mc_model.specs.Scheduled.{nodes, Ite}
use Rattle.mc_model.specs.PlainGoals.{plain_node, plain_sched, plain_arm, arms_of}
use Rattle.mc_model.specs.declared.sched.GoalNode.{GoalNode}
use Rattle.mc_model.specs.declared.sched.Arm.{Arm}
use Rattle.mc_accepted.specs.Determined.{insts_after}
use Rattle.mc_procs.specs.Named.{Named, NamedIn}
use Rattle.mc_procs.specs.Procedures.{as_system}
use Rattle.mc_procs.proofs.Views.{plain_sched-Conj, plain_sched-Disj, plain_sched-Switch, plain_sched-Ite, plain_sched-Not}
use Rattle.mc_det_constraints.specs.declared.constraint.Step.TheVariants as T
use Rattle.mc_det.specs.Bodies.{fixed, constraint, constraint_in, constraint_all, constraint_any, constraint_arms}
use Rattle.mc_det.specs.declared.walk.Walk.{Walk}
use Rattle.mc_det.specs.code.Facts.{known_in}
use Rattle.mc_det.specs.code.Points.{insts_in, undone}
use Rattle.mc_det.specs.code.Walks.{typed, bounds_in, Ready, times, missed, Puts}
use Rattle.mc_det.proofs.Walking.{each_named_at, all_done, any_done, arms_done, then_steps, then_puts, as_seen, ends, one_run, one_tried, one_chosen, then_put, ite_put, node_seen, taken_off}
use Rattle.mc_det.proofs.Naming.{ready_same}
use Rattle.mc_det.proofs.walk.Walk.+walk.Goals as goal

pub goal-returns-then-goal : goal.goal-returns-then-goal
goal-returns-then-goal t c =
    let q = c.args.procs.now in
    let g : GoalNode = c.args.goal.now in
    let type = typed c.args.types.now in
    let a : Walk = c.args.self.now in
    on_ok_weaker c.put.result
    (λ p.
    then_steps q a c.sched.new.self c.put.new.self (T.Pruned ∷ []) (λ S b kn. constraint_in S type b kn (plain_sched g.goal)) (λ S b kn. constraint S type b kn (plain_node g)) c.in_ok-sched.ensures p
    (λ outcome. node_seen (as_system outcome q) type (insts_in a.point) (known_in a.known.items) g (T.Pruned ∷ []) (ap (λ b. if b then T.Pruned ∷ [] else []) (sym c.if-goal.true))))
    c.put.ensures

pub sched-put_misses-requires : goal.sched-put_misses-requires
sched-put_misses-requires t c =
    let B = bounds_in c.args.procs.now (length c.args.types.now) in
    record {
      ready = subst (Ready c.args.procs.now c.args.types.now) (sym c.in_ok-arms-in-Switch.ensures.point) c.requires.ready;
      there = (subst (NamedIn B) (ap plain_sched c.in-Switch.is ∙ plain_sched-Switch c.in-Switch.x c.in-Switch.arms) c.requires.named).0;
    }

pub sched-returns-in-Conj : goal.sched-returns-in-Conj
sched-returns-in-Conj t c =
    let q = c.args.procs.now in
    let type = typed c.args.types.now in
    let a : Walk = c.args.self.now in
    on_ok_weaker c.conj.result
    (λ p.
    as_seen q a c.conj.new.self (λ S b kn. constraint_all S type b kn (nodes (map plain_node c.as_slice.result.now))) (λ S b kn. constraint_in S type b kn (plain_sched c.args.goal.now)) p
    (λ outcome.
    ap (λ (gs : List GoalNode). constraint_all (as_system outcome q) type (insts_in a.point) (known_in a.known.items) (nodes (map plain_node gs))) c.as_slice.ensures.items
    ∙ ap (constraint_in (as_system outcome q) type (insts_in a.point) (known_in a.known.items)) (sym (ap plain_sched c.in-Conj.is ∙ plain_sched-Conj c.in-Conj.goals))))
    c.conj.ensures

pub sched-returns-in-Disj : goal.sched-returns-in-Disj
sched-returns-in-Disj t c =
    let q = c.args.procs.now in
    let type = typed c.args.types.now in
    let a : Walk = c.args.self.now in
    on_ok_weaker c.disj.result
    (λ p.
    as_seen q a c.disj.new.self (λ S b kn. constraint_any S type b kn (nodes (map plain_node c.as_slice-in-Disj.result.now))) (λ S b kn. constraint_in S type b kn (plain_sched c.args.goal.now)) p
    (λ outcome.
    ap (λ (gs : List GoalNode). constraint_any (as_system outcome q) type (insts_in a.point) (known_in a.known.items) (nodes (map plain_node gs))) c.as_slice-in-Disj.ensures.items
    ∙ ap (constraint_in (as_system outcome q) type (insts_in a.point) (known_in a.known.items)) (sym (ap plain_sched c.in-Disj.is ∙ plain_sched-Disj c.in-Disj.goals))))
    c.disj.ensures

pub sched-returns-in_ok-arms-in-Switch : goal.sched-returns-in_ok-arms-in-Switch
sched-returns-in_ok-arms-in-Switch t c =
    let q = c.args.procs.now in
    let type = typed c.args.types.now in
    let a : Walk = c.args.self.now in
    let x : ℕ = c.in-Switch.x in
    on_ok_weaker c.put_misses.result
    (λ p.
    then_puts q a c.arms.new.self c.put_misses.new.self (λ S b kn. constraint_arms S type b kn x (arms_of (map plain_arm c.as_slice-in-Switch.result.now))) (λ S b kn. missed S type b x (arms_of (map plain_arm c.as_slice-in-Switch-2.result.now))) (λ S b kn. constraint_in S type b kn (plain_sched c.args.goal.now)) c.in_ok-arms-in-Switch.ensures p
    (λ outcome.
    ap (λ (gs : List Arm). constraint_arms (as_system outcome q) type (insts_in a.point) (known_in a.known.items) x (arms_of (map plain_arm gs)) ++ missed (as_system outcome q) type (insts_in a.point) x (arms_of (map plain_arm c.as_slice-in-Switch-2.result.now))) c.as_slice-in-Switch.ensures.items
    ∙ ap (λ (gs : List Arm). constraint_arms (as_system outcome q) type (insts_in a.point) (known_in a.known.items) x (arms_of (map plain_arm c.in-Switch.arms)) ++ missed (as_system outcome q) type (insts_in a.point) x (arms_of (map plain_arm gs))) c.as_slice-in-Switch-2.ensures.items
    ∙ ap (constraint_in (as_system outcome q) type (insts_in a.point) (known_in a.known.items)) (sym (ap plain_sched c.in-Switch.is ∙ plain_sched-Switch x c.in-Switch.arms))))
    c.put_misses.ensures

pub sched-returns-in_ok-goal-in-Ite-2 : goal.sched-returns-in_ok-goal-in-Ite-2
sched-returns-in_ok-goal-in-Ite-2 t c =
    let q = c.args.procs.now in
    let types = c.args.types.now in
    let a : Walk = c.args.self.now in
    let b : Walk = c.goal.new.self in
    let e : Walk = c.then.new.self in
    let d : Walk = c.goal-in-Ite.new.self in
    let g : GoalNode = c.in-Ite.condition.value in
    let h : GoalNode = c.in-Ite.then_part.value in
    let k : GoalNode = c.in-Ite.else_part.value in
    on_ok_weaker c.put.result
    (λ p.
    as_seen q a c.put.new.self (λ S is kn. constraint_in S (typed types) is kn (Ite [] (plain_node g) (plain_node h) (plain_node k))) (λ S b kn. constraint_in S (typed types) b kn (plain_sched c.args.goal.now))
    (ite_put q types a b e d c.put.new.self g h k
    (subst (λ (g : GoalNode). Puts q a b (λ S is kn. constraint S (typed types) is kn (plain_node g))) c.deref.ensures c.in_ok-goal-in-Ite.ensures)
    (subst (λ (h : GoalNode). Puts q b e (λ S is kn. constraint S (typed types) (insts_after (plain_node g) is) kn (plain_node h))) c.deref-in-Ite.ensures
    (subst (λ (g : GoalNode). Puts q b e (λ S is kn. constraint S (typed types) (insts_after (plain_node g) is) kn (plain_node c.deref-in-Ite.result.now))) c.deref-in-Ite-2.ensures c.in_ok-then-in-Ite.ensures))
    (subst (λ (k : GoalNode). Puts q e d (λ S is kn. constraint S (typed types) is kn (plain_node k))) c.deref-in-Ite-3.ensures c.in_ok-goal-in-Ite-2.ensures)
    p)
    (λ outcome. ap (constraint_in (as_system outcome q) (typed types) (insts_in a.point) (known_in a.known.items)) (sym (ap plain_sched c.in-Ite.is ∙ plain_sched-Ite c.in-Ite.field-0 c.in-Ite.condition c.in-Ite.then_part c.in-Ite.else_part))))
    c.put.ensures

pub sched-returns-in_ok-goal-in-Not : goal.sched-returns-in_ok-goal-in-Not
sched-returns-in_ok-goal-in-Not t c =
    let q = c.args.procs.now in
    let type = typed c.args.types.now in
    let a : Walk = c.args.self.now in
    on_ok_weaker c.put-in-Not.result
    (λ p.
    then_steps q a c.goal-in-Not.new.self c.put-in-Not.new.self (T.Not ∷ []) (λ S b kn. constraint S type b kn (plain_node c.deref-in-Not.result.now)) (λ S b kn. constraint_in S type b kn (plain_sched c.args.goal.now)) c.in_ok-goal-in-Not.ensures p
    (λ outcome.
    ap (λ (g : GoalNode). constraint (as_system outcome q) type (insts_in a.point) (known_in a.known.items) (plain_node g) ++ T.Not ∷ []) c.deref-in-Not.ensures
    ∙ ap (constraint_in (as_system outcome q) type (insts_in a.point) (known_in a.known.items)) (sym (ap plain_sched c.in-Not.is ∙ plain_sched-Not c.in-Not.inner))))
    c.put-in-Not.ensures

pub conj-loop-goal-preserved : goal.conj-loop-goal-preserved
conj-loop-goal-preserved t c =
    let q = c.args.procs.now in
    let types = c.args.types.now in
    let g : GoalNode = c.goal-item.result in
    let a : Walk = c.args.self.now in
    let l : Walk = c.loop-goal.self in
    let m : Walk = c.goal.new.self in
    let n : Walk = c.enter.new.self in
    record {
      ready = c.in_ok-enter.ensures.ready;
      undone = c.in_ok-enter.ensures.found ∙ ap (undone c.loop-goal.found.items) c.in_ok-goal.ensures.point ∙ c.loop-goal.invariant.undone;
      known = c.in_ok-enter.ensures.known ∙ c.in_ok-goal.ensures.known ∙ c.loop-goal.invariant.known;
      left =
          one_run q types a l m c.loop-goal.goal-index
          (λ S. a.steps.items ++ constraint_all S (typed types) (insts_in a.point) (known_in a.known.items) (nodes (map plain_node c.args.goals.now)))
          c.loop-goal.invariant.known n.point c.args.goals.now g g c.loop-goal-test.true c.goal-item.is c.in_ok-goal.ensures c.in_ok-enter.ensures.insts n c.in_ok-enter.ensures.steps c.loop-goal.invariant.left;
    }

pub conj-enter-requires : goal.conj-enter-requires
conj-enter-requires t c =
    let B = bounds_in c.args.procs.now (length c.args.types.now) in
    record {
      ready = subst (Ready c.args.procs.now c.args.types.now) (sym c.in_ok-goal.ensures.point) c.loop-goal.invariant.ready;
      named = subst (λ (g : GoalNode). Named B (plain_node g)) (sym c.goal-item.is) (each_named_at B c.args.goals.now c.loop-goal.goal-index c.goal-item.result c.loop-goal-test.true c.requires.named);
    }

pub conj-returns : goal.conj-returns
conj-returns t c =
    let q = c.args.procs.now in
    let types = c.args.types.now in
    let gs = c.args.goals.now in
    let a : Walk = c.args.self.now in
    let l : Walk = c.loop-goal.self in
    let m : Walk = record l { point = c.undo_all.new.self; found = c.undo_all.new.found } in
    on_ok_weaker c.put_times.result
    (λ p.
    ends q a m c.put_fixed.new.self c.put_times.new.self (fixed det) (times (length gs) T.Conj) (λ S b kn. constraint_all S (typed types) b kn (nodes (map plain_node gs)))
    (c.undo_all.ensures ∙ c.loop-goal.invariant.undone) c.loop-goal.invariant.known c.in_ok-put_fixed.ensures p
    (λ outcome.
    all_done (as_system outcome q) (typed types) (insts_in l.point) (known_in a.known.items) gs c.loop-goal.goal-index l.steps.items
    (a.steps.items ++ constraint_all (as_system outcome q) (typed types) (insts_in a.point) (known_in a.known.items) (nodes (map plain_node gs)))
    (omega arith) (c.loop-goal.invariant.left outcome)))
    c.put_times.ensures

pub disj-loop-goal-preserved : goal.disj-loop-goal-preserved
disj-loop-goal-preserved t c =
    let q = c.args.procs.now in
    let types = c.args.types.now in
    let g : GoalNode = c.goal-item.result in
    let a : Walk = c.args.self.now in
    record {
      ready = ready_same q types c.loop-goal.self.point c.goal.new.self.point c.in_ok-goal.ensures.point c.loop-goal.invariant.ready;
      point = c.in_ok-goal.ensures.point ∙ c.loop-goal.invariant.point;
      known = c.in_ok-goal.ensures.known ∙ c.loop-goal.invariant.known;
      left =
          one_tried q types a c.loop-goal.self c.goal.new.self c.loop-goal.goal-index
          (λ S. a.steps.items ++ constraint_any S (typed types) (insts_in a.point) (known_in a.known.items) (nodes (map plain_node c.args.goals.now)))
          c.loop-goal.invariant.known c.args.goals.now g g c.loop-goal.invariant.point c.loop-goal-test.true c.goal-item.is c.in_ok-goal.ensures c.loop-goal.invariant.left;
    }

pub disj-returns : goal.disj-returns
disj-returns t c =
    let q = c.args.procs.now in
    let types = c.args.types.now in
    let gs = c.args.goals.now in
    let a : Walk = c.args.self.now in
    let l : Walk = c.loop-goal.self in
    on_ok_weaker c.put_times.result
    (λ p.
    ends q a l c.put_fixed.new.self c.put_times.new.self (fixed failure) (times (length gs) T.Disj) (λ S b kn. constraint_any S (typed types) b kn (nodes (map plain_node gs)))
    c.loop-goal.invariant.point c.loop-goal.invariant.known c.in_ok-put_fixed.ensures p
    (λ outcome.
    any_done (as_system outcome q) (typed types) (insts_in a.point) (known_in a.known.items) gs c.loop-goal.goal-index l.steps.items
    (a.steps.items ++ constraint_any (as_system outcome q) (typed types) (insts_in a.point) (known_in a.known.items) (nodes (map plain_node gs)))
    (omega arith) (c.loop-goal.invariant.left outcome)))
    c.put_times.ensures

pub arms-loop-arm-preserved : goal.arms-loop-arm-preserved
arms-loop-arm-preserved t c =
    let q = c.args.procs.now in
    let types = c.args.types.now in
    let r : Arm = c.arm-item.result in
    let a : Walk = c.args.self.now in
    let l : Walk = c.loop-arm.self in
    let w : Walk = record l { known = c.push.new.self } in
    let m : Walk = c.goal.new.self in
    record {
      ready = ready_same q types l.point m.point c.in_ok-goal.ensures.point c.loop-arm.invariant.ready;
      point = c.in_ok-goal.ensures.point ∙ c.loop-arm.invariant.point;
      known =
          taken_off c.last_fact.result l.known.items m.known.items c.last_fact.new.facts.items _ (c.in_ok-goal.ensures.known ∙ c.in_ok-push.ensures.items) c.last_fact.ensures
          ∙ c.loop-arm.invariant.known;
      left =
          one_chosen q types a l m c.loop-arm.arm-index
          (λ S. a.steps.items ++ constraint_arms S (typed types) (insts_in a.point) (known_in a.known.items) c.args.x (arms_of (map plain_arm c.args.arms.now)))
          c.loop-arm.invariant.known w c.args.x _ c.args.arms.now r r refl c.in_ok-push.ensures.items refl refl c.in_ok-on.ensures c.loop-arm.invariant.point c.loop-arm-test.true c.arm-item.is c.in_ok-goal.ensures c.loop-arm.invariant.left;
    }

pub arms-returns : goal.arms-returns
arms-returns t c =
    let q = c.args.procs.now in
    let types = c.args.types.now in
    let arms = c.args.arms.now in
    let a : Walk = c.args.self.now in
    let l : Walk = c.loop-arm.self in
    on_ok_weaker c.put_times.result
    (λ p.
    ends q a l c.put_fixed.new.self c.put_times.new.self (fixed erroneous) (times (length arms) T.Arms) (λ S b kn. constraint_arms S (typed types) b kn c.args.x (arms_of (map plain_arm arms)))
    c.loop-arm.invariant.point c.loop-arm.invariant.known c.in_ok-put_fixed.ensures p
    (λ outcome.
    arms_done (as_system outcome q) (typed types) (insts_in a.point) (known_in a.known.items) c.args.x arms c.loop-arm.arm-index l.steps.items
    (a.steps.items ++ constraint_arms (as_system outcome q) (typed types) (insts_in a.point) (known_in a.known.items) c.args.x (arms_of (map plain_arm arms)))
    (omega arith) (c.loop-arm.invariant.left outcome)))
    c.put_times.ensures

-- then parts
pub then-returns : goal.then-returns
then-returns t c =
    let q = c.args.procs.now in
    let types = c.args.types.now in
    let a : Walk = c.args.self.now in
    let b : Walk = c.enter.new.self in
    let d : Walk = c.goal.new.self in
    let e : Walk = record d { point = c.undo.new.self } in
    then_put q types a b d e c.args.condition.now c.args.then_part.now c.in_ok-enter.ensures.known c.in_ok-enter.ensures.steps c.in_ok-enter.ensures.insts c.in_ok-goal.ensures
    (c.undo.ensures ∙ ap (undone c.enter.new.found.items) c.in_ok-goal.ensures.point ∙ c.in_ok-enter.ensures.found ∙ ap (λ (l : List (ℕ × ℕ)). undone l a.point) c.new-found.ensures.items)
    refl refl

-- the parts of lists
pub conj-is_named-requires : goal.conj-is_named-requires
conj-is_named-requires t c = record { all = c.requires.named; among = (c.loop-goal.goal-index, c.loop-goal-test.true, c.goal-item.is) }

pub disj-is_named-requires : goal.disj-is_named-requires
disj-is_named-requires t c = record { all = c.requires.named; among = (c.loop-goal.goal-index, c.loop-goal-test.true, c.goal-item.is) }

pub arms-arm_is_named-requires : goal.arms-arm_is_named-requires
arms-arm_is_named-requires t c = record { all = c.requires.named; among = (c.loop-arm.arm-index, c.loop-arm-test.true, c.arm-item.is) }
