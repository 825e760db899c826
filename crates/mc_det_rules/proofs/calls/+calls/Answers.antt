use Rattle.std.proofs.Common.{◌≡◌, ℕ, List, length, map, not, Bool, sym, ap, ap₂, ◌∙◌, subst, arith, refl}
use Rattle.std.specs.List.{list_any}
use Rattle.mc_model.specs.Scheduled.{Node, nodes}
use Rattle.mc_model.specs.PlainGoals.{plain_node, plain_sched, plain_arm, arms_of}
use Rattle.mc_model.specs.declared.sched.GoalNode.{GoalNode}
use Rattle.mc_model.specs.declared.sched.Arm.{Arm}
use Rattle.mc_procs.specs.Named.{Named}
use Rattle.mc_procs.specs.Procedures.{PlainProcs, procedure_at}
use Rattle.mc_procs.proofs.Views.{plain_node-open, plain_sched-Conj, plain_sched-Disj, plain_sched-Switch, plain_sched-Ite, plain_sched-Not, plain_sched-Some}
use Rattle.mc_accepted.specs.Ordered.{variables_of_node}
use Rattle.mc_accepted.specs.Determined.{insts_after}
use Rattle.mc_det.specs.code.Points.{insts_in, undone}
use Rattle.mc_det.specs.code.Walks.{bounds_in}
use Rattle.mc_det.proofs.Declaring.{if_ok_as}
use Rattle.mc_det.proofs.Walking.{each_named_at, arm_named_at}
use Rattle.mc_det_rules.specs.declared.calls.Misplaced.{Misplaced}
use Rattle.mc_det_rules.specs.code.Io.{fails}
use Rattle.mc_det_rules.specs.code.Calls.{binds, both, in_first_alone, before_others, of_condition, found_in, found_in_part, found_in_all, found_in_each, found_in_arms}
use Rattle.mc_det_rules.proofs.Calling.{no_matter, all_begun, all_more, all_ended, each_more, each_ended, arms_more, arms_ended, goal_found, ite_found}
use Rattle.mc_det_rules.proofs.calls.+calls.Goals as goal

-- what a goal names is there at a point with as many variables
named_at : (q : PlainProcs) (before now : List ℕ) (n : Node) → now ≡ before → Named (bounds_in q (length before)) n → Named (bounds_in q (length now)) n
named_at q before now n e h = subst (λ (p : List ℕ). Named (bounds_in q (length p)) n) (sym e) h

named_as_many : (q : PlainProcs) (before now : List ℕ) (n : Node) → length now ≡ length before → Named (bounds_in q (length before)) n → Named (bounds_in q (length now)) n
named_as_many q before now n e h = subst (λ k. Named (bounds_in q k) n) (sym e) h

pub calls-returns : goal.calls-returns
calls-returns t c =
    let procs = procedure_at c.args.procs.now.added in
    record {
      point = c.in_ok-inside.ensures.point;
      found = goal_found procs (insts_in c.args.point.now) c.args.goal.now c.in_ok-inside.inside c.of_goal.result c.of_goal.ensures c.in_ok-inside.ensures.found;
    }

-- the forms of goals
pub calls_in-returns-in-Conj : goal.calls_in-returns-in-Conj
calls_in-returns-in-Conj t c =
    let procs = procedure_at c.args.procs.now.added in
    let b = insts_in c.args.point.now in
    record {
      point = c.calls_of_all.ensures.point;
      found =
          if_ok_as c.calls_of_all.result _ (λ f. f ≡ found_in_part procs b (plain_sched c.args.goal.now))
          (λ f e.
          e
          ∙ ap (λ (l : List GoalNode). found_in_all procs b (nodes (map plain_node l))) c.as_slice.ensures.items
          ∙ ap (found_in_part procs b) (sym (ap plain_sched c.in-Conj.is ∙ plain_sched-Conj c.in-Conj.goals)))
          c.calls_of_all.ensures.found;
    }

pub calls_in-returns-in-Disj : goal.calls_in-returns-in-Disj
calls_in-returns-in-Disj t c =
    let procs = procedure_at c.args.procs.now.added in
    let b = insts_in c.args.point.now in
    record {
      point = c.calls_of_each.ensures.point;
      found =
          if_ok_as c.calls_of_each.result _ (λ f. f ≡ found_in_part procs b (plain_sched c.args.goal.now))
          (λ f e.
          e
          ∙ ap (λ (l : List GoalNode). found_in_each procs b (nodes (map plain_node l))) c.as_slice-in-Disj.ensures.items
          ∙ ap (found_in_part procs b) (sym (ap plain_sched c.in-Disj.is ∙ plain_sched-Disj c.in-Disj.goals)))
          c.calls_of_each.ensures.found;
    }

pub calls_in-returns-in-Switch : goal.calls_in-returns-in-Switch
calls_in-returns-in-Switch t c =
    let procs = procedure_at c.args.procs.now.added in
    let b = insts_in c.args.point.now in
    record {
      point = c.calls_of_arms.ensures.point;
      found =
          if_ok_as c.calls_of_arms.result _ (λ f. f ≡ found_in_part procs b (plain_sched c.args.goal.now))
          (λ f e.
          e
          ∙ ap (λ (l : List Arm). found_in_arms procs b (arms_of (map plain_arm l))) c.as_slice-in-Switch.ensures.items
          ∙ ap (found_in_part procs b) (sym (ap plain_sched c.in-Switch.is ∙ plain_sched-Switch c.in-Switch.field-0 c.in-Switch.arms)))
          c.calls_of_arms.ensures.found;
    }

pub calls_in-returns-in_ok-third-in-Ite : goal.calls_in-returns-in_ok-third-in-Ite
calls_in-returns-in_ok-third-in-Ite t c =
    let procs = procedure_at c.args.procs.now.added in
    let p : List ℕ = c.args.point.now in
    let g : GoalNode = c.in-Ite.condition.value in
    let h : GoalNode = c.in-Ite.then_part.value in
    let k : GoalNode = c.in-Ite.else_part.value in
    let one : c.calls_of_condition.new.point ≡ p = c.in_ok-first-in-Ite.ensures.point in
    let two : c.calls_of_then.new.point ≡ p = c.in_ok-second-in-Ite.ensures.point ∙ one in
    let conditional : GoalNode → GoalNode → Misplaced = λ d u. of_condition (list_any (binds p d.changes) (variables_of_node (plain_node u))) (not (fails (plain_node u))) (found_in procs (insts_in p) (plain_node d)) in
    let behind : List ℕ → GoalNode → GoalNode → Misplaced = λ q d u. found_in procs (insts_after (plain_node d) (insts_in q)) (plain_node u) in
    record {
      point = c.in_ok-third-in-Ite.ensures.point ∙ two;
      found =
          ite_found procs p c.in-Ite.field-0 g h k c.in_ok-first-in-Ite.first c.in_ok-second-in-Ite.second c.in_ok-third-in-Ite.third c.both-in-Ite.result
          (c.in_ok-first-in-Ite.ensures.found ∙ ap₂ conditional c.deref.ensures c.deref-in-Ite.ensures)
          (c.in_ok-second-in-Ite.ensures.found ∙ ap₂ (behind c.calls_of_condition.new.point) c.deref-in-Ite-3.ensures c.deref-in-Ite-2.ensures ∙ ap (λ (q : List ℕ). behind q g h) one)
          (c.in_ok-third-in-Ite.ensures.found ∙ ap (λ (u : GoalNode). found_in procs (insts_in c.calls_of_then.new.point) (plain_node u)) c.deref-in-Ite-4.ensures ∙ ap (λ (q : List ℕ). found_in procs (insts_in q) (plain_node k)) two)
          (c.both-in-Ite.ensures ∙ ap (both c.in_ok-first-in-Ite.first) c.both.ensures)
          ∙ ap (found_in_part procs (insts_in p)) (sym (ap plain_sched c.in-Ite.is ∙ plain_sched-Ite c.in-Ite.field-0 c.in-Ite.condition c.in-Ite.then_part c.in-Ite.else_part));
    }

pub calls_in-returns-in_ok-found-in-Not : goal.calls_in-returns-in_ok-found-in-Not
calls_in-returns-in_ok-found-in-Not t c =
    let procs = procedure_at c.args.procs.now.added in
    let b = insts_in c.args.point.now in
    record {
      point = c.in_ok-found-in-Not.ensures.point;
      found =
          c.in_first_alone.ensures
          ∙ ap in_first_alone (c.in_ok-found-in-Not.ensures.found ∙ ap (λ (g : GoalNode). found_in procs b (plain_node g)) c.deref-in-Not.ensures)
          ∙ ap (found_in_part procs b) (sym (ap plain_sched c.in-Not.is ∙ plain_sched-Not c.in-Not.inner));
    }

pub calls_in-returns-in-Some : goal.calls_in-returns-in-Some
calls_in-returns-in-Some t c =
    let procs = procedure_at c.args.procs.now.added in
    let b = insts_in c.args.point.now in
    record {
      point = c.calls-in-Some.ensures.point;
      found =
          if_ok_as c.calls-in-Some.result _ (λ f. f ≡ found_in_part procs b (plain_sched c.args.goal.now))
          (λ f e.
          e
          ∙ ap (λ (g : GoalNode). found_in procs b (plain_node g)) c.deref-in-Some.ensures
          ∙ ap (found_in_part procs b) (sym (ap plain_sched c.in-Some.is ∙ plain_sched-Some c.in-Some.field-0 c.in-Some.inner)))
          c.calls-in-Some.ensures.found;
    }

-- a condition
pub calls_of_condition-returns-then-not-depends : goal.calls_of_condition-returns-then-not-depends
calls_of_condition-returns-then-not-depends t c =
    let p : List ℕ = c.args.point.now in
    let d : GoalNode = c.args.condition.now in
    let u : GoalNode = c.args.then_part.now in
    record {
      point = c.in_ok-found.ensures.point;
      found =
          no_matter (list_any (binds p d.changes) (variables_of_node (plain_node u))) (not (fails (plain_node u))) c.in_ok-found.found (c.depends.ensures (ap not c.if-not-depends.true))
          ∙ ap (of_condition (list_any (binds p d.changes) (variables_of_node (plain_node u))) (not (fails (plain_node u)))) c.in_ok-found.ensures.found;
    }

pub calls_of_condition-returns : goal.calls_of_condition-returns
calls_of_condition-returns t c =
    let procs = procedure_at c.args.procs.now.added in
    let p : List ℕ = c.args.point.now in
    let d : GoalNode = c.args.condition.now in
    let u : GoalNode = c.args.then_part.now in
    let point : c.calls.new.point ≡ p = c.in_ok-found.ensures.point in
    let seen : List ℕ → List (ℕ × ℕ) → Bool = λ q cs. list_any (binds q cs) (variables_of_node (plain_node u)) in
    record {
      point = point;
      found =
          c.of_condition.ensures
          ∙ ap (λ (s : Bool). of_condition s (not u.det.can_fail) c.in_ok-found.found) (c.binds_in-is_seen.ensures ∙ ap₂ seen point c.as_slice.ensures.items)
          ∙ ap (λ (n : Node). of_condition (seen p d.changes) (not (fails n)) c.in_ok-found.found) (sym (plain_node-open u))
          ∙ ap (of_condition (seen p d.changes) (not (fails (plain_node u)))) c.in_ok-found.ensures.found;
    }

-- a then part
pub calls_of_then-is_named-requires : goal.calls_of_then-is_named-requires
calls_of_then-is_named-requires t c =
    named_as_many c.args.procs.now c.args.point.now c.enter.new.point (plain_node c.args.then_part.now) c.in_ok-enter.ensures.count c.requires.named

pub calls_of_then-returns : goal.calls_of_then-returns
calls_of_then-returns t c =
    let procs = procedure_at c.args.procs.now.added in
    let p : List ℕ = c.args.point.now in
    record {
      point =
          c.undo.ensures
          ∙ ap (undone c.enter.new.found.items) c.in_ok-found.ensures.point
          ∙ c.in_ok-enter.ensures.found
          ∙ ap (λ (l : List (ℕ × ℕ)). undone l p) c.new-before.ensures.items;
      found = c.in_ok-found.ensures.found ∙ ap (λ i. found_in procs i (plain_node c.args.then_part.now)) c.in_ok-enter.ensures.insts;
    }

-- a conjunction
pub calls_of_all-is_named-requires : goal.calls_of_all-is_named-requires
calls_of_all-is_named-requires t c =
    let q = c.args.procs.now in
    let p : List ℕ = c.args.point.now in
    let B = bounds_in q (length p) in
    named_as_many q p c.loop-goal.point (plain_node c.goal-item.result) c.loop-goal.invariant.many
    (subst (λ (g : GoalNode). Named B (plain_node g)) (sym c.goal-item.is) (each_named_at B c.args.goals.now c.loop-goal.goal-index c.goal-item.result c.loop-goal-test.true c.requires))

pub calls_of_all-enter-requires : goal.calls_of_all-enter-requires
calls_of_all-enter-requires t c =
    let q = c.args.procs.now in
    let p : List ℕ = c.args.point.now in
    let B = bounds_in q (length p) in
    record {
      named = named_as_many q p c.calls.new.point (plain_node c.goal-item.result) (ap length c.in_ok-part.ensures.point ∙ c.loop-goal.invariant.many)
          (subst (λ (g : GoalNode). Named B (plain_node g)) (sym c.goal-item.is) (each_named_at B c.args.goals.now c.loop-goal.goal-index c.goal-item.result c.loop-goal-test.true c.requires));
    }

pub calls_of_all-loop-goal-init : goal.calls_of_all-loop-goal-init
calls_of_all-loop-goal-init t c =
    record {
      many = refl;
      undone = ap (λ (l : List (ℕ × ℕ)). undone l c.args.point.now) c.new-before.ensures.items;
      left = all_begun (procedure_at c.args.procs.now.added) c.args.goals.now (insts_in c.args.point.now);
    }

pub calls_of_all-loop-goal-preserved : goal.calls_of_all-loop-goal-preserved
calls_of_all-loop-goal-preserved t c =
    let procs = procedure_at c.args.procs.now.added in
    let gs = c.args.goals.now in
    let g : GoalNode = c.goal-item.result in
    let l : List ℕ = c.loop-goal.point in
    let point : c.calls.new.point ≡ l = c.in_ok-part.ensures.point in
    record {
      many = c.in_ok-enter.ensures.count ∙ ap length point ∙ c.loop-goal.invariant.many;
      undone = c.in_ok-enter.ensures.found ∙ ap (undone c.loop-goal.before.items) point ∙ c.loop-goal.invariant.undone;
      left =
          all_more procs gs c.loop-goal.goal-index g (insts_in l) (insts_in c.enter.new.point) c.loop-goal.found c.before_others.result c.in_ok-part.part c.both-found.result _ c.loop-goal-test.true
          (c.in_ok-part.ensures.found ∙ ap (λ (h : GoalNode). found_in procs (insts_in l) (plain_node h)) c.goal-item.is)
          (c.before_others.ensures ∙ ap (λ (h : GoalNode). before_others (not h.det.can_fail) c.loop-goal.found) c.goal-item.is)
          c.both-found.ensures
          (c.in_ok-enter.ensures.insts ∙ ap (λ (q : List ℕ). insts_after (plain_node g) (insts_in q)) point ∙ ap (λ (h : GoalNode). insts_after (plain_node h) (insts_in l)) c.goal-item.is)
          c.loop-goal.invariant.left;
    }

pub calls_of_all-returns : goal.calls_of_all-returns
calls_of_all-returns t c =
    record {
      point = c.undo.ensures ∙ c.loop-goal.invariant.undone;
      found = all_ended (procedure_at c.args.procs.now.added) c.args.goals.now (insts_in c.loop-goal.point) c.loop-goal.found _ c.loop-goal.goal-index (omega arith) c.loop-goal.invariant.left;
    }

-- a disjunction
pub calls_of_each-is_named-requires : goal.calls_of_each-is_named-requires
calls_of_each-is_named-requires t c =
    let q = c.args.procs.now in
    let p : List ℕ = c.args.point.now in
    let B = bounds_in q (length p) in
    named_at q p c.loop-goal.point (plain_node c.goal-item.result) c.loop-goal.invariant.point
    (subst (λ (g : GoalNode). Named B (plain_node g)) (sym c.goal-item.is) (each_named_at B c.args.goals.now c.loop-goal.goal-index c.goal-item.result c.loop-goal-test.true c.requires))

pub calls_of_each-loop-goal-preserved : goal.calls_of_each-loop-goal-preserved
calls_of_each-loop-goal-preserved t c =
    let procs = procedure_at c.args.procs.now.added in
    let p : List ℕ = c.args.point.now in
    let g : GoalNode = c.goal-item.result in
    record {
      point = c.in_ok-part.ensures.point ∙ c.loop-goal.invariant.point;
      left =
          each_more procs c.args.goals.now c.loop-goal.goal-index g (insts_in p) c.loop-goal.found c.in_ok-part.part c.both-found.result _ c.loop-goal-test.true
          (c.in_ok-part.ensures.found ∙ ap (λ (q : List ℕ). found_in procs (insts_in q) (plain_node g)) c.loop-goal.invariant.point ∙ ap (λ (h : GoalNode). found_in procs (insts_in p) (plain_node h)) c.goal-item.is)
          c.both-found.ensures c.loop-goal.invariant.left;
    }

pub calls_of_each-returns : goal.calls_of_each-returns
calls_of_each-returns t c =
    record {
      point = c.loop-goal.invariant.point;
      found = each_ended (procedure_at c.args.procs.now.added) c.args.goals.now (insts_in c.args.point.now) c.loop-goal.found _ c.loop-goal.goal-index (omega arith) c.loop-goal.invariant.left;
    }

-- the arms of a switch
pub calls_of_arms-is_named-requires : goal.calls_of_arms-is_named-requires
calls_of_arms-is_named-requires t c =
    let q = c.args.procs.now in
    let p : List ℕ = c.args.point.now in
    let B = bounds_in q (length p) in
    named_at q p c.loop-arm.point (plain_node c.arm-item.result.body) c.loop-arm.invariant.point
    (subst (λ (a : Arm). Named B (plain_node a.body)) (sym c.arm-item.is) (arm_named_at B c.args.arms.now c.loop-arm.arm-index c.arm-item.result c.loop-arm-test.true c.requires))

pub calls_of_arms-loop-arm-preserved : goal.calls_of_arms-loop-arm-preserved
calls_of_arms-loop-arm-preserved t c =
    let procs = procedure_at c.args.procs.now.added in
    let p : List ℕ = c.args.point.now in
    let a : Arm = c.arm-item.result in
    record {
      point = c.in_ok-part.ensures.point ∙ c.loop-arm.invariant.point;
      left =
          arms_more procs c.args.arms.now c.loop-arm.arm-index a (insts_in p) c.loop-arm.found c.in_ok-part.part c.both-found.result _ c.loop-arm-test.true
          (c.in_ok-part.ensures.found ∙ ap (λ (q : List ℕ). found_in procs (insts_in q) (plain_node a.body)) c.loop-arm.invariant.point ∙ ap (λ (r : Arm). found_in procs (insts_in p) (plain_node r.body)) c.arm-item.is)
          c.both-found.ensures c.loop-arm.invariant.left;
    }

pub calls_of_arms-returns : goal.calls_of_arms-returns
calls_of_arms-returns t c =
    record {
      point = c.loop-arm.invariant.point;
      found = arms_ended (procedure_at c.args.procs.now.added) c.args.arms.now (insts_in c.args.point.now) c.loop-arm.found _ c.loop-arm.arm-index (omega arith) c.loop-arm.invariant.left;
    }
