use Rattle.std.proofs.Math.Seq.{drop-length}
use Rattle.std.proofs.Common.{◌≡◌, suc, ◌-◌, ◌++◌, ◌∷◌, [], Bool, List, drop, map, sym, ap, ◌∙◌, arith}
use Rattle.std.specs.List.{list_any}
use Rattle.mc_model.specs.Scheduled.{Node, nodes}
use Rattle.mc_model.specs.PlainGoals.{plain_node, plain_sched, plain_arm, arms_of}
use Rattle.mc_model.specs.declared.sched.GoalNode.{GoalNode}
use Rattle.mc_model.specs.declared.sched.Arm.{Arm}
use Rattle.mc_procs.proofs.Views.{plain_node-open, plain_sched-Conj, plain_sched-Disj, plain_sched-Switch, plain_sched-Ite, plain_sched-Not, plain_sched-Some}
use Rattle.mc_accepted.specs.Ordered.{variables_of_node, variables_of_scheduled, variables_of_nodes, variables_of_arms}
use Rattle.mc_det_rules.specs.code.Calls.{binds}
use Rattle.mc_det_rules.proofs.Bindings.{two_lists, one_alone, goals_bound, arms_bound}
use Rattle.mc_det_rules.proofs.binding.+binding.Goals as goal

pub binds_in-returns : goal.binds_in-returns
binds_in-returns t c =
    let f = binds c.args.point.now c.args.changes.now in
    c.binds_in_part.ensures
    ∙ ap (λ (n : Node). list_any f (variables_of_node n)) (sym (plain_node-open c.args.goal.now))

pub binds_in_one-loop-n-init : goal.binds_in_one-loop-n-init
binds_in_one-loop-n-init t c =
    let f = binds c.args.point.now c.args.changes.now in
    record {
      left = omega arith;
      found = ap (λ (l : List GoalNode). list_any f (variables_of_nodes (nodes (map plain_node l)))) (sym (drop-length c.args.goals.now));
    }

pub binds_in_one-loop-n-preserved : goal.binds_in_one-loop-n-preserved
binds_in_one-loop-n-preserved t c =
    let f = binds c.args.point.now c.args.changes.now in
    let gs = c.args.goals.now in
    let k = c.loop-n.n - 1 in
    let n : c.loop-n.n ≡ suc k = omega arith in
    let h = c.loop-n.invariant.left in
    record {
      left = omega arith;
      found = goals_bound f gs k c.index-goals-n.result c.binds_in-part.result c.loop-n.found c.either-found.result (omega arith) c.either-found.ensures
          (c.binds_in-part.ensures ∙ ap (λ (g : GoalNode). list_any f (variables_of_node (plain_node g))) c.index-goals-n.is)
          (c.loop-n.invariant.found ∙ ap (λ m. list_any f (variables_of_nodes (nodes (map plain_node (drop m gs))))) n);
    }

pub binds_in_one-returns : goal.binds_in_one-returns
binds_in_one-returns t c =
    let f = binds c.args.point.now c.args.changes.now in
    let none : c.loop-n.n ≡ 0 = omega arith in
    c.loop-n.invariant.found
    ∙ ap (λ m. list_any f (variables_of_nodes (nodes (map plain_node (drop m c.args.goals.now))))) none

pub binds_in_arms-loop-n-init : goal.binds_in_arms-loop-n-init
binds_in_arms-loop-n-init t c =
    let f = binds c.args.point.now c.args.changes.now in
    record {
      left = omega arith;
      found = ap (λ (l : List Arm). list_any f (variables_of_arms (arms_of (map plain_arm l)))) (sym (drop-length c.args.arms.now));
    }

pub binds_in_arms-loop-n-preserved : goal.binds_in_arms-loop-n-preserved
binds_in_arms-loop-n-preserved t c =
    let f = binds c.args.point.now c.args.changes.now in
    let arms = c.args.arms.now in
    let k = c.loop-n.n - 1 in
    let n : c.loop-n.n ≡ suc k = omega arith in
    let h = c.loop-n.invariant.left in
    record {
      left = omega arith;
      found = arms_bound f arms k c.index-arms-n.result c.binds_in-part.result c.loop-n.found c.either-found.result (omega arith) c.either-found.ensures
          c.binds_in-part.ensures
          (c.loop-n.invariant.found ∙ ap (λ m. list_any f (variables_of_arms (arms_of (map plain_arm (drop m arms))))) n);
    }

pub binds_in_arms-returns : goal.binds_in_arms-returns
binds_in_arms-returns t c =
    let f = binds c.args.point.now c.args.changes.now in
    let none : c.loop-n.n ≡ 0 = omega arith in
    c.loop-n.invariant.found
    ∙ ap (λ m. list_any f (variables_of_arms (arms_of (map plain_arm (drop m c.args.arms.now))))) none

pub binds_in_part-returns-in-Conj : goal.binds_in_part-returns-in-Conj
binds_in_part-returns-in-Conj t c =
    let f = binds c.args.point.now c.args.changes.now in
    c.binds_in_one.ensures
    ∙ ap (λ (l : List GoalNode). list_any f (variables_of_nodes (nodes (map plain_node l)))) c.as_slice.ensures.items
    ∙ ap (λ s. list_any f (variables_of_scheduled s)) (sym (ap plain_sched c.in-Conj.is ∙ plain_sched-Conj c.in-Conj.goals))

pub binds_in_part-returns-in-Disj : goal.binds_in_part-returns-in-Disj
binds_in_part-returns-in-Disj t c =
    let f = binds c.args.point.now c.args.changes.now in
    c.binds_in_one-in-Disj.ensures
    ∙ ap (λ (l : List GoalNode). list_any f (variables_of_nodes (nodes (map plain_node l)))) c.as_slice-in-Disj.ensures.items
    ∙ ap (λ s. list_any f (variables_of_scheduled s)) (sym (ap plain_sched c.in-Disj.is ∙ plain_sched-Disj c.in-Disj.goals))

pub binds_in_part-returns-in-Switch : goal.binds_in_part-returns-in-Switch
binds_in_part-returns-in-Switch t c =
    let f = binds c.args.point.now c.args.changes.now in
    two_lists f (c.in-Switch.x ∷ []) (variables_of_arms (arms_of (map plain_arm c.in-Switch.arms))) c.binds-first.result c.binds_in_arms-second.result c.either.result c.either.ensures
    (one_alone f c.in-Switch.x c.binds-first.result c.binds-first.ensures)
    (c.binds_in_arms-second.ensures ∙ ap (λ (l : List Arm). list_any f (variables_of_arms (arms_of (map plain_arm l)))) c.as_slice-in-Switch.ensures.items)
    ∙ ap (λ s. list_any f (variables_of_scheduled s)) (sym (ap plain_sched c.in-Switch.is ∙ plain_sched-Switch c.in-Switch.x c.in-Switch.arms))

pub binds_in_part-returns-in-Ite : goal.binds_in_part-returns-in-Ite
binds_in_part-returns-in-Ite t c =
    let f = binds c.args.point.now c.args.changes.now in
    let v : GoalNode → Bool = λ g. list_any f (variables_of_node (plain_node g)) in
    let g = plain_node c.in-Ite.condition.value in
    let h = plain_node c.in-Ite.then_part.value in
    let k = plain_node c.in-Ite.else_part.value in
    two_lists f c.in-Ite.vars (variables_of_node g ++ (variables_of_node h ++ variables_of_node k)) c.binds_some-first.result _ c.either-in-Ite-3.result c.either-in-Ite-3.ensures
    (c.binds_some-first.ensures ∙ ap (list_any f) c.as_slice-in-Ite.ensures.items)
    (two_lists f (variables_of_node g) (variables_of_node h ++ variables_of_node k) _ _ _ c.either-in-Ite-2.ensures
    (c.binds_in-second.ensures ∙ ap v c.deref.ensures)
    (two_lists f (variables_of_node h) (variables_of_node k) _ _ _ c.either-in-Ite.ensures (c.binds_in-third.ensures ∙ ap v c.deref-in-Ite.ensures) (c.binds_in-fourth.ensures ∙ ap v c.deref-in-Ite-2.ensures)))
    ∙ ap (λ s. list_any f (variables_of_scheduled s)) (sym (ap plain_sched c.in-Ite.is ∙ plain_sched-Ite c.in-Ite.vars c.in-Ite.condition c.in-Ite.then_part c.in-Ite.else_part))

pub binds_in_part-returns-in-Not : goal.binds_in_part-returns-in-Not
binds_in_part-returns-in-Not t c =
    let f = binds c.args.point.now c.args.changes.now in
    c.binds_in.ensures
    ∙ ap (λ (g : GoalNode). list_any f (variables_of_node (plain_node g))) c.deref-in-Not.ensures
    ∙ ap (λ s. list_any f (variables_of_scheduled s)) (sym (ap plain_sched c.in-Not.is ∙ plain_sched-Not c.in-Not.inner))

pub binds_in_part-returns-in-Some : goal.binds_in_part-returns-in-Some
binds_in_part-returns-in-Some t c =
    let f = binds c.args.point.now c.args.changes.now in
    two_lists f c.in-Some.vars (variables_of_node (plain_node c.in-Some.inner.value)) _ _ c.either-in-Some.result c.either-in-Some.ensures
    (c.binds_some-first-in-Some.ensures ∙ ap (list_any f) c.as_slice-in-Some.ensures.items)
    (c.binds_in-second-in-Some.ensures ∙ ap (λ (g : GoalNode). list_any f (variables_of_node (plain_node g))) c.deref-in-Some.ensures)
    ∙ ap (λ s. list_any f (variables_of_scheduled s)) (sym (ap plain_sched c.in-Some.is ∙ plain_sched-Some c.in-Some.vars c.in-Some.inner))
