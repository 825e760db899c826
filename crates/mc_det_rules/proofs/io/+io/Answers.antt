use Rattle.std.proofs.Math.Seq.{drop-length}
use Rattle.std.proofs.Common.{◌≡◌, suc, ◌-◌, ◌<◌, ◌&&◌, Bool, List, length, drop, map, sym, ap, ap₂, ◌∙◌, arith}
use Rattle.mc_model.specs.Scheduled.{nodes, Disj}
use Rattle.mc_model.specs.PlainGoals.{plain_node, plain_sched, plain_arm, arms_of}
use Rattle.mc_model.specs.declared.sched.GoalNode.{GoalNode}
use Rattle.mc_model.specs.declared.sched.Arm.{Arm}
use Rattle.mc_procs.specs.Procedures.{as_system}
use Rattle.mc_procs.proofs.Views.{plain_sched-Conj, plain_sched-Disj, plain_sched-Switch, plain_sched-Ite, plain_sched-Not, plain_sched-Some, plain_sched-Call, plain_sched-Apply}
use Rattle.mc_det_rules.specs.declared.io.IoSeen.{IoSeen}
use Rattle.mc_det_rules.specs.code.Io.{none_fail, joined, forbidden, alone, found_in, found_in_part, found_in_all, found_in_each, found_in_arms}
use Rattle.mc_det_rules.proofs.Finding.{disjoined, goal_found, all_found, each_found, arms_found, sure_found}
use Rattle.mc_det_rules.proofs.io.+io.Goals as goal

pub io-returns : goal.io-returns
io-returns t c outcome type =
    let S = as_system outcome c.args.procs.now in
    let g : GoalNode = c.args.goal.now in
    goal_found S type c.args.is_first g c.io_of-inside.result c.outer.result c.outer.ensures
    (c.io_of-inside.ensures outcome type ∙ ap (λ (b : Bool). found_in_part S type b (plain_sched g.goal)) c.either.ensures)

pub io_of_all-loop-n-init : goal.io_of_all-loop-n-init
io_of_all-loop-n-init t c =
    let gs = c.args.goals.now in
    record {
      left = omega arith;
      sure = ap (λ (l : List GoalNode). none_fail (nodes (map plain_node l))) (sym (drop-length gs));
      found = λ outcome type. ap (λ (l : List GoalNode). found_in_all (as_system outcome c.args.procs.now) type c.args.is_first (nodes (map plain_node l))) (sym (drop-length gs));
    }

pub io_of_all-loop-n-preserved : goal.io_of_all-loop-n-preserved
io_of_all-loop-n-preserved t c =
    let gs = c.args.goals.now in
    let k = c.loop-n.n - 1 in
    let n : c.loop-n.n ≡ suc k = omega arith in
    let h = c.loop-n.invariant.left in
    let lt : k < length gs = omega arith in
    let g : GoalNode = c.index-goals-n.result in
    let sure : c.loop-n.is_sure ≡ none_fail (nodes (map plain_node (drop (suc k) gs))) = c.loop-n.invariant.sure ∙ ap (λ m. none_fail (nodes (map plain_node (drop m gs)))) n in
    record {
      left = omega arith;
      sure = sure_found gs k c.index-goals-n-in-loop-n.result c.loop-n.is_sure c.all_hold-is_sure.result lt c.all_hold-is_sure.ensures sure;
      found = λ outcome type.
          let S = as_system outcome c.args.procs.now in
          all_found S type c.args.is_first gs k g c.io-part.result c.loop-n.found c.both-found.result c.loop-n.is_sure lt c.both-found.ensures
          (c.io-part.ensures outcome type
          ∙ ap (λ (b : Bool). found_in S type b (plain_node g)) c.all_hold.ensures
          ∙ ap (λ (x : GoalNode). found_in S type (c.args.is_first && c.loop-n.is_sure) (plain_node x)) c.index-goals-n.is)
          sure
          (c.loop-n.invariant.found outcome type ∙ ap (λ m. found_in_all S type c.args.is_first (nodes (map plain_node (drop m gs)))) n);
    }

pub io_of_disjunction-loop-n-init : goal.io_of_disjunction-loop-n-init
io_of_disjunction-loop-n-init t c =
    let gs = c.args.goals.now in
    record {
      left = omega arith;
      sure = ap (λ (l : List GoalNode). none_fail (nodes (map plain_node l))) (sym (drop-length gs));
      found = λ outcome type. ap (λ (l : List GoalNode). found_in_each (as_system outcome c.args.procs.now) type c.args.is_first (nodes (map plain_node l))) (sym (drop-length gs));
    }

pub io_of_disjunction-loop-n-preserved : goal.io_of_disjunction-loop-n-preserved
io_of_disjunction-loop-n-preserved t c =
    let gs = c.args.goals.now in
    let k = c.loop-n.n - 1 in
    let n : c.loop-n.n ≡ suc k = omega arith in
    let h = c.loop-n.invariant.left in
    let lt : k < length gs = omega arith in
    let g : GoalNode = c.index-goals-n.result in
    let sure : c.loop-n.is_sure ≡ none_fail (nodes (map plain_node (drop (suc k) gs))) = c.loop-n.invariant.sure ∙ ap (λ m. none_fail (nodes (map plain_node (drop m gs)))) n in
    record {
      left = omega arith;
      sure = sure_found gs k c.index-goals-n-in-loop-n.result c.loop-n.is_sure c.all_hold-is_sure.result lt c.all_hold-is_sure.ensures sure;
      found = λ outcome type.
          let S = as_system outcome c.args.procs.now in
          each_found S type c.args.is_first gs k g c.io-part.result c.loop-n.found c.both-found.result lt c.both-found.ensures
          (c.io-part.ensures outcome type
          ∙ ap (λ (x : GoalNode). found_in S type c.args.is_first (plain_node x)) c.index-goals-n.is)
          (c.loop-n.invariant.found outcome type ∙ ap (λ m. found_in_each S type c.args.is_first (nodes (map plain_node (drop m gs)))) n);
    }

pub io_of_arms-loop-n-init : goal.io_of_arms-loop-n-init
io_of_arms-loop-n-init t c =
    record {
      left = omega arith;
      found = λ outcome type. ap (λ (l : List Arm). found_in_arms (as_system outcome c.args.procs.now) type c.args.is_first (arms_of (map plain_arm l))) (sym (drop-length c.args.arms.now));
    }

pub io_of_arms-loop-n-preserved : goal.io_of_arms-loop-n-preserved
io_of_arms-loop-n-preserved t c =
    let arms = c.args.arms.now in
    let k = c.loop-n.n - 1 in
    let n : c.loop-n.n ≡ suc k = omega arith in
    let h = c.loop-n.invariant.left in
    let lt : k < length arms = omega arith in
    let a : Arm = c.index-arms-n.result in
    record {
      left = omega arith;
      found = λ outcome type.
          let S = as_system outcome c.args.procs.now in
          arms_found S type c.args.is_first arms k a c.io-part.result c.loop-n.found c.both-found.result lt c.both-found.ensures
          (c.io-part.ensures outcome type)
          (c.loop-n.invariant.found outcome type ∙ ap (λ m. found_in_arms S type c.args.is_first (arms_of (map plain_arm (drop m arms)))) n);
    }

pub io_of_all-returns : goal.io_of_all-returns
io_of_all-returns t c outcome type =
    let none : c.loop-n.n ≡ 0 = omega arith in
    c.loop-n.invariant.found outcome type
    ∙ ap (λ m. found_in_all (as_system outcome c.args.procs.now) type c.args.is_first (nodes (map plain_node (drop m c.args.goals.now)))) none

pub io_of_disjunction-returns : goal.io_of_disjunction-returns
io_of_disjunction-returns t c outcome type =
    let S = as_system outcome c.args.procs.now in
    let none : c.loop-n.n ≡ 0 = omega arith in
    c.of_disjuncts.ensures
    ∙ ap (λ (f : IoSeen). disjoined c.args.is_first f c.loop-n.is_sure) (c.loop-n.invariant.found outcome type ∙ ap (λ m. found_in_each S type c.args.is_first (nodes (map plain_node (drop m c.args.goals.now)))) none)
    ∙ ap (disjoined c.args.is_first (found_in_each S type c.args.is_first (nodes (map plain_node c.args.goals.now)))) (c.loop-n.invariant.sure ∙ ap (λ m. none_fail (nodes (map plain_node (drop m c.args.goals.now)))) none)

pub io_of_arms-returns : goal.io_of_arms-returns
io_of_arms-returns t c outcome type =
    let none : c.loop-n.n ≡ 0 = omega arith in
    c.loop-n.invariant.found outcome type
    ∙ ap (λ m. found_in_arms (as_system outcome c.args.procs.now) type c.args.is_first (arms_of (map plain_arm (drop m c.args.arms.now)))) none

pub io_of-returns-in-Conj : goal.io_of-returns-in-Conj
io_of-returns-in-Conj t c outcome type =
    let S = as_system outcome c.args.procs.now in
    c.io_of_all.ensures outcome type
    ∙ ap (λ (l : List GoalNode). found_in_all S type c.args.is_first (nodes (map plain_node l))) c.as_slice.ensures.items
    ∙ ap (found_in_part S type c.args.is_first) (sym (ap plain_sched c.in-Conj.is ∙ plain_sched-Conj c.in-Conj.goals))

pub io_of-returns-in-Disj : goal.io_of-returns-in-Disj
io_of-returns-in-Disj t c outcome type =
    let S = as_system outcome c.args.procs.now in
    c.io_of_disjunction.ensures outcome type
    ∙ ap (λ (l : List GoalNode). found_in_part S type c.args.is_first (Disj (nodes (map plain_node l)))) c.as_slice-in-Disj.ensures.items
    ∙ ap (found_in_part S type c.args.is_first) (sym (ap plain_sched c.in-Disj.is ∙ plain_sched-Disj c.in-Disj.goals))

pub io_of-returns-in-Switch : goal.io_of-returns-in-Switch
io_of-returns-in-Switch t c outcome type =
    let S = as_system outcome c.args.procs.now in
    c.io_of_arms.ensures outcome type
    ∙ ap (λ (l : List Arm). found_in_arms S type c.args.is_first (arms_of (map plain_arm l))) c.as_slice-in-Switch.ensures.items
    ∙ ap (found_in_part S type c.args.is_first) (sym (ap plain_sched c.in-Switch.is ∙ plain_sched-Switch c.in-Switch.field-0 c.in-Switch.arms))

pub io_of-returns-in-Ite : goal.io_of-returns-in-Ite
io_of-returns-in-Ite t c outcome type =
    let S = as_system outcome c.args.procs.now in
    let seen : GoalNode → IoSeen = λ g. found_in S type c.args.is_first (plain_node g) in
    c.both-in-Ite.ensures
    ∙ ap₂ joined
    (c.forbidden-first.ensures ∙ ap forbidden (c.io.ensures outcome type ∙ ap seen c.deref.ensures))
    (c.both.ensures ∙ ap₂ joined (c.io-second.ensures outcome type ∙ ap seen c.deref-in-Ite.ensures) (c.io-third.ensures outcome type ∙ ap seen c.deref-in-Ite-2.ensures))
    ∙ ap (found_in_part S type c.args.is_first) (sym (ap plain_sched c.in-Ite.is ∙ plain_sched-Ite c.in-Ite.field-0 c.in-Ite.condition c.in-Ite.then_part c.in-Ite.else_part))

pub io_of-returns-in-Not : goal.io_of-returns-in-Not
io_of-returns-in-Not t c outcome type =
    let S = as_system outcome c.args.procs.now in
    c.forbidden.ensures
    ∙ ap forbidden (c.io-in-Not.ensures outcome type ∙ ap (λ (g : GoalNode). found_in S type c.args.is_first (plain_node g)) c.deref-in-Not.ensures)
    ∙ ap (found_in_part S type c.args.is_first) (sym (ap plain_sched c.in-Not.is ∙ plain_sched-Not c.in-Not.inner))

pub io_of-returns-in-Some : goal.io_of-returns-in-Some
io_of-returns-in-Some t c outcome type =
    let S = as_system outcome c.args.procs.now in
    c.io-in-Some.ensures outcome type
    ∙ ap (λ (g : GoalNode). found_in S type c.args.is_first (plain_node g)) c.deref-in-Some.ensures
    ∙ ap (found_in_part S type c.args.is_first) (sym (ap plain_sched c.in-Some.is ∙ plain_sched-Some c.in-Some.field-0 c.in-Some.inner))

pub io_of-returns-in-Call : goal.io_of-returns-in-Call
io_of-returns-in-Call t c outcome type =
    let S = as_system outcome c.args.procs.now in
    c.alone.ensures
    ∙ ap alone (c.is_io_call.ensures outcome type)
    ∙ ap (found_in_part S type c.args.is_first) (sym (ap plain_sched c.in-Call.is ∙ plain_sched-Call c.in-Call.k c.in-Call.field-1 c.in-Call.field-2))

pub io_of-returns-in-Apply : goal.io_of-returns-in-Apply
io_of-returns-in-Apply t c outcome type =
    let S = as_system outcome c.args.procs.now in
    c.alone-in-Apply.ensures
    ∙ ap alone c.is_io_builtin.ensures
    ∙ ap (found_in_part S type c.args.is_first) (sym (ap plain_sched c.in-Apply.is ∙ plain_sched-Apply c.in-Apply.op c.in-Apply.field-1 c.in-Apply.field-2))
