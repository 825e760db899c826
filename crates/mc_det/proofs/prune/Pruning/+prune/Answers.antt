use Rattle.std.proofs.Common.{◌≡◌, ℕ, ◌+◌, ◌<◌, ◌≤◌, List, Bool, not, ◌&&◌, Box, Global, length, get_or, take, set, map, refl, sym, ap, ◌∙◌, subst, arith, get_or-set_same, get_or-set_other}
use Rattle.std.proofs.lemmas.List.{length-set, take_all, take_more_set}
use Rattle.std.specs.Box.{with_value}
use denote.Param.Weighed.{at_most}
use borrow.Enum.Total.{values_d, values_d_at, values_o, values_o_at}
use Rattle.mc_program.specs.Programs.{variable_type}
use Rattle.mc_model.specs.Scheduled.{nodes, Conj, Disj, Switch, Not, Exists, Ite, Take}
use Rattle.mc_model.specs.PlainGoals.{plain_node, plain_sched, plain_arm, arms_of}
use Rattle.mc_model.specs.contracts.sched.Sched.{enum}
use Rattle.mc_model.specs.declared.sched.Arm.{Arm, size-Arm}
use Rattle.mc_model.specs.declared.sched.GoalNode.{GoalNode, size-GoalNode}
use Rattle.mc_model.specs.declared.sched.Sched as D
use Rattle.mc_model.specs.declared.sched.Sched.{the_lemmas}
use Rattle.mc_accepted.specs.Ordered.{change_at, times_in, variables_of_node}
use Rattle.mc_accepted.specs.Determined.{insts_after, excludes}
use Rattle.mc_procs.specs.Named.{ChangesNamed}
use Rattle.mc_procs.proofs.Views.{plain_sched-Not, plain_sched-Some, plain_sched-Ite, plain_sched-Take}
use Rattle.mc_det.specs.Pruned.{then_reached}
use Rattle.mc_det.specs.declared.prune.Pruning.{Pruning}
use Rattle.mc_det.specs.code.Points.{insts_in, undone}
use Rattle.mc_det.specs.code.Walks.{bounds_in}
use Rattle.mc_det.specs.code.Prunes.{HasCounted, InDeclared, IsBeside, IsThen, IsGoal, IsNode, Keeps}
use Rattle.mc_det.proofs.Counting.{count_same, More, Fewer, more_and_back, back_and_more, counted_more, one_counted, within_is, beside_is, then_is, keeps_both}
use Rattle.mc_det.proofs.Declaring.{if_ok_as}
use Rattle.mc_det.proofs.Gathering.{of_goals}
use Rattle.mc_det.proofs.Naming.{ready_same, item_named, arm_item_named}
use Rattle.mc_det.proofs.PrunedParts.{goal_as, node_pruned, not_pruned, some_pruned, ite_pruned, node_from_start, beside_from_start, then_from_start, run_begun, run_more, run_done, tried_more, tried_done, chosen_more, chosen_done}
use Rattle.mc_det.proofs.Walking.{named_changes, insts_after_node}
use Rattle.mc_det.proofs.prune.Pruning.+prune.Goals as goal

-- what is in a box
abbrev inside : Box GoalNode Global → GoalNode
inside b = b.value

-- a goal with its mark
pub prune-returns-clause-pruned : goal.prune-returns-clause-pruned
prune-returns-clause-pruned t c =
    let g : GoalNode = c.args.goal.now in
    let x : GoalNode = record { goal = c.prune_sched.new.goal; changes = g.changes; det = g.det; pruned = not c.either.result } in
    node_pruned c.args.procs.now c.args.types.now c.args.self.now g x c.in_ok-never_ends.never_ends c.binds_outside-binds.result refl refl (ap not c.either.ensures) c.in_ok-never_ends.ensures.pruned c.binds_outside-binds.ensures

-- a goal of a conjunction, whose own variables are counted with the others
pub prune_within-leave-requires : goal.prune_within-leave-requires
prune_within-leave-requires t c =
    subst (λ (vs : List ℕ). (x : ℕ) → x < length c.args.self.now.outside → times_in x vs ≤ get_or c.args.self.now.outside x 0) (sym (c.as_slice.ensures.value ∙ c.in_ok-own.ensures)) c.requires.counted

pub prune_within-returns : goal.prune_within-returns
prune_within-returns t c =
    let q = c.args.procs.now in
    let types = c.args.types.now in
    let a : Pruning = c.args.self.now in
    let m : Pruning = record a { outside = c.leave.new.self; own = c.variables_of.new.done } in
    let n = plain_node c.args.goal.now in
    let own : c.as_slice.result.now ≡ variables_of_node n = c.as_slice.ensures.value ∙ c.in_ok-own.ensures in
    let fewer : Fewer (variables_of_node n) a.outside m.outside = subst (λ (vs : List ℕ). Fewer vs a.outside m.outside) own (c.leave.ensures.count, c.leave.ensures.fewer) in
    let back : c.prune.new.self.outside ≡ m.outside = c.in_ok-never_ends.ensures.keeps.outside in
    let more : More (variables_of_node n) m.outside c.enter.new.self =
    subst (λ (vs : List ℕ). More vs m.outside c.enter.new.self) (c.as_slice-2.ensures.value ∙ c.in_ok-own.ensures)
    (subst (λ (l : List ℕ). More c.as_slice-2.result.now l c.enter.new.self) back (c.in_ok-enter.ensures.count, c.in_ok-enter.ensures.more)) in
    record {
      keeps = record {
        point = c.in_ok-never_ends.ensures.keeps.point;
        outside = back_and_more (variables_of_node n) a.outside m.outside c.enter.new.self fewer more;
      };
      changes = c.in_ok-never_ends.ensures.changes;
      pruned = within_is q types a m n (plain_node c.prune.new.goal) c.in_ok-never_ends.never_ends refl fewer c.in_ok-never_ends.ensures.pruned;
    }

-- a goal beside others
pub prune_beside-returns : goal.prune_beside-returns
prune_beside-returns t c =
    let q = c.args.procs.now in
    let types = c.args.types.now in
    let a : Pruning = c.args.self.now in
    let m : Pruning = record a { outside = c.enter.new.self } in
    let vs : List ℕ = c.args.beside.items in
    let more : More vs a.outside m.outside = subst (λ (l : List ℕ). More l a.outside m.outside) c.as_slice.ensures.value (c.in_ok-enter.ensures.count, c.in_ok-enter.ensures.more) in
    let back : c.prune.new.self.outside ≡ m.outside = c.in_ok-never_ends.ensures.keeps.outside in
    let fewer : Fewer vs m.outside c.leave.new.self =
    subst (λ (l : List ℕ). Fewer l m.outside c.leave.new.self) c.as_slice-2.ensures.value
    (subst (λ (l : List ℕ). Fewer c.as_slice-2.result.now l c.leave.new.self) back (c.leave.ensures.count, c.leave.ensures.fewer)) in
    record {
      keeps = record {
        point = c.in_ok-never_ends.ensures.keeps.point;
        outside = more_and_back vs a.outside m.outside c.leave.new.self more fewer;
      };
      pruned = beside_is q types a m vs (plain_node c.args.goal.now) (plain_node c.prune.new.goal) c.in_ok-never_ends.never_ends refl more c.in_ok-never_ends.ensures.pruned;
    }

-- a then part
pub prune_then-returns : goal.prune_then-returns
prune_then-returns t c =
    let q = c.args.procs.now in
    let types = c.args.types.now in
    let a : Pruning = c.args.self.now in
    let m : Pruning = record a { point = c.enter.new.self.point; own = c.variables_of.new.done } in
    let n : GoalNode = c.args.condition.now in
    let listed : c.in_ok-of_condition.of_condition.items ≡ variables_of_node (plain_node n) = c.in_ok-of_condition.ensures in
    record {
      keeps = record {
        point = c.undo.ensures ∙ ap (undone c.enter.new.found.items) c.in_ok-never_ends.ensures.keeps.point ∙ c.in_ok-enter.ensures.found ∙ ap (λ (l : List (ℕ × ℕ)). undone l a.point) c.new-found.ensures.items;
        outside = c.in_ok-never_ends.ensures.keeps.outside ∙ c.in_ok-enter.ensures.outside;
      };
      pruned =
          then_is q types a c.enter.new.self (plain_node n) (plain_node c.args.then_part.now) (plain_node c.prune_beside.new.goal) c.in_ok-never_ends.never_ends
          (c.in_ok-enter.ensures.insts ∙ sym (insts_after_node n (insts_in a.point))) c.in_ok-enter.ensures.outside
          (subst (λ (vs : List ℕ). IsBeside q types c.enter.new.self vs (plain_node c.args.then_part.now) (plain_node c.prune_beside.new.goal) c.in_ok-never_ends.never_ends) listed c.in_ok-never_ends.ensures.pruned);
    }

-- disjuncts and arms
pub prune_disj-prune-requires : goal.prune_disj-prune-requires
prune_disj-prune-requires t c =
    let inv = c.loop-n.invariant in
    let gs : List GoalNode = c.args.goals.now in
    let k = c.loop-n.n in
    let g : GoalNode = c.index_mut.result.now in
    let lt : k < length gs = omega (arith, c.loop-n-test.true, inv.end) in
    let is : g ≡ get_or gs k g = c.index_mut.ensures.value ∙ inv.rest k g (omega arith) in
    let q = c.args.procs.now in
    let types = c.args.types.now in
    let one = at_most size-GoalNode gs k g lt in
    let keeps : Keeps c.args.self.now c.loop-n.self = inv.keeps in (
      omega (arith, c.decreases, one, ap size-GoalNode is),
      (
        ready_same q types c.args.self.now.point c.loop-n.self.point keeps.point c.requires.ready,
        (count_same types c.args.self.now.outside c.loop-n.self.outside keeps.outside c.requires.count, item_named (bounds_in q (length types)) gs k g is lt c.requires.named),
      ),
    )

pub prune_disj-loop-n-preserved : goal.prune_disj-loop-n-preserved
prune_disj-loop-n-preserved t c =
    let inv = c.loop-n.invariant in
    let gs : List GoalNode = c.args.goals.now in
    let k = c.loop-n.n in
    let g : GoalNode = c.index_mut.result.now in
    let lt : k < length gs = omega (arith, c.loop-n-test.true, inv.end) in
    let is : g ≡ get_or gs k g = c.index_mut.ensures.value ∙ inv.rest k g (omega arith) in
    let ns : List GoalNode = c.loop-n.nodes.items in
    let x : GoalNode = c.prune.new.goal in
    let a : Pruning = c.args.self.now in
    record {
      end = inv.end;
      count = length-set ns k x ∙ inv.count;
      rest = λ j d le. get_or-set_other ns k j x d (let n : j ≡ k → ⊥ = omega arith in n) ∙ inv.rest j d (omega arith);
      keeps = keeps_both a c.loop-n.self c.prune.new.self inv.keeps c.in_ok-never_ends.ensures.keeps;
      so_far =
          tried_more c.args.procs.now c.args.types.now a gs c.loop-n.self k g x c.in_ok-never_ends.never_ends (take k ns) (take (k + 1) (set ns k x)) c.loop-n.never_end c.both-never_end.result
          lt is inv.keeps c.in_ok-never_ends.ensures.pruned (take_more_set ns k x (omega (arith, inv.count, lt))) c.both-never_end.ensures inv.so_far;
    }

pub prune_disj-returns-clause-pruned : goal.prune_disj-returns-clause-pruned
prune_disj-returns-clause-pruned t c =
    let inv = c.loop-n.invariant in
    let gs : List GoalNode = c.args.goals.now in
    let ns : List GoalNode = c.loop-n.nodes.items in
    let k = c.loop-n.n in
    let end : k ≡ length gs = omega (arith, inv.end, c.loop-n-test.false) in
    let a : Pruning = c.args.self.now in
    subst (λ (l : List GoalNode). IsGoal c.args.procs.now c.args.types.now a (Disj (nodes (map plain_node gs))) (Disj (nodes (map plain_node l))) c.loop-n.never_end)
    (take_all k ns (omega (arith, inv.count, end)) ∙ sym c.from_vec.ensures)
    (tried_done c.args.procs.now c.args.types.now a gs k (take k ns) c.loop-n.never_end end inv.so_far)

pub prune_arms-prune-requires : goal.prune_arms-prune-requires
prune_arms-prune-requires t c =
    let inv = c.loop-n.invariant in
    let q = c.args.procs.now in
    let types = c.args.types.now in
    let arms : List Arm = c.args.arms.now in
    let k = c.loop-n.n in
    let r : Arm = c.index_mut.result.now in
    let lt : k < length arms = omega (arith, c.loop-n-test.true, inv.end) in
    let is : r ≡ get_or arms k r = c.index_mut.ensures.value ∙ inv.rest k r (omega arith) in
    let one = at_most size-Arm arms k r lt in
    let keeps : Keeps c.args.self.now c.loop-n.self = inv.keeps in (
      omega (arith, the_lemmas, c.decreases, one, ap size-Arm is),
      (
        ready_same q types c.args.self.now.point c.loop-n.self.point keeps.point c.requires.ready,
        (count_same types c.args.self.now.outside c.loop-n.self.outside keeps.outside c.requires.count, arm_item_named (bounds_in q (length types)) arms k r is lt c.requires.named),
      ),
    )

pub prune_arms-loop-n-preserved : goal.prune_arms-loop-n-preserved
prune_arms-loop-n-preserved t c =
    let inv = c.loop-n.invariant in
    let arms : List Arm = c.args.arms.now in
    let ns : List Arm = c.loop-n.bodies.items in
    let k = c.loop-n.n in
    let r : Arm = c.index_mut.result.now in
    let x : Arm = record { on = r.on; body = c.prune.new.goal } in
    let a : Pruning = c.args.self.now in
    let lt : k < length arms = omega (arith, c.loop-n-test.true, inv.end) in
    let is : r ≡ get_or arms k r = c.index_mut.ensures.value ∙ inv.rest k r (omega arith) in
    record {
      end = inv.end;
      count = length-set ns k x ∙ inv.count;
      rest = λ j d le. get_or-set_other ns k j x d (let n : j ≡ k → ⊥ = omega arith in n) ∙ inv.rest j d (omega arith);
      keeps = keeps_both a c.loop-n.self c.prune.new.self inv.keeps c.in_ok-never_ends.ensures.keeps;
      so_far =
          chosen_more c.args.procs.now c.args.types.now a arms c.loop-n.self k r x c.in_ok-never_ends.never_ends (take k ns) (take (k + 1) (set ns k x)) c.loop-n.never_end c.both-never_end.result
          lt is inv.keeps c.in_ok-never_ends.ensures.pruned refl (take_more_set ns k x (omega (arith, inv.count, lt))) c.both-never_end.ensures inv.so_far;
    }

pub prune_arms-returns-clause-pruned : goal.prune_arms-returns-clause-pruned
prune_arms-returns-clause-pruned t c =
    let inv = c.loop-n.invariant in
    let arms : List Arm = c.args.arms.now in
    let ns : List Arm = c.loop-n.bodies.items in
    let k = c.loop-n.n in
    let end : k ≡ length arms = omega (arith, inv.end, c.loop-n-test.false) in
    let a : Pruning = c.args.self.now in
    subst (λ (l : List Arm). IsGoal c.args.procs.now c.args.types.now a (Switch c.args.x (arms_of (map plain_arm arms))) (Switch c.args.x (arms_of (map plain_arm l))) c.loop-n.never_end)
    (take_all k ns (omega (arith, inv.count, end)) ∙ sym c.from_vec.ensures)
    (chosen_done c.args.procs.now c.args.types.now a arms c.args.x k (take k ns) c.loop-n.never_end end inv.so_far)

-- a conjunction
pub prune_conj-loop-n-init : goal.prune_conj-loop-n-init
prune_conj-loop-n-init t c =
    let q = c.args.procs.now in
    let types = c.args.types.now in
    let gs : List GoalNode = c.args.goals.now in
    let a : Pruning = c.args.self.now in
    let l : Pruning = record a { outside = c.enter.new.self; all = c.variables_of_all.new.done; found = c.emptied-found.new.done } in
    let more : More (of_goals gs) a.outside l.outside =
    subst (λ (vs : List ℕ). More vs a.outside l.outside) (c.as_slice-2.ensures.value ∙ c.in_ok-all.ensures ∙ ap of_goals c.as_slice.ensures.items) (c.in_ok-enter.ensures.count, c.in_ok-enter.ensures.more) in
    let listed : c.taken-nodes.result.items ≡ gs = c.taken-nodes.ensures.items in
    record {
      end = omega (arith, c.len-n-end.ensures, ap length listed, c.taken-nodes.result.ok.0);
      count = ap length listed;
      rest = λ k d le. ap (λ (ns : List GoalNode). get_or ns k d) listed;
      ready = c.requires.ready;
      counts = c.in_ok-enter.ensures.count ∙ c.requires.count;
      undone = ap (λ (fs : List (ℕ × ℕ)). undone fs a.point) c.emptied-found.ensures;
      more = more;
      so_far = run_begun q types a gs l refl (λ Q h. counted_more Q (of_goals gs) a.outside l.outside more h);
    }

pub prune_conj-prune_within-requires : goal.prune_conj-prune_within-requires
prune_conj-prune_within-requires t c =
    let inv = c.loop-n.invariant in
    let gs : List GoalNode = c.args.goals.now in
    let k = c.loop-n.n in
    let g : GoalNode = c.index_mut.result.now in
    let lt : k < length gs = omega (arith, c.loop-n-test.true, inv.end) in
    let is : g ≡ get_or gs k g = c.index_mut.ensures.value ∙ inv.rest k g (omega arith) in
    let counted : HasCounted c.loop-n.self.outside (plain_node g) = one_counted gs k g c.args.self.now.outside c.loop-n.self.outside lt is inv.more in
    let one = at_most size-GoalNode gs k g lt in (
      omega (arith, c.decreases, one, ap size-GoalNode is),
      (inv.ready, (inv.counts, (item_named (bounds_in c.args.procs.now (length c.args.types.now)) gs k g is lt c.requires.named, counted))),
    )

pub prune_conj-enter-requires-in-loop-n-clause-named : goal.prune_conj-enter-requires-in-loop-n-clause-named
prune_conj-enter-requires-in-loop-n-clause-named t c =
    let inv = c.loop-n.invariant in
    let B = bounds_in c.args.procs.now (length c.args.types.now) in
    let gs : List GoalNode = c.args.goals.now in
    let k = c.loop-n.n in
    let g : GoalNode = c.index_mut.result.now in
    let lt : k < length gs = omega (arith, c.loop-n-test.true, inv.end) in
    let is : g ≡ get_or gs k g = c.index_mut.ensures.value ∙ inv.rest k g (omega arith) in
    let changes : c.index.result.now.changes ≡ g.changes =
    ap (λ (h : GoalNode). h.changes) (c.index.ensures ∙ get_or-set_same c.loop-n.nodes.items k c.prune_within.new.goal _ (omega (arith, inv.count, lt))) ∙ c.in_ok-never_ends.ensures.changes in
    subst (ChangesNamed B) (sym changes) (named_changes B g (item_named B gs k g is lt c.requires.named))

pub prune_conj-loop-n-preserved : goal.prune_conj-loop-n-preserved
prune_conj-loop-n-preserved t c =
    let inv = c.loop-n.invariant in
    let gs : List GoalNode = c.args.goals.now in
    let k = c.loop-n.n in
    let g : GoalNode = c.index_mut.result.now in
    let lt : k < length gs = omega (arith, c.loop-n-test.true, inv.end) in
    let is : g ≡ get_or gs k g = c.index_mut.ensures.value ∙ inv.rest k g (omega arith) in
    let q = c.args.procs.now in
    let types = c.args.types.now in
    let ns : List GoalNode = c.loop-n.nodes.items in
    let x : GoalNode = c.prune_within.new.goal in
    let a : Pruning = c.args.self.now in
    let l : Pruning = c.loop-n.self in
    let m : Pruning = c.enter-in-loop-n.new.self in
    let lt_ns : k < length ns = omega (arith, inv.count, lt) in
    let keeps = c.in_ok-never_ends.ensures.keeps in
    let entered = c.in_ok-enter-2.ensures in
    let same : m.outside ≡ l.outside = entered.outside ∙ keeps.outside in
    let changes : c.index.result.now.changes ≡ g.changes =
    ap (λ (h : GoalNode). h.changes) (c.index.ensures ∙ get_or-set_same ns k x _ lt_ns) ∙ c.in_ok-never_ends.ensures.changes in
    record {
      end = inv.end;
      count = length-set ns k x ∙ inv.count;
      rest = λ j d le. get_or-set_other ns k j x d (let n : j ≡ k → ⊥ = omega arith in n) ∙ inv.rest j d (omega arith);
      ready = entered.ready;
      counts = ap length same ∙ inv.counts;
      undone = entered.found ∙ ap (undone c.loop-n.found.items) keeps.point ∙ inv.undone;
      more = subst (More (of_goals gs) a.outside) (sym same) inv.more;
      so_far =
          run_more q types a gs l m k g x c.in_ok-never_ends.never_ends (take k ns) (take (k + 1) (set ns k x)) c.loop-n.never_end c.either-never_end.result
          lt is c.in_ok-never_ends.ensures.pruned
          (entered.insts
          ∙ ap (λ (cs : List (ℕ × ℕ)). λ z. change_at z cs (insts_in c.prune_within.new.self.point z)) changes
          ∙ sym (insts_after_node g (insts_in c.prune_within.new.self.point))
          ∙ ap (λ (p : List ℕ). insts_after (plain_node g) (insts_in p)) keeps.point)
          same (take_more_set ns k x lt_ns) c.either-never_end.ensures inv.so_far;
    }

pub prune_conj-returns-clause-keeps : goal.prune_conj-returns-clause-keeps
prune_conj-returns-clause-keeps t c =
    let gs : List GoalNode = c.args.goals.now in
    let a : Pruning = c.args.self.now in
    let l : Pruning = c.loop-n.self in
    let fewer : Fewer (of_goals gs) l.outside c.leave.new.self =
    subst (λ (vs : List ℕ). Fewer vs l.outside c.leave.new.self) (c.as_slice-3.ensures.value ∙ c.in_ok-all.ensures ∙ ap of_goals c.as_slice.ensures.items) (c.leave.ensures.count, c.leave.ensures.fewer) in
    record {
      point = c.undo_all.ensures ∙ c.loop-n.invariant.undone;
      outside = more_and_back (of_goals gs) a.outside l.outside c.leave.new.self c.loop-n.invariant.more fewer;
    }

pub prune_conj-returns-clause-pruned : goal.prune_conj-returns-clause-pruned
prune_conj-returns-clause-pruned t c =
    let inv = c.loop-n.invariant in
    let gs : List GoalNode = c.args.goals.now in
    let ns : List GoalNode = c.loop-n.nodes.items in
    let k = c.loop-n.n in
    let end : k ≡ length gs = omega (arith, inv.end, c.loop-n-test.false) in
    let a : Pruning = c.args.self.now in
    subst (λ (l : List GoalNode). IsGoal c.args.procs.now c.args.types.now a (Conj (nodes (map plain_node gs))) (Conj (nodes (map plain_node l))) c.loop-n.never_end)
    (take_all k ns (omega (arith, inv.count, end)) ∙ sym c.from_vec.ensures)
    (run_done c.args.procs.now c.args.types.now a gs c.loop-n.self k (take k ns) c.loop-n.never_end end inv.so_far)

-- the forms of goals
pub prune_sched-returns-in_ok-prune-in-Not-clause-pruned : goal.prune_sched-returns-in_ok-prune-in-Not-clause-pruned
prune_sched-returns-in_ok-prune-in-Not-clause-pruned t c =
    let q = c.args.procs.now in
    let types = c.args.types.now in
    let a : Pruning = c.args.self.now in
    let g : GoalNode = c.in-Not.inner.value in
    let x : GoalNode = c.prune-in-Not.new.goal in
    let told = c.in_ok-prune-in-Not.field-0 in
    rw (ap (values_o enum 4) c.in-Not.is ∙ values_o_at enum 4 (c.in-Not.inner, tt))
    (goal_as q types a _ _ (Not (plain_node g)) (Not (plain_node x)) _ (ap plain_sched c.in-Not.is ∙ plain_sched-Not c.in-Not.inner) (plain_sched-Not _)
    (not_pruned q types a (plain_node g) (plain_node x) told
    (subst (λ (h : GoalNode). IsNode q types a (plain_node h) (plain_node x) told) (c.deref_mut-in-Not.ensures.value ∙ ap inside c.in-Not.inner-is) c.in_ok-prune-in-Not.ensures.pruned)))

pub prune_sched-returns-in-Some-clause-pruned : goal.prune_sched-returns-in-Some-clause-pruned
prune_sched-returns-in-Some-clause-pruned t c =
    let q = c.args.procs.now in
    let types = c.args.types.now in
    let a : Pruning = c.args.self.now in
    let vs = c.in-Some.field-0 in
    let g : GoalNode = c.in-Some.inner.value in
    let x : GoalNode = c.prune-in-Some.new.goal in
    rw (ap (values_o enum 5) c.in-Some.is ∙ values_o_at enum 5 (vs, (c.in-Some.inner, tt)))
    (if_ok_as c.prune-in-Some.result
    (λ (told : Bool). IsNode q types a (plain_node c.deref_mut-in-Some.result.now) (plain_node x) told)
    _
    (λ (told : Bool) is. goal_as q types a _ _ (Exists vs (plain_node g)) (Exists vs (plain_node x)) told (ap plain_sched c.in-Some.is ∙ plain_sched-Some vs c.in-Some.inner) (plain_sched-Some vs _)
    (some_pruned q types a vs (plain_node g) (plain_node x) told
    (subst (λ (h : GoalNode). IsNode q types a (plain_node h) (plain_node x) told) (c.deref_mut-in-Some.ensures.value ∙ ap inside c.in-Some.inner-is) is)))
    c.prune-in-Some.ensures.pruned)

pub prune_sched-returns-in_ok-third-in-Ite-clause-pruned : goal.prune_sched-returns-in_ok-third-in-Ite-clause-pruned
prune_sched-returns-in_ok-third-in-Ite-clause-pruned t c =
    let q = c.args.procs.now in
    let types = c.args.types.now in
    let a : Pruning = c.args.self.now in
    let m : Pruning = record a { own = c.variables_of.new.done } in
    let vs = c.in-Ite.field-0 in
    let b = c.in-Ite.condition in
    let d = c.in-Ite.then_part in
    let e = c.in-Ite.else_part in
    let b2 : GoalNode = c.prune_beside.new.goal in
    let d2 : GoalNode = c.prune_then.new.then_part in
    let d3 : GoalNode = c.unprune.new.then_part in
    let e2 : GoalNode = c.prune.new.goal in
    let first = c.in_ok-first-in-Ite.first in
    let second = c.in_ok-second-in-Ite.second in
    let third = c.in_ok-third-in-Ite.third in
    let listed : c.in_ok-of_then-in-Ite.of_then.items ≡ variables_of_node (plain_node d.value) =
    c.in_ok-of_then-in-Ite.ensures ∙ ap (λ (h : GoalNode). variables_of_node (plain_node h)) (c.deref.ensures ∙ ap inside c.in-Ite.then_part-is) in
    let begun : Keeps a m = record { point = refl; outside = refl } in
    let after_then : Keeps a c.prune_then.new.self = keeps_both a m c.prune_then.new.self begun c.in_ok-second-in-Ite.ensures.keeps in
    let after_condition : Keeps a c.prune_beside.new.self = keeps_both a c.prune_then.new.self c.prune_beside.new.self after_then c.in_ok-first-in-Ite.ensures.keeps in
    rw (ap (values_d enum 3 (vs, (b, (d, (e, tt))))) c.in-Ite.is ∙ values_d_at enum 3 (vs, (b, (d, (e, tt)))) (vs, (b, (d, (e, tt)))))
    (goal_as q types a _ _ (Ite vs (plain_node b.value) (plain_node d.value) (plain_node e.value)) (Ite vs (plain_node b2) (then_reached first (plain_node d2)) (plain_node e2)) _
    (ap plain_sched c.in-Ite.is ∙ plain_sched-Ite vs b d e)
    (plain_sched-Ite vs (with_value b b2) (with_value d d3) (with_value e e2)
    ∙ ap (λ n. Ite vs (plain_node b2) n (plain_node e2)) c.unprune.ensures
    ∙ ap (λ (h : GoalNode). Ite vs (plain_node b2) (then_reached first (plain_node h)) (plain_node e2)) c.deref_mut-in-Ite-3.ensures.value)
    (ite_pruned q types a vs (plain_node b.value) (plain_node d.value) (plain_node e.value) (plain_node b2) (plain_node d2) (plain_node e2) first second third _
    (c.both.ensures ∙ ap (λ (v : Bool). v && third) c.either.ensures)
    (beside_from_start q types a c.prune_then.new.self (variables_of_node (plain_node d.value)) (plain_node b.value) (plain_node b2) first after_then
    (subst (λ (l : List ℕ). IsBeside q types c.prune_then.new.self l (plain_node b.value) (plain_node b2) first) listed
    (subst (λ (h : GoalNode). IsBeside q types c.prune_then.new.self c.in_ok-of_then-in-Ite.of_then.items (plain_node h) (plain_node b2) first) (c.deref_mut-in-Ite.ensures.value ∙ ap inside c.in-Ite.condition-is) c.in_ok-first-in-Ite.ensures.pruned)))
    (then_from_start q types a m (plain_node b.value) (plain_node d.value) (plain_node d2) second begun
    (subst (λ (h : GoalNode). IsThen q types m (plain_node b.value) (plain_node h) (plain_node d2) second) (c.deref_mut.ensures.value ∙ ap inside c.in-Ite.then_part-is)
    (subst (λ (h : GoalNode). IsThen q types m (plain_node h) (plain_node c.deref_mut.result.now) (plain_node d2) second) (c.deref-in-Ite.ensures ∙ ap inside c.in-Ite.condition-is) c.in_ok-second-in-Ite.ensures.pruned)))
    (node_from_start q types a c.prune_beside.new.self (plain_node e.value) (plain_node e2) third after_condition
    (subst (λ (h : GoalNode). IsNode q types c.prune_beside.new.self (plain_node h) (plain_node e2) third) (c.deref_mut-in-Ite-2.ensures.value ∙ ap inside c.in-Ite.else_part-is) c.in_ok-third-in-Ite.ensures.pruned))))

pub prune_sched-returns-in-Take-clause-pruned : goal.prune_sched-returns-in-Take-clause-pruned
prune_sched-returns-in-Take-clause-pruned t c =
    let q = c.args.procs.now in
    let types = c.args.types.now in
    let a : Pruning = c.args.self.now in
    let x = c.in-Take.x in
    let s = c.in-Take.symbol in
    let args = c.in-Take.field-2 in
    rw (ap (values_d enum 9 (x, (s, (args, tt)))) c.in-Take.is ∙ values_d_at enum 9 (x, (s, (args, tt))) (x, (s, (args, tt))))
    (if_ok_as c.never_takes.result
    (λ (told : Bool). InDeclared q (λ S. told ≡ excludes S (λ y. variable_type y) (insts_in a.point x) s))
    (λ (told : Bool). IsGoal q types a (plain_sched c.args.goal.now) (plain_sched (D.Take x s args)) told)
    (λ (told : Bool) never. goal_as q types a _ _ (Take x s args) (Take x s args) told (ap plain_sched c.in-Take.is ∙ plain_sched-Take x s args) (plain_sched-Take x s args)
    (record { made = λ Q counted outcome ds follow. refl; never = never }))
    (rw (ap (values_d enum 9 (x, (s, (args, tt)))) c.in-Take.is ∙ values_d_at enum 9 (x, (s, (args, tt))) (x, (s, (args, tt)))) at c.never_takes.ensures))
