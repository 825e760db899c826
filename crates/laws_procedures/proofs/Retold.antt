-- Goals that are pruned, or marked with their determinisms, are told as they were; and so is the order of a goal, with
-- what it changes.
use Rattle.std.proofs.Common.{◌≡◌, ℕ, List, ◌++◌, Bool, true, false, subst}
use Rattle.mc_program.specs.Programs.{TypeTerm}
use Rattle.mc_model.specs.Scheduled.{Node, node, Scheduled, Conj, Disj, Switch, Ite, Not, Exists, Assign, Test, Build, Take, Const, TestConst, Call, Apply, Nodes, no_nodes, node_then, Arms, no_arms, arm_then}
use Rattle.mc_model.specs.Good.{System}
use Rattle.mc_accepted.specs.Ordered.{Insts, variables_of_node, variables_of_nodes}
use Rattle.mc_accepted.specs.Determined.{Known, learned, insts_after}
use Rattle.mc_accepted.specs.MergedArms.{never_ends}
use Rattle.mc_accepted.specs.Unmarked.{all_kept, changed_node, changed_nodes, untold_scheduled, untold_arms}
use Rattle.mc_det.specs.Marked.{marked, marked_in, marked_all, marked_each, marked_arms}
use Rattle.mc_det.specs.Pruned.{then_reached, pruned_node, pruned_in, pruned_all, pruned_each, pruned_arms}
use Rattle.laws_accepted.specs.Told as W
use Rattle.laws_accepted.specs.Told.{Retold, RetoldIn, RetoldAll, RetoldArms, retold}
use Rattle.laws_accepted.proofs.Retelling.{both_told, self}

-- ---- from one to the next
pub told_back : {n m : Node} → Retold n m → Retold m n
told_back {n} {m} r = both_told r (self n)

pub told_then : {n m k : Node} → Retold n m → Retold m k → Retold n k
told_then r q = both_told (told_back r) q

-- ---- a goal is told as its order, with what it changes
mutual
  order_told : (n : Node) → Retold n (changed_node n)
  order_told (node s changes d m) = retold (order_told_in s)

  order_told_in : (s : Scheduled) → RetoldIn s (untold_scheduled all_kept s)
  order_told_in (Conj ns) = W.conj (order_told_all ns)
  order_told_in (Disj ns) = W.disj (order_told_all ns)
  order_told_in (Switch x arms) = W.switch (order_told_arms arms)
  order_told_in (Ite vs c t e) = W.ite (order_told c) (order_told t) (order_told e)
  order_told_in (Not n) = W.neg (order_told n)
  order_told_in (Exists vs n) = W.some (order_told n)
  order_told_in (Assign x y) = W.assign
  order_told_in (Test x y) = W.test
  order_told_in (Build x s ys) = W.build
  order_told_in (Take x s ys) = W.take
  order_told_in (Const x v) = W.put
  order_told_in (TestConst x v) = W.test_constant
  order_told_in (Call p xs implied last) = W.call
  order_told_in (Apply op xs ys) = W.apply

  order_told_all : (ns : Nodes) → RetoldAll ns (changed_nodes ns)
  order_told_all no_nodes = W.done
  order_told_all (node_then n ns) = W.next (order_told n) (order_told_all ns)

  order_told_arms : (arms : Arms) → RetoldArms arms (untold_arms all_kept arms)
  order_told_arms no_arms = W.no_arm
  order_told_arms (arm_then l n arms) = W.arm (order_told n) (order_told_arms arms)

pub told_as_order : (n x : Node) → changed_node n ≡ x → Retold n x
told_as_order n x e = subst (Retold n) e (order_told n)

-- ---- a goal that is pruned
reached_told : {n m : Node} (never : Bool) → Retold n m → Retold n (then_reached never m)
reached_told true (retold r) = retold r
reached_told false r = r

module _ (S : System) (T : ℕ → TypeTerm) where
  mutual
    pub pruned_told : (Q : List ℕ) (b : Insts) (n : Node) → Retold n (pruned_node S T Q b n)
    pruned_told Q b (node s changes d m) = retold (pruned_told_in Q b s)

    pruned_told_in : (Q : List ℕ) (b : Insts) (s : Scheduled) → RetoldIn s (pruned_in S T Q b s)
    pruned_told_in Q b (Conj ns) = W.conj (pruned_told_all Q b ns)
    pruned_told_in Q b (Disj ns) = W.disj (pruned_told_each Q b ns)
    pruned_told_in Q b (Switch x arms) = W.switch (pruned_told_arms Q b arms)
    pruned_told_in Q b (Ite vs c t e) =
        W.ite (pruned_told (Q ++ variables_of_node t) b c)
        (reached_told (never_ends S T b c) (pruned_told (Q ++ variables_of_node c) (insts_after c b) t))
        (pruned_told Q b e)
    pruned_told_in Q b (Not n) = W.neg (pruned_told Q b n)
    pruned_told_in Q b (Exists vs n) = W.some (pruned_told Q b n)
    pruned_told_in Q b (Assign x y) = W.assign
    pruned_told_in Q b (Test x y) = W.test
    pruned_told_in Q b (Build x s ys) = W.build
    pruned_told_in Q b (Take x s ys) = W.take
    pruned_told_in Q b (Const x v) = W.put
    pruned_told_in Q b (TestConst x v) = W.test_constant
    pruned_told_in Q b (Call p xs implied last) = W.call
    pruned_told_in Q b (Apply op xs ys) = W.apply

    pruned_told_all : (Q : List ℕ) (b : Insts) (ns : Nodes) → RetoldAll ns (pruned_all S T Q b ns)
    pruned_told_all Q b no_nodes = W.done
    pruned_told_all Q b (node_then n ns) =
        W.next (pruned_told (Q ++ variables_of_nodes ns) b n) (pruned_told_all (Q ++ variables_of_node n) (insts_after n b) ns)

    pruned_told_each : (Q : List ℕ) (b : Insts) (ns : Nodes) → RetoldAll ns (pruned_each S T Q b ns)
    pruned_told_each Q b no_nodes = W.done
    pruned_told_each Q b (node_then n ns) = W.next (pruned_told Q b n) (pruned_told_each Q b ns)

    pruned_told_arms : (Q : List ℕ) (b : Insts) (arms : Arms) → RetoldArms arms (pruned_arms S T Q b arms)
    pruned_told_arms Q b no_arms = W.no_arm
    pruned_told_arms Q b (arm_then l n arms) = W.arm (pruned_told Q b n) (pruned_told_arms Q b arms)

  -- ---- a goal that is marked
  mutual
    pub marked_told : (b : Insts) (known : Known) (n : Node) → Retold n (marked S T b known n)
    marked_told b known (node s changes d m) = retold (marked_told_in b known s)

    marked_told_in : (b : Insts) (known : Known) (s : Scheduled) → RetoldIn s (marked_in S T b known s)
    marked_told_in b known (Conj ns) = W.conj (marked_told_all b known ns)
    marked_told_in b known (Disj ns) = W.disj (marked_told_each b known ns)
    marked_told_in b known (Switch x arms) = W.switch (marked_told_arms b known x arms)
    marked_told_in b known (Ite vs c t e) =
        W.ite (marked_told b known c) (marked_told (insts_after c b) known t) (marked_told b known e)
    marked_told_in b known (Not n) = W.neg (marked_told b known n)
    marked_told_in b known (Exists vs n) = W.some (marked_told b known n)
    marked_told_in b known (Assign x y) = W.assign
    marked_told_in b known (Test x y) = W.test
    marked_told_in b known (Build x s ys) = W.build
    marked_told_in b known (Take x s ys) = W.take
    marked_told_in b known (Const x v) = W.put
    marked_told_in b known (TestConst x v) = W.test_constant
    marked_told_in b known (Call p xs implied last) = W.call
    marked_told_in b known (Apply op xs ys) = W.apply

    pub marked_told_all : (b : Insts) (known : Known) (ns : Nodes) → RetoldAll ns (marked_all S T b known ns)
    marked_told_all b known no_nodes = W.done
    marked_told_all b known (node_then n ns) = W.next (marked_told b known n) (marked_told_all (insts_after n b) known ns)

    marked_told_each : (b : Insts) (known : Known) (ns : Nodes) → RetoldAll ns (marked_each S T b known ns)
    marked_told_each b known no_nodes = W.done
    marked_told_each b known (node_then n ns) = W.next (marked_told b known n) (marked_told_each b known ns)

    marked_told_arms : (b : Insts) (known : Known) (x : ℕ) (arms : Arms) → RetoldArms arms (marked_arms S T b known x arms)
    marked_told_arms b known x no_arms = W.no_arm
    marked_told_arms b known x (arm_then l n arms) =
        W.arm (marked_told b (learned x l known) n) (marked_told_arms b known x arms)
