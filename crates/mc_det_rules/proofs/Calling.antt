-- What is found of the calls of goals, one after another.
use Rattle.std.proofs.Math.Seq.{drop-cons, drop-length}
use Rattle.std.proofs.Common.{◌≡◌, ℕ, suc, ◌+◌, ◌<◌, Bool, true, false, not, ◌&&◌, ◌||◌, List, length, get_or, drop, map, Option, Some, None, refl, sym, ap, ap₂, ◌∙◌, add-one, if◌then◌else◌}
use Rattle.std.specs.List.{list_any}
use Rattle.std.specs.Option.{option_or}
use Rattle.mc_model.specs.Scheduled.{Node, Nodes, node_then, nodes, Scheduled, Ite, Call, Label, arm_then, Procedure}
use Rattle.mc_model.specs.PlainGoals.{plain_node, plain_sched, plain_arm, arms_of}
use Rattle.mc_model.specs.declared.sched.Arm.{Arm}
use Rattle.mc_model.specs.declared.sched.GoalNode.{GoalNode}
use Rattle.mc_procs.proofs.Views.{plain_node-open, plain_arm-open}
use Rattle.mc_accepted.specs.Ordered.{Insts, binds_one, variables_of_node}
use Rattle.mc_accepted.specs.Determined.{insts_after}
use Rattle.mc_accepted.specs.DeterminismFaults.{is_empty}
use Rattle.mc_det.specs.code.Points.{insts_in}
use Rattle.mc_det_rules.specs.declared.calls.Misplaced.{Misplaced}
use Rattle.mc_det_rules.specs.code.Io.{fails, none_fail}
use Rattle.mc_det_rules.specs.code.Calls.{binds, both, none_found, before_others, of_condition, of_goal, of_call, misplaced, misplaced_in, found_in, found_in_part, found_in_all, found_in_each, found_in_arms}
use Rattle.mc_det_rules.proofs.Bindings.{one_bound}

-- the first one that is there
first_of_three : (a b c : Option ℕ) → option_or (option_or a b) c ≡ option_or a (option_or b c)
first_of_three None b c = refl
first_of_three (Some k) b c = refl

or_none : (a : Option ℕ) → option_or a None ≡ a
or_none None = refl
or_none (Some k) = refl

abbrev made : Option ℕ → Option ℕ → Misplaced
made a b = record { in_all = a; in_first = b }

three : (a b c : Misplaced) → both (both a b) c ≡ both a (both b c)
three a b c = ap₂ made (first_of_three a.in_all b.in_all c.in_all) (first_of_three a.in_first b.in_first c.in_first)

ended : (a : Misplaced) → both a none_found ≡ a
ended a = ap₂ made (or_none a.in_all) (or_none a.in_first)

-- where it doesn't matter what is asked for
pub no_matter : (seen sure : Bool) (a : Misplaced) → a.in_all ≡ a.in_first → a ≡ of_condition seen sure a
no_matter true true a e = refl
no_matter true false a e = ap (made a.in_all) (sym e)
no_matter false sure a e = ap (λ (x : Option ℕ). made x a.in_first) e

-- goals before one that can fail, or can't
before_two : (sure fails : Bool) (a b : Misplaced) → before_others sure (both (before_others (not fails) a) b) ≡ both (before_others (not fails && sure) a) (before_others sure b)
before_two true true a b = refl
before_two true false a b = refl
before_two false true a b = refl
before_two false false a b = refl

none_before : (sure : Bool) (a : Misplaced) → both (before_others sure none_found) a ≡ a
none_before true a = refl
none_before false a = refl

module _ (procs : ℕ → Procedure) where
  -- a goal of a conjunction before others
  chosen : (b : Insts) (n : Node) (sure : Bool) → misplaced procs b sure n ≡ (if sure then misplaced procs b true n else misplaced procs b false n)
  chosen b n true = refl
  chosen b n false = refl

  all_opened : (b : Insts) (n : Node) (ns : Nodes) → found_in_all procs b (node_then n ns) ≡ both (before_others (none_fail ns) (found_in procs b n)) (found_in_all procs (insts_after n b) ns)
  all_opened b n ns =
      ap (λ (o : Option ℕ). both (made (misplaced procs b false n) o) (found_in_all procs (insts_after n b) ns)) (chosen b n (none_fail ns))

  module _ (gs : List GoalNode) where
    abbrev rest : ℕ → Nodes
    rest k = nodes (map plain_node (drop k gs))

    -- a conjunction
    abbrev pub all_left : Insts → Misplaced → ℕ → Misplaced
    all_left b found k = both (before_others (none_fail (rest k)) found) (found_in_all procs b (rest k))

    pub all_begun : (b : Insts) → all_left b none_found 0 ≡ found_in_all procs b (nodes (map plain_node gs))
    all_begun b = none_before (none_fail (rest 0)) (found_in_all procs b (rest 0))

    pub all_more : (k : ℕ) (d : GoalNode) (b c : Insts) (found before part next total : Misplaced) → k < length gs → part ≡ found_in procs b (plain_node (get_or gs k d)) → before ≡ before_others (not (get_or gs k d).det.can_fail) found → next ≡ both before part → c ≡ insts_after (plain_node (get_or gs k d)) b → all_left b found k ≡ total → all_left c next (k + 1) ≡ total
    all_more k d b c found before part next total lt ep eb en ec e =
        let g = get_or gs k d in
        let n = plain_node g in
        let ns = rest (suc k) in
        let s = none_fail ns in
        let F = found_in_all procs (insts_after n b) ns in
        ap (all_left c next) (add-one k)
        ∙ ap (λ (i : Insts). all_left i next (suc k)) ec
        ∙ ap (λ (a : Misplaced). both (before_others s a) F) (en ∙ ap₂ both eb ep)
        ∙ ap (λ (a : Misplaced). both a F) (before_two s g.det.can_fail found (found_in procs b n))
        ∙ three (before_others (not g.det.can_fail && s) found) (before_others s (found_in procs b n)) F
        ∙ ap (λ (f : Bool). both (before_others (not f && s) found) (both (before_others s (found_in procs b n)) F)) (sym (ap fails (plain_node-open g)))
        ∙ ap (both (before_others (none_fail (node_then n ns)) found)) (sym (all_opened b n ns))
        ∙ ap (λ (l : List GoalNode). both (before_others (none_fail (nodes (map plain_node l))) found) (found_in_all procs b (nodes (map plain_node l)))) (sym (drop-cons gs k d lt))
        ∙ e

    pub all_ended : (b : Insts) (found total : Misplaced) (k : ℕ) → k ≡ length gs → all_left b found k ≡ total → found ≡ total
    all_ended b found total k e h =
        sym (ended found)
        ∙ ap (λ (l : List GoalNode). both (before_others (none_fail (nodes (map plain_node l))) found) (found_in_all procs b (nodes (map plain_node l)))) (sym (ap (λ m. drop m gs) e ∙ drop-length gs))
        ∙ h

    -- a disjunction
    abbrev pub each_left : Insts → Misplaced → ℕ → Misplaced
    each_left b found k = both found (found_in_each procs b (rest k))

    pub each_more : (k : ℕ) (d : GoalNode) (b : Insts) (found part next total : Misplaced) → k < length gs → part ≡ found_in procs b (plain_node (get_or gs k d)) → next ≡ both found part → each_left b found k ≡ total → each_left b next (k + 1) ≡ total
    each_more k d b found part next total lt ep en e =
        let n = plain_node (get_or gs k d) in
        let ns = rest (suc k) in
        ap (each_left b next) (add-one k)
        ∙ ap (λ (a : Misplaced). both a (found_in_each procs b ns)) (en ∙ ap (both found) ep)
        ∙ three found (found_in procs b n) (found_in_each procs b ns)
        ∙ ap (λ (l : List GoalNode). both found (found_in_each procs b (nodes (map plain_node l)))) (sym (drop-cons gs k d lt))
        ∙ e

    pub each_ended : (b : Insts) (found total : Misplaced) (k : ℕ) → k ≡ length gs → each_left b found k ≡ total → found ≡ total
    each_ended b found total k e h =
        sym (ended found)
        ∙ ap (λ (l : List GoalNode). both found (found_in_each procs b (nodes (map plain_node l)))) (sym (ap (λ m. drop m gs) e ∙ drop-length gs))
        ∙ h

  module _ (arms : List Arm) where
    -- the arms of a switch
    abbrev pub arms_left : Insts → Misplaced → ℕ → Misplaced
    arms_left b found k = both found (found_in_arms procs b (arms_of (map plain_arm (drop k arms))))

    pub arms_more : (k : ℕ) (d : Arm) (b : Insts) (found part next total : Misplaced) → k < length arms → part ≡ found_in procs b (plain_node (get_or arms k d).body) → next ≡ both found part → arms_left b found k ≡ total → arms_left b next (k + 1) ≡ total
    arms_more k d b found part next total lt ep en e =
        let n = plain_node (get_or arms k d).body in
        let left = arms_of (map plain_arm (drop (suc k) arms)) in
        ap (arms_left b next) (add-one k)
        ∙ ap (λ (a : Misplaced). both a (found_in_arms procs b left)) (en ∙ ap (both found) ep)
        ∙ three found (found_in procs b n) (found_in_arms procs b left)
        ∙ ap (λ (p : Label × Node). both found (found_in_arms procs b (arm_then p.0 p.1 left))) (sym (plain_arm-open (get_or arms k d)))
        ∙ ap (λ (l : List Arm). both found (found_in_arms procs b (arms_of (map plain_arm l)))) (sym (drop-cons arms k d lt))
        ∙ e

    pub arms_ended : (b : Insts) (found total : Misplaced) (k : ℕ) → k ≡ length arms → arms_left b found k ≡ total → found ≡ total
    arms_ended b found total k e h =
        sym (ended found)
        ∙ ap (λ (l : List Arm). both found (found_in_arms procs b (arms_of (map plain_arm l)))) (sym (ap (λ m. drop m arms) e ∙ drop-length arms))
        ∙ h

  -- a goal, from what is found in its form
  of_form : (b : Insts) (s : Scheduled) (m : Bool) → of_goal m (found_in_part procs b s) ≡ made (misplaced_in procs b m s) (misplaced_in procs b true s)
  of_form b s true = refl
  of_form b s false = refl

  pub goal_found : (b : Insts) (g : GoalNode) (inside r : Misplaced) → r ≡ of_goal g.pruned inside → inside ≡ found_in_part procs b (plain_sched g.goal) → r ≡ found_in procs b (plain_node g)
  goal_found b g inside r e ei =
      e
      ∙ ap (of_goal g.pruned) ei
      ∙ of_form b (plain_sched g.goal) g.pruned
      ∙ ap (found_in procs b) (sym (plain_node-open g))

  -- a call
  of_place : (is_committed : Bool) (p : ℕ) (implied : List ℕ) → of_call is_committed (not (is_empty implied)) p ≡ made (if is_committed && not (false && is_empty implied) then Some p else None) (if is_committed && not (true && is_empty implied) then Some p else None)
  of_place true p implied = refl
  of_place false p implied = refl

  pub call_found : (b : Insts) (p : ℕ) (xs implied : List ℕ) (has_implied : Bool) (r : Misplaced) → has_implied ≡ not (is_empty implied) → r ≡ of_call (procs p).det.committed has_implied p → r ≡ found_in_part procs b (Call p xs implied false)
  call_found b p xs implied h r eh e =
      e
      ∙ ap (λ (i : Bool). of_call (procs p).det.committed i p) eh
      ∙ of_place (procs p).det.committed p implied

  -- a condition, and what stands behind it
  condition_is : (b : Insts) (c : Node) (seen sure : Bool) → of_condition seen sure (found_in procs b c) ≡ made (misplaced procs b (not seen || (false && sure)) c) (misplaced procs b (not seen || (true && sure)) c)
  condition_is b c true true = refl
  condition_is b c true false = refl
  condition_is b c false sure = refl

  pub ite_found : (point : List ℕ) (vs : List ℕ) (c t e : GoalNode) (first second third r : Misplaced) → first ≡ of_condition (list_any (binds point c.changes) (variables_of_node (plain_node t))) (not (fails (plain_node t))) (found_in procs (insts_in point) (plain_node c)) → second ≡ found_in procs (insts_after (plain_node c) (insts_in point)) (plain_node t) → third ≡ found_in procs (insts_in point) (plain_node e) → r ≡ both first (both second third) → r ≡ found_in_part procs (insts_in point) (Ite vs (plain_node c) (plain_node t) (plain_node e))
  ite_found point vs c t e first second third r ef es et er =
      let b = insts_in point in
      let n = plain_node c in
      let sure = not (fails (plain_node t)) in
      er
      ∙ ap₂ both
      (ef
      ∙ ap (λ (s : Bool). of_condition s sure (found_in procs b n)) (one_bound point c (variables_of_node (plain_node t)))
      ∙ condition_is b n (binds_one (variables_of_node (plain_node t)) b (insts_after n b)) sure)
      (ap₂ both es et)
