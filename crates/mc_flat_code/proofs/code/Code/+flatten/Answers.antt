use Rattle.std.proofs.Common.{◌≡◌, inl, inr, ◌-◌, ◌+◌, sym, ap, ◌∙◌, subst, ℕ, List, [], ◌∷◌, ◌++◌, length, length-append, take, get_or, map, append_assoc, false, arith}
use Rattle.mc_program.specs.Values.{plain_value}
use Rattle.mc_model.specs.Scheduled.{node, nodes, Disj, Switch, Ite, Not, Call, Arms}
use Rattle.mc_model.specs.PlainGoals.{plain_node, plain_sched, plain_arm, arms_of}
use Rattle.mc_model.specs.declared.sched.GoalNode.{GoalNode}
use Rattle.mc_model.specs.declared.sched.Arm.{Arm}
use Rattle.mc_flat_code.specs.Running.{EachBelow}
use Rattle.mc_flat_code.specs.Standing.{At, Chain, Stands, StandsOf, StandsEach, StandsArms}
use Rattle.mc_flat_code.specs.Mentions.{Mention, of_symbol, of_constant, Mentions, MentionsIn, AnyMentions, ArmsMention}
use Rattle.mc_flat_code.specs.code.Building.{Grows, Laid, IsChosen}
use Rattle.mc_flat_code.specs.code.Mentioning.{Nothing}
use Rattle.mc_flat_code.specs.declared.code.Instr.TheVariants as I
use Rattle.mc_flat_code.specs.declared.code.Code.{Code}
use Rattle.mc_flat_code.proofs.Growth.{grows_then, stands_grows, of_grows, all_grows, each_grows, arms_grow, continues_length}
use Rattle.mc_flat_code.proofs.Building.{ok_laid_after, ok_by}
use Rattle.mc_flat_code.proofs.PlaceLists.{below_both, below_more, by_last}
use Rattle.mc_flat_code.proofs.Mentioning.{brings_then, on_brings, on_more, goal_mentions, arm_mentions, last_mentions}
use Rattle.mc_flat_code.proofs.Views.{node_open, conj_open, disj_open, switch_open, ite_open, not_open, some_open, take_open, test_const_open, call_open}
use Rattle.mc_flat_code.proofs.Goals.{each_step, each_whole, arms_step, arms_whole}
use Rattle.mc_flat_code.proofs.code.Code.+flatten.Goals as goal

pub conjunction-loop-rest-preserved : goal.conjunction-loop-rest-preserved
conjunction-loop-rest-preserved t c =
    let xs : List GoalNode = c.loop-rest.rest.now in
    let old = c.loop-rest.invariant.stands in
    let new : Code = c.node.new.self in
    let last : GoalNode = get_or xs (length xs - 1) c.last-item.result in
    record {
      grows = grows_then c.args.self.now c.loop-rest.self new c.loop-rest.invariant.grows c.in_ok-place.ensures.laid.grows;
      is_code = c.in_ok-place.ensures.laid.is_code;
      within = c.in_ok-place.ensures.laid.within;
      stands = (
        last ∷ old.0,
        (
          old.1.0 ∙ ap (λ l. l ++ old.0) (by_last xs c.last-item.result c.in-len1-up.len_at_least) ∙ append_assoc (take (length xs - 1) xs) (last ∷ []) old.0,
          (c.loop-rest.place, (subst (λ (g : GoalNode). Stands new (plain_node g) c.loop-rest.place c.in_ok-place.place) c.last-item.is c.in_ok-place.ensures.stands, all_grows c.loop-rest.self new c.in_ok-place.ensures.laid.grows (nodes (map plain_node old.0)) c.args.next c.loop-rest.place old.1.1)),
        ),
      );
      brings =
          brings_then c.args.self.now c.loop-rest.self new (AnyMentions (nodes (map plain_node c.args.goals.now))) (Mentions (plain_node c.last-item.result)) (AnyMentions (nodes (map plain_node c.args.goals.now))) c.loop-rest.invariant.brings c.in_ok-place.ensures.brings (λ m x. x)
          (λ m x. last_mentions c.args.goals.now xs old.0 c.last-item.result m old.1.0 c.in-len1-up.len_at_least (subst (λ (g : GoalNode). Mentions (plain_node g) m) c.last-item.is x));
    }

pub disjunction-loop-goal-preserved : goal.disjunction-loop-goal-preserved
disjunction-loop-goal-preserved t c =
    let new : Code = c.node.new.self in
    let n : ℕ = length new.instrs.items in
    let ps : List ℕ = c.loop-goal.places.items in
    let g : Grows c.loop-goal.self new = c.in_ok-node.ensures.laid.grows in
    record {
      grows = grows_then c.args.self.now c.loop-goal.self new c.loop-goal.invariant.grows g;
      is_code = c.in_ok-node.ensures.laid.is_code;
      below = subst (EachBelow n) (sym c.in_ok-push.ensures.items) (below_both n ps (c.in_ok-node.field-0 ∷ []) (below_more (length c.loop-goal.self.instrs.items) n (continues_length c.loop-goal.self.instrs.items new.instrs.items g.instrs) ps c.loop-goal.invariant.below) (c.in_ok-node.ensures.laid.within, tt));
      stands =
          subst (StandsEach new (nodes (map plain_node (take (c.loop-goal.goal-index + 1) c.args.goals.now))) c.args.next) (sym c.in_ok-push.ensures.items)
          (each_step new c.args.goals.now c.loop-goal.goal-index c.goal-item.result c.args.next ps c.in_ok-node.field-0 c.loop-goal-test.true
          (each_grows c.loop-goal.self new g (nodes (map plain_node (take c.loop-goal.goal-index c.args.goals.now))) c.args.next ps c.loop-goal.invariant.stands)
          (subst (λ (g : GoalNode). Stands new (plain_node g) c.args.next c.in_ok-node.field-0) c.goal-item.is c.in_ok-node.ensures.stands));
      brings =
          brings_then c.args.self.now c.loop-goal.self new (AnyMentions (nodes (map plain_node c.args.goals.now))) (Mentions (plain_node c.goal-item.result)) (AnyMentions (nodes (map plain_node c.args.goals.now))) c.loop-goal.invariant.brings c.in_ok-node.ensures.brings (λ m x. x)
          (λ m x. goal_mentions c.args.goals.now c.loop-goal.goal-index c.goal-item.result m c.loop-goal-test.true (subst (λ (g : GoalNode). Mentions (plain_node g) m) c.goal-item.is x));
    }

pub disjunction-returns-clause-laid : goal.disjunction-returns-clause-laid
disjunction-returns-clause-laid t c =
    ok_laid_after c.args.self.now c.loop-goal.self c.choice.new.self c.choice.result c.loop-goal.invariant.grows c.choice.ensures.laid

pub disjunction-returns-clause-stands : goal.disjunction-returns-clause-stands
disjunction-returns-clause-stands t c =
    let new : Code = c.choice.new.self in
    let ps : List ℕ = c.loop-goal.places.items in
    ok_by c.choice.result (λ place. Laid c.loop-goal.self new place) (λ place. Chain new c.as_slice.result.now place) (λ place. StandsOf new (Disj (nodes (map plain_node c.args.goals.now))) c.args.next place) c.choice.ensures.laid c.choice.ensures.chain
    (λ place l h. (
      ps,
      (
        each_grows c.loop-goal.self new l.grows (nodes (map plain_node c.args.goals.now)) c.args.next ps
            (each_whole c.loop-goal.self c.args.goals.now c.loop-goal.goal-index c.args.next ps (omega arith) c.loop-goal.invariant.stands),
        subst (λ qs. Chain new qs place) c.as_slice.ensures.value h,
      ),
    ))

pub negation-returns-clause-stands : goal.negation-returns-clause-stands
negation-returns-clause-stands t c =
    let new : Code = c.add.new.self in
    ok_by c.add.result (λ place. Laid c.node.new.self new place) (λ place. At new place (I.Not c.in_ok-inner.inner c.args.next)) (λ place. StandsOf new (Not (plain_node c.args.goal.now)) c.args.next place) c.add.ensures.laid c.add.ensures.at
    (λ place l at.
    (c.in_ok-inner.inner, (at, stands_grows c.node.new.self new l.grows (plain_node c.args.goal.now) 0 c.in_ok-inner.inner c.in_ok-inner.ensures.stands)))

pub node-returns-then-is_left-clause-stands : goal.node-returns-then-is_left-clause-stands
node-returns-then-is_left-clause-stands t c =
    let new : Code = c.add.new.self in
    let g : GoalNode = c.args.goal.now in
    ok_by c.add.result (λ place. Laid c.scheduled.new.self new place) (λ place. At new place (I.Once c.in_ok-inner.inner c.args.next)) (λ place. Stands new (plain_node g) c.args.next place) c.add.ensures.laid c.add.ensures.at
    (λ place l at.
    subst (λ n. Stands new n c.args.next place) (sym (node_open g ∙ ap (λ b. node (plain_sched g.goal) g.changes g.det b) (c.is_left.ensures.yes c.if-is_left.true)))
    (inl (c.in_ok-inner.inner, (at, of_grows c.scheduled.new.self new l.grows (plain_sched g.goal) 0 c.in_ok-inner.inner c.in_ok-inner.ensures.stands))))

pub scheduled-returns-in_ok-else_part-in-Ite-clause-stands : goal.scheduled-returns-in_ok-else_part-in-Ite-clause-stands
scheduled-returns-in_ok-else_part-in-Ite-clause-stands t c =
    let one : Code = c.node.new.self in
    let two : Code = c.node-in-Ite.new.self in
    let three : Code = c.node-in-Ite-2.new.self in
    let new : Code = c.add.new.self in
    let a : ℕ = c.in_ok-condition-in-Ite.condition in
    let b : ℕ = c.in_ok-then_part-in-Ite.then_part in
    let d : ℕ = c.in_ok-else_part-in-Ite.else_part in
    ok_by c.add.result (λ place. Laid three new place) (λ place. At new place (I.If a b d)) (λ place. StandsOf new (plain_sched c.args.goal.now) c.args.next place) c.add.ensures.laid c.add.ensures.at
    (λ place l at.
    let last : Grows two new = grows_then two three new c.in_ok-else_part-in-Ite.ensures.laid.grows l.grows in
    subst (λ s. StandsOf new s c.args.next place) (sym (ap plain_sched c.in-Ite.is ∙ ite_open c.in-Ite.field-0 c.in-Ite.condition c.in-Ite.then_part c.in-Ite.else_part)) (
      a,
      b,
      d,
      (
        at,
        stands_grows one new (grows_then one two new c.in_ok-then_part-in-Ite.ensures.laid.grows last) (plain_node c.in-Ite.condition.value) 0 a (subst (λ (g : GoalNode). Stands one (plain_node g) 0 a) c.deref.ensures c.in_ok-condition-in-Ite.ensures.stands),
        stands_grows two new last (plain_node c.in-Ite.then_part.value) c.args.next b (subst (λ (g : GoalNode). Stands two (plain_node g) c.args.next b) c.deref-in-Ite.ensures c.in_ok-then_part-in-Ite.ensures.stands),
        stands_grows three new l.grows (plain_node c.in-Ite.else_part.value) c.args.next d (subst (λ (g : GoalNode). Stands three (plain_node g) c.args.next d) c.deref-in-Ite-2.ensures c.in_ok-else_part-in-Ite.ensures.stands),
      ),
    ))

pub scheduled-returns-in-Call-clause-stands : goal.scheduled-returns-in-Call-clause-stands
scheduled-returns-in-Call-clause-stands t c =
    let new : Code = c.call.new.self in
    ok_by c.call.result (λ place. Laid c.args.self.now new place) (λ place. (implied : List ℕ) → StandsOf new (Call c.in-Call.procedure c.as_slice-in-Call.result.now implied false) c.args.next place) (λ place. StandsOf new (plain_sched c.args.goal.now) c.args.next place) c.call.ensures.laid c.call.ensures.stands
    (λ place l h.
    subst (λ s. StandsOf new s c.args.next place) (sym (ap plain_sched c.in-Call.is ∙ call_open c.in-Call.procedure c.in-Call.args c.in-Call.field-2))
    (subst (λ xs. StandsOf new (Call c.in-Call.procedure xs c.in-Call.field-2 false) c.args.next place) c.as_slice-in-Call.ensures.items (h c.in-Call.field-2)))

pub switch-loop-arm-preserved : goal.switch-loop-arm-preserved
switch-loop-arm-preserved t c =
    let new : Code = c.node.new.self in
    let n : ℕ = length new.instrs.items in
    let ps : List ℕ = c.loop-arm.places.items in
    let g : Grows c.loop-arm.self new = c.in_ok-node.ensures.laid.grows in
    record {
      grows = grows_then c.args.self.now c.loop-arm.self new c.loop-arm.invariant.grows g;
      is_code = c.in_ok-node.ensures.laid.is_code;
      below = subst (EachBelow n) (sym c.in_ok-push.ensures.items) (below_both n ps (c.in_ok-node.field-0 ∷ []) (below_more (length c.loop-arm.self.instrs.items) n (continues_length c.loop-arm.self.instrs.items new.instrs.items g.instrs) ps c.loop-arm.invariant.below) (c.in_ok-node.ensures.laid.within, tt));
      count = omega (arith, ap length c.in_ok-push.ensures.items, length-append ps (c.in_ok-node.field-0 ∷ []));
      stands =
          subst (StandsArms new (arms_of (map plain_arm (take (c.loop-arm.arm-index + 1) c.args.arms.now))) c.args.next) (sym c.in_ok-push.ensures.items)
          (arms_step new c.args.arms.now c.loop-arm.arm-index c.arm-item.result c.args.next ps c.in_ok-node.field-0 c.loop-arm-test.true
          (arms_grow c.loop-arm.self new g (arms_of (map plain_arm (take c.loop-arm.arm-index c.args.arms.now))) c.args.next ps c.loop-arm.invariant.stands)
          (subst (λ (a : Arm). Stands new (plain_node a.body) c.args.next c.in_ok-node.field-0) c.arm-item.is c.in_ok-node.ensures.stands));
      brings =
          brings_then c.args.self.now c.loop-arm.self new (ArmsMention (arms_of (map plain_arm c.args.arms.now))) (Mentions (plain_node c.arm-item.result.body)) (ArmsMention (arms_of (map plain_arm c.args.arms.now))) c.loop-arm.invariant.brings c.in_ok-node.ensures.brings (λ m x. x)
          (λ m x. arm_mentions c.args.arms.now c.loop-arm.arm-index c.arm-item.result m c.loop-arm-test.true (subst (λ (a : Arm). Mentions (plain_node a.body) m) c.arm-item.is x));
    }

pub switch-returns-clause-laid : goal.switch-returns-clause-laid
switch-returns-clause-laid t c =
    ok_laid_after c.args.self.now c.loop-arm.self c.case.new.self c.case.result c.loop-arm.invariant.grows c.case.ensures.laid

pub switch-returns-clause-stands : goal.switch-returns-clause-stands
switch-returns-clause-stands t c =
    let new : Code = c.case.new.self in
    let ps : List ℕ = c.loop-arm.places.items in
    let arms : Arms = arms_of (map plain_arm c.args.arms.now) in
    ok_by c.case.result (λ place. Laid c.loop-arm.self new place) (λ place. IsChosen new c.args.variable arms c.as_slice.result.now place) (λ place. StandsOf new (Switch c.args.variable arms) c.args.next place) c.case.ensures.laid c.case.ensures.chosen
    (λ place l h. (
      ps,
      (
        arms_grow c.loop-arm.self new l.grows arms c.args.next ps
            (arms_whole c.loop-arm.self c.args.arms.now c.loop-arm.arm-index c.args.next ps (omega arith) c.loop-arm.invariant.stands),
        subst (λ qs. IsChosen new c.args.variable arms qs place) c.as_slice.ensures.value h,
      ),
    ))

pub disjunction-returns-clause-brings : goal.disjunction-returns-clause-brings
disjunction-returns-clause-brings t c =
    let all : Mention → Type 0 = AnyMentions (nodes (map plain_node c.args.goals.now)) in
    on_brings c.choice.result c.args.self.now c.loop-goal.self c.choice.new.self all Nothing all c.loop-goal.invariant.brings c.choice.ensures.brings (λ m x. x) (λ m x. absurd x)

pub switch-returns-clause-brings : goal.switch-returns-clause-brings
switch-returns-clause-brings t c =
    let all : Mention → Type 0 = ArmsMention (arms_of (map plain_arm c.args.arms.now)) in
    on_brings c.case.result c.args.self.now c.loop-arm.self c.case.new.self all all all c.loop-arm.invariant.brings c.case.ensures.brings (λ m x. x) (λ m x. x)

pub negation-returns-clause-brings : goal.negation-returns-clause-brings
negation-returns-clause-brings t c =
    on_brings c.add.result c.args.self.now c.node.new.self c.add.new.self (Mentions (plain_node c.args.goal.now)) Nothing (Mentions (plain_node c.args.goal.now)) c.in_ok-inner.ensures.brings c.add.ensures.brings (λ m x. x) (λ m x. absurd x)

pub node-returns-then-is_left-clause-brings : goal.node-returns-then-is_left-clause-brings
node-returns-then-is_left-clause-brings t c =
    on_brings c.add.result c.args.self.now c.scheduled.new.self c.add.new.self (MentionsIn (plain_sched c.args.goal.now.goal)) Nothing (Mentions (plain_node c.args.goal.now)) c.in_ok-inner.ensures.brings c.add.ensures.brings
    (λ m x. subst (λ n. Mentions n m) (sym (node_open c.args.goal.now)) x) (λ m x. absurd x)

pub scheduled-returns-in_ok-else_part-in-Ite-clause-brings : goal.scheduled-returns-in_ok-else_part-in-Ite-clause-brings
scheduled-returns-in_ok-else_part-in-Ite-clause-brings t c =
    let all : Mention → Type 0 = MentionsIn (plain_sched c.args.goal.now) in
    let part : (m : Mention) → MentionsIn (Ite c.in-Ite.field-0 (plain_node c.in-Ite.condition.value) (plain_node c.in-Ite.then_part.value) (plain_node c.in-Ite.else_part.value)) m → all m = λ m x. subst (λ s. MentionsIn s m) (sym (ap plain_sched c.in-Ite.is ∙ ite_open c.in-Ite.field-0 c.in-Ite.condition c.in-Ite.then_part c.in-Ite.else_part)) x in
    on_brings c.add.result c.args.self.now c.node-in-Ite-2.new.self c.add.new.self all Nothing all
    (brings_then c.args.self.now c.node-in-Ite.new.self c.node-in-Ite-2.new.self all (Mentions (plain_node c.deref-in-Ite-2.result.now)) all
    (brings_then c.args.self.now c.node.new.self c.node-in-Ite.new.self (Mentions (plain_node c.deref.result.now)) (Mentions (plain_node c.deref-in-Ite.result.now)) all c.in_ok-condition-in-Ite.ensures.brings c.in_ok-then_part-in-Ite.ensures.brings
    (λ m x. part m (inl (subst (λ (g : GoalNode). Mentions (plain_node g) m) c.deref.ensures x)))
    (λ m x. part m (inr (inl (subst (λ (g : GoalNode). Mentions (plain_node g) m) c.deref-in-Ite.ensures x)))))
    c.in_ok-else_part-in-Ite.ensures.brings (λ m x. x)
    (λ m x. part m (inr (inr (subst (λ (g : GoalNode). Mentions (plain_node g) m) c.deref-in-Ite-2.ensures x)))))
    c.add.ensures.brings (λ m x. x) (λ m x. absurd x)

pub node-returns-clause-brings : goal.node-returns-clause-brings
node-returns-clause-brings t c =
    on_more c.scheduled-2.result c.args.self.now c.scheduled-2.new.self (MentionsIn (plain_sched c.args.goal.now.goal)) (Mentions (plain_node c.args.goal.now)) c.scheduled-2.ensures.brings
    (λ m x. subst (λ n. Mentions n m) (sym (node_open c.args.goal.now)) x)

pub scheduled-returns-in-Conj-clause-brings : goal.scheduled-returns-in-Conj-clause-brings
scheduled-returns-in-Conj-clause-brings t c =
    on_more c.conjunction.result c.args.self.now c.conjunction.new.self _ (MentionsIn (plain_sched c.args.goal.now)) c.conjunction.ensures.brings
    (λ m x. subst (λ s. MentionsIn s m) (sym (ap plain_sched c.in-Conj.is ∙ conj_open c.in-Conj.goals)) (subst (λ (gs : List GoalNode). AnyMentions (nodes (map plain_node gs)) m) c.as_slice.ensures.items x))

pub scheduled-returns-in-Disj-clause-brings : goal.scheduled-returns-in-Disj-clause-brings
scheduled-returns-in-Disj-clause-brings t c =
    on_more c.disjunction.result c.args.self.now c.disjunction.new.self _ (MentionsIn (plain_sched c.args.goal.now)) c.disjunction.ensures.brings
    (λ m x. subst (λ s. MentionsIn s m) (sym (ap plain_sched c.in-Disj.is ∙ disj_open c.in-Disj.goals)) (subst (λ (gs : List GoalNode). AnyMentions (nodes (map plain_node gs)) m) c.as_slice-in-Disj.ensures.items x))

pub scheduled-returns-in-Switch-clause-brings : goal.scheduled-returns-in-Switch-clause-brings
scheduled-returns-in-Switch-clause-brings t c =
    on_more c.switch.result c.args.self.now c.switch.new.self _ (MentionsIn (plain_sched c.args.goal.now)) c.switch.ensures.brings
    (λ m x. subst (λ s. MentionsIn s m) (sym (ap plain_sched c.in-Switch.is ∙ switch_open c.in-Switch.variable c.in-Switch.arms)) (subst (λ (as2 : List Arm). ArmsMention (arms_of (map plain_arm as2)) m) c.as_slice-in-Switch.ensures.items x))

pub scheduled-returns-in-Not-clause-brings : goal.scheduled-returns-in-Not-clause-brings
scheduled-returns-in-Not-clause-brings t c =
    on_more c.negation.result c.args.self.now c.negation.new.self _ (MentionsIn (plain_sched c.args.goal.now)) c.negation.ensures.brings
    (λ m x. subst (λ s. MentionsIn s m) (sym (ap plain_sched c.in-Not.is ∙ not_open c.in-Not.inner)) (subst (λ (g : GoalNode). Mentions (plain_node g) m) c.deref-in-Not.ensures x))

pub scheduled-returns-in-Some-clause-brings : goal.scheduled-returns-in-Some-clause-brings
scheduled-returns-in-Some-clause-brings t c =
    on_more c.node-in-Some.result c.args.self.now c.node-in-Some.new.self _ (MentionsIn (plain_sched c.args.goal.now)) c.node-in-Some.ensures.brings
    (λ m x. subst (λ s. MentionsIn s m) (sym (ap plain_sched c.in-Some.is ∙ some_open c.in-Some.field-0 c.in-Some.inner)) (subst (λ (g : GoalNode). Mentions (plain_node g) m) c.deref-in-Some.ensures x))

pub scheduled-returns-in-Assign-clause-brings : goal.scheduled-returns-in-Assign-clause-brings
scheduled-returns-in-Assign-clause-brings t c =
    on_more c.add-in-Assign.result c.args.self.now c.add-in-Assign.new.self Nothing (MentionsIn (plain_sched c.args.goal.now)) c.add-in-Assign.ensures.brings (λ m x. absurd x)

pub scheduled-returns-in-Test-clause-brings : goal.scheduled-returns-in-Test-clause-brings
scheduled-returns-in-Test-clause-brings t c =
    on_more c.add-in-Test.result c.args.self.now c.add-in-Test.new.self Nothing (MentionsIn (plain_sched c.args.goal.now)) c.add-in-Test.ensures.brings (λ m x. absurd x)

pub scheduled-returns-in-Take-clause-brings : goal.scheduled-returns-in-Take-clause-brings
scheduled-returns-in-Take-clause-brings t c =
    on_more c.made-in-Take.result c.args.self.now c.made-in-Take.new.self (λ m. m ≡ of_symbol c.in-Take.symbol) (MentionsIn (plain_sched c.args.goal.now)) c.made-in-Take.ensures.brings
    (λ m x. subst (λ s. MentionsIn s m) (sym (ap plain_sched c.in-Take.is ∙ take_open c.in-Take.variable c.in-Take.symbol c.in-Take.args)) (x))

pub scheduled-returns-in-TestConst-clause-brings : goal.scheduled-returns-in-TestConst-clause-brings
scheduled-returns-in-TestConst-clause-brings t c =
    on_more c.constant-in-TestConst.result c.args.self.now c.constant-in-TestConst.new.self (λ m. m ≡ of_constant (plain_value c.in-TestConst.value)) (MentionsIn (plain_sched c.args.goal.now)) c.constant-in-TestConst.ensures.brings
    (λ m x. subst (λ s. MentionsIn s m) (sym (ap plain_sched c.in-TestConst.is ∙ test_const_open c.in-TestConst.variable c.in-TestConst.value)) (x))

pub scheduled-returns-in-Call-clause-brings : goal.scheduled-returns-in-Call-clause-brings
scheduled-returns-in-Call-clause-brings t c =
    on_more c.call.result c.args.self.now c.call.new.self Nothing (MentionsIn (plain_sched c.args.goal.now)) c.call.ensures.brings (λ m x. absurd x)
