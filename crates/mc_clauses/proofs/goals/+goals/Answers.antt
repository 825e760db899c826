use Rattle.std.proofs.Common.{◌≡◌, ◌∙◌, ◌≤◌, ◌++◌, ◌∷◌, [], List, ap, sym, refl, subst, drop, arith, rules, ◌+◌}
use denote.Param.Weighed.{most, most-append, at_most}
use Rattle.std.proofs.lemmas.List.{drop_more, drop_all}
use Rattle.mc_term_data.specs.Plain.{plain_term}
use Rattle.mc_term_data.specs.declared.term.Term.{Term, size-Term}
use Rattle.mc_accepted.specs.Resolving.{Unresolved_goal, all_of, one_of, negation, exists, no_goals}
use Rattle.mc_names.specs.Linked.{plain_names}
use Rattle.mc_unresolved.specs.declared.goal.UnresolvedGoal.{UnresolvedGoal, AllOf, OneOf}
use Rattle.mc_unresolved.proofs.Views.{plain-AllOf}
use Rattle.mc_unresolved.specs.Unresolved.{plain_unresolved_goal}
use Rattle.mc_clauses.specs.Unresolved.{Goal, made, under, conjuncts, either, not_implied, two_goals}
use Rattle.mc_clauses.specs.declared.view.GoalView.TheVariants as V
use Rattle.mc_clauses.specs.code.Views.{viewed}
use Rattle.mc_clauses.specs.code.GoalWalks.{the_goal, the_goals, goal_row, plain_chosen, equation_walk, Passed}
use Rattle.mc_clauses.proofs.Walks.{walked-made, walked-on, walked-both, walked-under}
use Rattle.mc_clauses.proofs.Making.{walked-view, walked-denied, none-all, none-one, walked-choice, chosen-bare, chosen-under, denied-bare, unconditional}
use Rattle.mc_clauses.proofs.Disjunctions.{goals-none, goals-more, goals-all, passed-none, passed-all, passes-conditional, passes-goal, passes-last}
use Rattle.mc_clauses.proofs.goals.+goals.Goals as goal

last_most : (ts front : List Term) (last : Term) → ts ≡ front ++ last ∷ [] → size-Term last ≤ most size-Term ts
last_most ts front last e = let m : most size-Term ts ≡ most size-Term (front ++ last ∷ []) = ap (most size-Term) e in omega (arith, m, most-append size-Term front (last ∷ []))

front_most : (ts front : List Term) (last : Term) → ts ≡ front ++ last ∷ [] → most size-Term front ≤ most size-Term ts
front_most ts front last e = let m : most size-Term ts ≡ most size-Term (front ++ last ∷ []) = ap (most size-Term) e in omega (arith, m, most-append size-Term front (last ∷ []))

pub goal-returns-in-True : goal.goal-returns-in-True
goal-returns-in-True t c =
    walked-view c.args.at.now c.args.whole.now c.view.result V.True c.args.variables.now c.args.variables.now (AllOf c.new.result) c.view.ensures.is c.in-True.is
    (walked-made plain_unresolved_goal (all_of no_goals) c.args.variables.now (AllOf c.new.result) (none-all c.new.result c.new.ensures))

pub goal-returns-in-Fail : goal.goal-returns-in-Fail
goal-returns-in-Fail t c =
    walked-view c.args.at.now c.args.whole.now c.view.result V.Fail c.args.variables.now c.args.variables.now (OneOf c.new-in-Fail.result) c.view.ensures.is c.in-Fail.is
    (walked-made plain_unresolved_goal (one_of no_goals) c.args.variables.now (OneOf c.new-in-Fail.result) (none-one c.new-in-Fail.result c.new-in-Fail.ensures))

pub goal-returns-in_ok-made-in-Conjunction : goal.goal-returns-in_ok-made-in-Conjunction
goal-returns-in_ok-made-in-Conjunction t c =
    let row = c.in_ok-made-in-Conjunction.made in
    walked-view c.args.at.now c.args.whole.now c.view.result (V.Conjunction c.in-Conjunction.parts) c.args.variables.now c.goals.new.variables (AllOf row) c.view.ensures.is c.in-Conjunction.is
    (walked-on goal_row plain_unresolved_goal all_of (conjuncts (the_goals c.args.at.now c.in-Conjunction.parts.now)) c.args.variables.now c.goals.new.variables row (AllOf row)
    c.in_ok-made-in-Conjunction.ensures (plain-AllOf row))

pub goal-returns-in_ok-made-in-Disjunction : goal.goal-returns-in_ok-made-in-Disjunction
goal-returns-in_ok-made-in-Disjunction t c =
    walked-view c.args.at.now c.args.whole.now c.view.result (V.Disjunction c.in-Disjunction.parts) c.args.variables.now c.disjunction.new.variables c.in_ok-made-in-Disjunction.made c.view.ensures.is c.in-Disjunction.is
    c.in_ok-made-in-Disjunction.ensures

pub goal-returns-in_ok-made-in-Conditional : goal.goal-returns-in_ok-made-in-Conditional
goal-returns-in_ok-made-in-Conditional t c =
    let at = c.args.at.now in
    let after = c.chosen.new.variables in
    let none = c.new-in-Conditional.result in
    walked-view at c.args.whole.now c.view.result (V.Conditional c.in-Conditional.condition c.in-Conditional.then_part) c.args.variables.now after c.in_ok-made-in-Conditional.made c.view.ensures.is c.in-Conditional.is
    (walked-choice (the_goal at c.in-Conditional.condition.now) (the_goal at c.in-Conditional.then_part.now) (made (one_of no_goals)) c.args.variables.now after after c.in_ok-chosen-in-Conditional.chosen (OneOf none) c.in_ok-made-in-Conditional.made
    c.in_ok-chosen-in-Conditional.ensures
    (walked-made plain_unresolved_goal (one_of no_goals) after (OneOf none) (none-one none c.new-in-Conditional.ensures))
    c.in_ok-made-in-Conditional.ensures)

pub goal-returns-in_ok-made-in-Negation : goal.goal-returns-in_ok-made-in-Negation
goal-returns-in_ok-made-in-Negation t c =
    let at = c.args.at.now in
    walked-view at c.args.whole.now c.view.result (V.Negation c.in-Negation.part) c.args.variables.now c.goal.new.variables c.in_ok-made-in-Negation.made c.view.ensures.is c.in-Negation.is
    (walked-on plain_unresolved_goal plain_unresolved_goal negation (the_goal at c.in-Negation.part.now).itself c.args.variables.now c.goal.new.variables c.in_ok-part-in-Negation.part c.in_ok-made-in-Negation.made
    c.in_ok-part-in-Negation.ensures c.in_ok-made-in-Negation.ensures)

pub goal-returns-in_ok-made-in-Existential : goal.goal-returns-in_ok-made-in-Existential
goal-returns-in_ok-made-in-Existential t c =
    walked-view c.args.at.now c.args.whole.now c.view.result (V.Existential c.in-Existential.list c.in-Existential.part) c.args.variables.now c.existential.new.variables c.in_ok-made-in-Existential.made c.view.ensures.is c.in-Existential.is
    c.in_ok-made-in-Existential.ensures

pub goal-returns-in_ok-made-in-Universal : goal.goal-returns-in_ok-made-in-Universal
goal-returns-in_ok-made-in-Universal t c =
    walked-view c.args.at.now c.args.whole.now c.view.result (V.Universal c.in-Universal.list c.in-Universal.part) c.args.variables.now c.universal.new.variables c.in_ok-made-in-Universal.made c.view.ensures.is c.in-Universal.is
    c.in_ok-made-in-Universal.ensures

pub goal-returns-in_ok-made-in-Implication : goal.goal-returns-in_ok-made-in-Implication
goal-returns-in_ok-made-in-Implication t c =
    let at = c.args.at.now in
    walked-view at c.args.whole.now c.view.result (V.Implication c.in-Implication.left c.in-Implication.right) c.args.variables.now c.not_implied.new.variables c.in_ok-made-in-Implication.made c.view.ensures.is c.in-Implication.is
    (walked-on plain_unresolved_goal plain_unresolved_goal negation (not_implied (the_goal at c.in-Implication.left.now) (the_goal at c.in-Implication.right.now)) c.args.variables.now c.not_implied.new.variables c.in_ok-denied-in-Implication.denied c.in_ok-made-in-Implication.made
    c.in_ok-denied-in-Implication.ensures c.in_ok-made-in-Implication.ensures)

pub goal-returns-in_ok-made-in-Unification : goal.goal-returns-in_ok-made-in-Unification
goal-returns-in_ok-made-in-Unification t c =
    walked-view c.args.at.now c.args.whole.now c.view.result (V.Unification c.in-Unification.left c.in-Unification.right) c.args.variables.now c.equation.new.variables c.in_ok-made-in-Unification.made c.view.ensures.is c.in-Unification.is
    c.in_ok-made-in-Unification.ensures

pub goal-returns-in_ok-made-in-Disunification : goal.goal-returns-in_ok-made-in-Disunification
goal-returns-in_ok-made-in-Disunification t c =
    let at = c.args.at.now in
    let after = c.equation-in-Disunification.new.variables in
    walked-view at c.args.whole.now c.view.result (V.Disunification c.in-Disunification.left c.in-Disunification.right) c.args.variables.now after c.in_ok-made-in-Disunification.made c.view.ensures.is c.in-Disunification.is
    (walked-on plain_unresolved_goal plain_unresolved_goal negation (equation_walk at c.in-Disunification.left.now c.in-Disunification.right.now) c.args.variables.now after c.in_ok-equation-in-Disunification.equation c.in_ok-made-in-Disunification.made
    c.in_ok-equation-in-Disunification.ensures c.in_ok-made-in-Disunification.ensures)

pub goal-returns-in_ok-made-in-Call : goal.goal-returns-in_ok-made-in-Call
goal-returns-in_ok-made-in-Call t c =
    walked-view c.args.at.now c.args.whole.now c.view.result (V.Call c.in-Call.name c.in-Call.args) c.args.variables.now c.call.new.variables c.in_ok-made-in-Call.made c.view.ensures.is c.in-Call.is
    c.in_ok-made-in-Call.ensures

-- GOALS ONE BEHIND ANOTHER

pub goals-loop-one-init : goal.goals-loop-one-init
goals-loop-one-init t c q m k =
    rw c.in_ok-made.ensures.items (goals-none c.args.at.now q m c.args.goals.now c.args.variables.now k)

pub goals-loop-one-preserved : goal.goals-loop-one-preserved
goals-loop-one-preserved t c q m k =
    let i = c.loop-one.invariant q m k in
    let split : drop c.loop-one.one-index c.args.goals.now ≡ c.one-item.result ∷ drop (c.loop-one.one-index + 1) c.args.goals.now =
    drop_more c.args.goals.now c.loop-one.one-index c.one-item.result c.loop-one-test.true
    ∙ ap (λ x. x ∷ drop (c.loop-one.one-index + 1) c.args.goals.now) (sym c.one-item.is) in
    rw c.in_ok-push.ensures.items
    (goals-more c.args.at.now q m c.args.goals.now (drop (c.loop-one.one-index + 1) c.args.goals.now) c.one-item.result c.loop-one.made.items c.in_ok-goal.field-0 c.loop-one.variables c.goal.new.variables
    (rw (← split) i) c.in_ok-goal.ensures)

pub goals-returns : goal.goals-returns
goals-returns t c q m k =
    let i = c.loop-one.invariant q m k in
    rw c.in_ok-row.ensures.elements
    (goals-all c.args.at.now q m c.args.goals.now c.loop-one.made.items c.loop-one.variables
    (rw (← drop_all c.loop-one.one-index c.args.goals.now c.loop-one-test.false) i))

-- WHAT IS DENIED

pub denied-returns-in_ok-made-in-Implication : goal.denied-returns-in_ok-made-in-Implication
denied-returns-in_ok-made-in-Implication t c =
    walked-denied c.args.at.now c.args.whole.now c.view.result (V.Implication c.in-Implication.left c.in-Implication.right) c.args.variables.now c.not_implied.new.variables c.in_ok-made-in-Implication.made c.view.ensures.is c.in-Implication.is
    c.in_ok-made-in-Implication.ensures

pub not_implied-returns : goal.not_implied-returns
not_implied-returns t c =
    let at = c.args.at.now in
    walked-both plain_unresolved_goal plain_unresolved_goal plain_unresolved_goal (λ x y. all_of (two_goals x (negation y))) (the_goal at c.args.left.now).itself (the_goal at c.args.right.now).itself
    c.args.variables.now c.goal.new.variables c.goal-2.new.variables c.in_ok-left.left c.in_ok-right.right c.in_ok-made.made
    c.in_ok-left.ensures c.in_ok-right.ensures
    (c.in_ok-made.ensures ∙ ap (λ (y : Unresolved_goal). all_of (two_goals (plain_unresolved_goal c.in_ok-left.left) y)) c.in_ok-denied.ensures)

pub denied-returns-in_ok-denied-in_default : goal.denied-returns-in_ok-denied-in_default
denied-returns-in_ok-denied-in_default t c =
    denied-bare c.args.at.now c.args.whole.now c.view.result c.args.variables.now c.goal.new.variables c.in_ok-made-in_default.made c.in_ok-denied-in_default.denied
    c.view.ensures.is c.in_default.not-Implication c.in_ok-made-in_default.ensures c.in_ok-denied-in_default.ensures

-- QUANTIFIERS

pub existential-returns : goal.existential-returns
existential-returns t c =
    walked-under plain_unresolved_goal plain_unresolved_goal (plain_term c.args.list.now) exists (the_goal c.args.at.now c.args.part.now).itself
    c.args.variables.now c.enter.new.self c.goal.new.variables c.leave.new.self c.in_ok-inner.inner c.in_ok-part.part c.in_ok-made.made
    c.in_ok-inner.ensures c.in_ok-part.ensures c.in_ok-leave.ensures c.in_ok-made.ensures

pub universal-returns : goal.universal-returns
universal-returns t c =
    let denied = (the_goal c.args.at.now c.args.part.now).denied in
    walked-on plain_unresolved_goal plain_unresolved_goal negation (under (plain_term c.args.list.now) exists denied) c.args.variables.now c.leave.new.self c.in_ok-denied.denied c.in_ok-made.made
    (walked-under plain_unresolved_goal plain_unresolved_goal (plain_term c.args.list.now) exists denied
    c.args.variables.now c.enter.new.self c.denied.new.variables c.leave.new.self c.in_ok-inner.inner c.in_ok-part.part c.in_ok-denied.denied
    c.in_ok-inner.ensures c.in_ok-part.ensures c.in_ok-leave.ensures c.in_ok-denied.ensures)
    c.in_ok-made.ensures

-- CONDITIONS

pub chosen-returns-in_ok-vars-in-Existential : goal.chosen-returns-in_ok-vars-in-Existential
chosen-returns-in_ok-vars-in-Existential t c =
    let at = c.args.at.now in
    let a = c.in_ok-condition-in-Existential.condition in
    let b = c.in_ok-then_part-in-Existential.then_part in
    chosen-under at c.args.condition.now c.in-Existential.list c.in-Existential.part (the_goal at c.args.then_part.now) c.view.result
    c.args.variables.now c.enter.new.self c.goal.new.variables c.goal-in-Existential.new.variables c.leave.new.self c.in_ok-inner-in-Existential.inner a b _
    c.view.ensures.is c.in-Existential.is c.in_ok-inner-in-Existential.ensures c.in_ok-condition-in-Existential.ensures c.in_ok-then_part-in-Existential.ensures c.in_ok-leave-in-Existential.ensures
    (ap (λ vs. (vs, (plain_unresolved_goal a, plain_unresolved_goal b))) c.in_ok-vars-in-Existential.ensures.elements)

pub chosen-returns-in_ok-then_part-in_default : goal.chosen-returns-in_ok-then_part-in_default
chosen-returns-in_ok-then_part-in_default t c =
    let at = c.args.at.now in
    let a = c.in_ok-condition-in_default.condition in
    let b = c.in_ok-then_part-in_default.then_part in
    chosen-bare at c.args.condition.now (the_goal at c.args.then_part.now) c.view.result
    c.args.variables.now c.goal-in_default.new.variables c.goal-in_default-2.new.variables a b _
    c.view.ensures.is c.in_default.not-Existential c.in_ok-condition-in_default.ensures c.in_ok-then_part-in_default.ensures
    (ap (λ vs. (vs, (plain_unresolved_goal a, plain_unresolved_goal b))) c.new.ensures)

-- DISJUNCTS

pub disjunct-returns-in_ok-begin-in-Conditional : goal.disjunct-returns-in_ok-begin-in-Conditional
disjunct-returns-in_ok-begin-in-Conditional t c others =
    let at = c.args.at.now in
    let names = plain_names at.names.now in
    passes-conditional at c.args.first.now others (the_goal at c.in-Conditional.condition.now) (the_goal at c.in-Conditional.then_part.now)
    c.args.unclosed.now c.begin.new.self c.args.variables.now c.chosen.new.variables c.in_ok-chosen-in-Conditional.chosen
    (c.view.ensures.is names at.own ∙ ap (viewed names at.own) c.in-Conditional.is)
    c.in_ok-chosen-in-Conditional.ensures c.in_ok-begin-in-Conditional.ensures.around c.in_ok-begin-in-Conditional.ensures.made

pub disjunct-returns-in_ok-push-in_default : goal.disjunct-returns-in_ok-push-in_default
disjunct-returns-in_ok-push-in_default t c others =
    let at = c.args.at.now in
    let names = plain_names at.names.now in
    passes-goal at c.args.first.now others c.args.unclosed.now _ c.args.variables.now c.goal.new.variables c.in_ok-made-in_default.made
    (ap (λ (g : Goal). g.is_conditional) (c.view.ensures.is names at.own) ∙ unconditional names at.own c.view.result c.in_default.not-Conditional)
    c.in_ok-made-in_default.ensures refl c.in_ok-push-in_default.ensures.items

pub last_disjunct-returns-in_ok-begin-in-Disjunction-clause-passed : goal.last_disjunct-returns-in_ok-begin-in-Disjunction-clause-passed
last_disjunct-returns-in_ok-begin-in-Disjunction-clause-passed t c =
    let at = c.args.at.now in
    let names = plain_names at.names.now in
    passes-last at c.args.last.now c.in-Disjunction.parts.now c.args.unclosed.now c.begin.new.self c.args.variables.now
    (c.view.ensures.is names at.own ∙ ap (viewed names at.own) c.in-Disjunction.is)
    c.in_ok-begin-in-Disjunction.ensures.around c.in_ok-begin-in-Disjunction.ensures.made

pub last_disjunct-returns-in_ok-disjunct-in_default-clause-passed : goal.last_disjunct-returns-in_ok-disjunct-in_default-clause-passed
last_disjunct-returns-in_ok-disjunct-in_default-clause-passed t c = c.in_ok-disjunct-in_default.ensures []

pub disjunction-loop-last-init : goal.disjunction-loop-last-init
disjunction-loop-last-init t c =
    record {
      passed = λ q m k. passed-none c.args.at.now q m c.args.disjuncts.now c.new-unclosed.result c.args.variables.now c.new-unclosed.ensures.around c.new-unclosed.ensures.made k;
      below = omega arith;
    }

pub disjunction-loop-first-init : goal.disjunction-loop-first-init
disjunction-loop-first-init t c q m k =
    let all = (either (the_goals c.args.at.now c.args.disjuncts.now)).itself in
    subst (λ ts. Passed c.args.at.now all q m c.loop-last.unclosed ts c.loop-last.variables) c.in-Some.ensures (c.loop-last.invariant.passed q m k)

pub disjunction-disjunct-requires : goal.disjunction-disjunct-requires
disjunction-disjunct-requires t c =
    let d = c.decreases in
    let front = c.in-Some.front.now in
    let within = front_most c.loop-last.rest.now front c.in-Some.last.now c.in-Some.ensures in
    let one = at_most size-Term front c.loop-first.first-index c.first-item.result c.loop-first-test.true in
    let same = ap size-Term c.first-item.is in
    (omega (arith, within, one, same, c.loop-last.invariant.below), tt)

pub disjunction-last_disjunct-requires : goal.disjunction-last_disjunct-requires
disjunction-last_disjunct-requires t c =
    let d = c.decreases in
    let lower = last_most c.loop-last.rest.now c.in-Some.front.now c.in-Some.last.now c.in-Some.ensures in
    (omega (arith, lower, c.loop-last.invariant.below), tt)

pub disjunction-loop-first-preserved : goal.disjunction-loop-first-preserved
disjunction-loop-first-preserved t c q m k =
    let all = (either (the_goals c.args.at.now c.args.disjuncts.now)).itself in
    let front = c.in-Some.front.now in
    let last = c.in-Some.last.now in
    let i = c.loop-first.first-index in
    let split : drop i front ≡ c.first-item.result ∷ drop (i + 1) front =
    drop_more front i c.first-item.result c.loop-first-test.true
    ∙ ap (λ x. x ∷ drop (i + 1) front) (sym c.first-item.is) in
    c.in_ok-disjunct.ensures (drop (i + 1) front ++ last ∷ []) all q m
    (subst (λ ts. Passed c.args.at.now all q m c.loop-first.unclosed (ts ++ last ∷ []) c.loop-first.variables) split (c.loop-first.invariant q m k))

pub disjunction-loop-last-preserved : goal.disjunction-loop-last-preserved
disjunction-loop-last-preserved t c =
    let all = (either (the_goals c.args.at.now c.args.disjuncts.now)).itself in
    let front = c.in-Some.front.now in
    let last = c.in-Some.last.now in
    let none : drop c.loop-first.first-index front ≡ [] = drop_all c.loop-first.first-index front c.loop-first-test.false in
    let lower = last_most c.loop-last.rest.now front last c.in-Some.ensures in
    record {
      passed = λ q m k.
          c.in_ok-rest.ensures.passed all q m
          (subst (λ ts. Passed c.args.at.now all q m c.loop-first.unclosed (ts ++ last ∷ []) c.loop-first.variables) none (c.loop-first.invariant q m k));
      below = omega (arith, lower, c.in_ok-rest.ensures.smaller, c.loop-last.invariant.below);
    }

pub disjunction-loop-last-smaller : goal.disjunction-loop-last-smaller
disjunction-loop-last-smaller t c =
    let lower = last_most c.loop-last.rest.now c.in-Some.front.now c.in-Some.last.now c.in-Some.ensures in
    omega (arith, lower, c.in_ok-rest.ensures.smaller)

pub disjunction-returns : goal.disjunction-returns
disjunction-returns t c q m k =
    let all = (either (the_goals c.args.at.now c.args.disjuncts.now)).itself in
    let none : c.loop-last.rest.now ≡ [] = search rules in
    passed-all c.args.at.now q m all c.loop-last.unclosed c.loop-last.variables c.in_ok-made.made
    (subst (λ ts. Passed c.args.at.now all q m c.loop-last.unclosed ts c.loop-last.variables) none (c.loop-last.invariant.passed q m k)) c.in_ok-made.ensures
