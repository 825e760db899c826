use Rattle.std.proofs.Common.{◌≡◌, ◌≤◌, ◌+◌, ◌*◌, ◌++◌, ◌∷◌, [], max, drop}
use denote.Param.Weighed.{most}
use Rattle.mc_term_data.specs.declared.term.Term.{size-Term}
use Rattle.mc_clauses.specs.Variables.{Numbers, Met}
use Rattle.mc_clauses.specs.Unresolved.{either}
use Rattle.mc_clauses.specs.code.Meanings.{Knows}
use Rattle.mc_clauses.specs.code.GoalWalks.{the_goals, GoalsTaken, Passed}
use Rattle.mc_clauses.proofs.goals.+goals.Given as goal

abbrev pub decreases-goal : goal.decreases-goal
decreases-goal l = 8 * size-Term l.whole.now

abbrev pub decreases-goals : goal.decreases-goals
decreases-goals l = 8 * most size-Term l.goals.now + 1

abbrev pub decreases-disjunction : goal.decreases-disjunction
decreases-disjunction l = 8 * most size-Term l.disjuncts.now + 5

abbrev pub decreases-last_disjunct : goal.decreases-last_disjunct
decreases-last_disjunct l = 8 * size-Term l.last.now + 4

abbrev pub decreases-disjunct : goal.decreases-disjunct
decreases-disjunct l = 8 * size-Term l.first.now + 3

abbrev pub decreases-chosen : goal.decreases-chosen
decreases-chosen l = 8 * max (size-Term l.condition.now) (size-Term l.then_part.now) + 2

abbrev pub decreases-existential : goal.decreases-existential
decreases-existential l = 8 * size-Term l.part.now + 2

abbrev pub decreases-universal : goal.decreases-universal
decreases-universal l = 8 * size-Term l.part.now + 2

abbrev pub decreases-denied : goal.decreases-denied
decreases-denied l = 8 * size-Term l.whole.now + 1

abbrev pub decreases-not_implied : goal.decreases-not_implied
decreases-not_implied l = 8 * max (size-Term l.left.now) (size-Term l.right.now) + 1

abbrev pub invariant-goals-loop-one : goal.invariant-goals-loop-one
invariant-goals-loop-one l =
    (q : Numbers) (m : Met) → Knows q m l.fn.variables → GoalsTaken l.at q m l.goals (drop l.one-index l.goals) l.made.items l.variables

abbrev pub invariant-disjunction-loop-last : goal.invariant-disjunction-loop-last
invariant-disjunction-loop-last l = record {
  passed : (q : Numbers) (m : Met) → Knows q m l.fn.variables → Passed l.at (either (the_goals l.at l.disjuncts)).itself q m l.unclosed l.rest l.variables;
  below : most size-Term l.rest ≤ most size-Term l.disjuncts;
}

abbrev pub decreases-disjunction-loop-last : goal.decreases-disjunction-loop-last
decreases-disjunction-loop-last l = most size-Term l.rest

abbrev pub invariant-disjunction-loop-first : goal.invariant-disjunction-loop-first
invariant-disjunction-loop-first l =
    (q : Numbers) (m : Met) → Knows q m l.fn.variables → Passed l.at (either (the_goals l.at l.disjuncts)).itself q m l.unclosed (drop l.first-index l.front ++ l.last ∷ []) l.variables
