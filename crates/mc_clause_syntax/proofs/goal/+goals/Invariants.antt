use Rattle.std.proofs.Common.{◌≡◌, ◌+◌, ◌*◌, drop, map}
use denote.Param.Weighed.{most}
use Rattle.mc_term_data.specs.Plain.{plain_term, term_list}
use Rattle.mc_term_data.specs.declared.term.Term.{size-Term}
use Rattle.mc_clause_syntax.specs.Goals.{are_goals}
use Rattle.mc_clause_syntax.proofs.goal.+goals.Given as goal

abbrev pub decreases-is_goal : goal.decreases-is_goal
decreases-is_goal l = 4 * size-Term l.term.now

abbrev pub decreases-is_goal_of : goal.decreases-is_goal_of
decreases-is_goal_of l = 4 * most size-Term l.parts.now + 3

abbrev pub decreases-have_form : goal.decreases-have_form
decreases-have_form l = 4 * most size-Term l.parts.now + 2

abbrev pub decreases-are_disjuncts : goal.decreases-are_disjuncts
decreases-are_disjuncts l = 4 * most size-Term l.terms.now + 2

abbrev pub decreases-are_goals : goal.decreases-are_goals
decreases-are_goals l = 4 * most size-Term l.terms.now + 1

abbrev pub invariant-are_goals-loop-term : goal.invariant-are_goals-loop-term
invariant-are_goals-loop-term l = are_goals l.stand (term_list (map plain_term (drop l.term-index l.terms))) ≡ are_goals l.stand (term_list (map plain_term l.terms))
