use Rattle.std.proofs.Common.{◌≡◌, ◌++◌, ◌+◌, ◌*◌, max, drop, map}
use denote.Param.Weighed.{most}
use Rattle.mc_term_data.specs.Plain.{plain_term, term_list}
use Rattle.mc_term_data.specs.declared.term.Term.{size-Term}
use Rattle.mc_clause_syntax.specs.States.{names_of}
use Rattle.mc_state_variables.specs.Updates.{joined, updated_each}
use Rattle.mc_state_variables.proofs.updates.+updates.Given as goal

abbrev pub decreases-push_updated : goal.decreases-push_updated
decreases-push_updated l = 4 * size-Term l.goal.now

abbrev pub decreases-push_by : goal.decreases-push_by
decreases-push_by l = 4 * most size-Term l.parts.now + 3

abbrev pub decreases-push_conditional : goal.decreases-push_conditional
decreases-push_conditional l = 4 * max (size-Term l.condition.now) (most size-Term l.others.now) + 2

abbrev pub decreases-push_quantified_goal : goal.decreases-push_quantified_goal
decreases-push_quantified_goal l = 4 * most size-Term l.goals.now + 2

abbrev pub decreases-push_each : goal.decreases-push_each
decreases-push_each l = 4 * most size-Term l.goals.now + 1

abbrev pub invariant-push_each-loop-goal : goal.invariant-push_each-loop-goal
invariant-push_each-loop-goal l =
    names_of l.names.items ++ joined (updated_each (term_list (map plain_term (drop l.goal-index l.goals)))) ≡ names_of l.initial.names.items ++ joined (updated_each (term_list (map plain_term l.goals)))
