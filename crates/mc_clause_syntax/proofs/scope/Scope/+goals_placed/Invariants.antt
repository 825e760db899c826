use Rattle.std.proofs.Common.{◌≡◌, ◌+◌, ◌*◌, drop, map}
use denote.Param.Weighed.{most}
use Rattle.mc_term_data.specs.Plain.{plain_term, term_list}
use Rattle.mc_term_data.specs.declared.term.Term.{size-Term}
use Rattle.mc_clause_syntax.specs.States.{goals_placed}
use Rattle.mc_clause_syntax.specs.code.Scopes.{all_names}
use Rattle.mc_clause_syntax.proofs.scope.Scope.+goals_placed.Given as goal

abbrev pub decreases-places_goal : goal.decreases-places_goal
decreases-places_goal l = 4 * size-Term l.goal.now

abbrev pub decreases-places_parts : goal.decreases-places_parts
decreases-places_parts l = 4 * most size-Term l.parts.now + 3

abbrev pub decreases-places_quantified : goal.decreases-places_quantified
decreases-places_quantified l = 4 * most size-Term l.goals.now + 2

abbrev pub decreases-places_conditional : goal.decreases-places_conditional
decreases-places_conditional l = 4 * most size-Term l.parts.now + 3

abbrev pub decreases-places_then_part : goal.decreases-places_then_part
decreases-places_then_part l = 4 * most size-Term l.then_part.now + 2

abbrev pub decreases-places_goals : goal.decreases-places_goals
decreases-places_goals l = 4 * most size-Term l.goals.now + 1

abbrev pub invariant-places_goals-loop-goal : goal.invariant-places_goals-loop-goal
invariant-places_goals-loop-goal l = record {
  kept : l.self.sets.items ≡ l.initial.self.sets.items;
  answer : goals_placed (all_names l.initial.self.sets.items) (term_list (map plain_term (drop l.goal-index l.goals))) ≡ goals_placed (all_names l.initial.self.sets.items) (term_list (map plain_term l.goals));
}
