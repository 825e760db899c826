use Rattle.std.proofs.Common.{◌≡◌, ◌++◌, ◌+◌, ◌*◌, drop, map}
use denote.Param.Weighed.{most}
use Rattle.mc_term_data.specs.Plain.{plain_term, term_list}
use Rattle.mc_term_data.specs.declared.term.Term.{size-Term}
use Rattle.mc_names.specs.Plain.{plain_occurrence}
use Rattle.mc_defs_uses.specs.Occurrences.{all_goals}
use Rattle.mc_defs_uses.proofs.goals.+goals.Given as goal

abbrev pub decreases-add_goals : goal.decreases-add_goals
decreases-add_goals l = 3 * size-Term l.goal.now

abbrev pub decreases-add_parts : goal.decreases-add_parts
decreases-add_parts l = 3 * most size-Term l.parts.now + 2

abbrev pub decreases-add_all_goals : goal.decreases-add_all_goals
decreases-add_all_goals l = 3 * most size-Term l.goals.now + 1

abbrev pub invariant-add_all_goals-loop-goal : goal.invariant-add_all_goals-loop-goal
invariant-add_all_goals-loop-goal l =
    map plain_occurrence l.uses.items ++ all_goals (term_list (map plain_term (drop l.goal-index l.goals))) ≡ map plain_occurrence l.initial.uses.items ++ all_goals (term_list (map plain_term l.goals))
