use Rattle.std.proofs.Common.{◌≡◌, ◌+◌, ◌*◌, ◌++◌, max, map, drop}
use denote.Param.Weighed.{most}
use Rattle.mc_program.specs.PlainPrograms.{plain_goal, formulas}
use Rattle.mc_program.specs.declared.program.Goal.{size-Goal}
use Rattle.mc_model.specs.PlainGoals.{plain_flat}
use Rattle.mc_accepted.specs.Normal.{all_disjuncts, conjuncts_of, conjuncts_of_all, disjuncts_of}
use Rattle.mc_goals.specs.code.Numbering.{number_at}
use Rattle.mc_goals.specs.code.Naming.{held, followed, numbered}
use Rattle.mc_goals.proofs.goals.+goals.Given as goal

abbrev pub decreases-add_goal : goal.decreases-add_goal
decreases-add_goal l = 5 * size-Goal l.goal.now

abbrev pub decreases-inside : goal.decreases-inside
decreases-inside l = 5 * size-Goal l.goal.now + 1

abbrev pub decreases-enclosed : goal.decreases-enclosed
decreases-enclosed l = 5 * size-Goal l.goal.now + 2

abbrev pub decreases-enclosed_part : goal.decreases-enclosed_part
decreases-enclosed_part l = 5 * size-Goal l.goal.now + 3

abbrev pub decreases-add_negation : goal.decreases-add_negation
decreases-add_negation l = 5 * size-Goal l.goal.now + 4

abbrev pub decreases-add_quantified : goal.decreases-add_quantified
decreases-add_quantified l = 5 * size-Goal l.goal.now + 3

abbrev pub decreases-add_choice : goal.decreases-add_choice
decreases-add_choice l =
    5 * max (max (size-Goal l.condition.now) (size-Goal l.then_part.now)) (size-Goal l.else_part.now) + 4

abbrev pub decreases-either : goal.decreases-either
decreases-either l = 5 * most size-Goal l.goals.now + 3

abbrev pub decreases-add_disjunction : goal.decreases-add_disjunction
decreases-add_disjunction l = 5 * most size-Goal l.goals.now + 4

abbrev pub invariant-add_goal-loop-goal : goal.invariant-add_goal-loop-goal
invariant-add_goal-loop-goal l =
    let names = number_at l.numbers in
    followed (held l.into) (conjuncts_of_all names (held l.into).next (formulas (map plain_goal (drop l.goal-index l.goals))))
    ≡ followed (held l.fn.into) (conjuncts_of names (held l.fn.into).next (plain_goal l.fn.goal))

abbrev pub invariant-either-loop-goal : goal.invariant-either-loop-goal
invariant-either-loop-goal l =
    let names = number_at l.numbers in
    let rest = disjuncts_of names (held l.outer).next (formulas (map plain_goal (drop l.goal-index l.goals))) in
    let all = disjuncts_of names (held l.fn.outer).next (formulas (map plain_goal l.goals)) in
    record {
      goals : map plain_flat l.flats.items ++ all_disjuncts rest.goals ≡ all_disjuncts all.goals;
      next : rest.next ≡ all.next;
      outer : held l.outer ≡ numbered (held l.outer).next (held l.fn.outer);
    }
