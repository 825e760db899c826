use Rattle.std.proofs.Common.{◌≡◌, ◌++◌, ◌+◌, ◌*◌, [], true, max, drop, map, reverse}
use denote.Param.Weighed.{most}
use Rattle.mc_term_data.specs.Plain.{plain_term, term_list}
use Rattle.mc_term_data.specs.declared.term.Term.{size-Term}
use Rattle.mc_state_variables.specs.Numbered.{on_text, goals_of, goal_parts}
use Rattle.mc_state_variables.specs.code.Helds.{plain_helds}
use Rattle.mc_state_variables.specs.code.Steps.{gone_on, wholes_of}
use Rattle.mc_state_variables.specs.code.Pieces.{plain_piece, pieces_of}
use Rattle.mc_state_variables.proofs.numbering.Numbering.+goals.Given as goal

abbrev pub decreases-part : goal.decreases-part
decreases-part l = 16 * size-Term l.goal.now

abbrev pub decreases-formed : goal.decreases-formed
decreases-formed l = 16 * most size-Term l.parts.now + 15

abbrev pub decreases-formed_apart : goal.decreases-formed_apart
decreases-formed_apart l = 16 * most size-Term l.parts.now + 14

abbrev pub decreases-conjunction : goal.decreases-conjunction
decreases-conjunction l = 16 * most size-Term l.goals.now + 10

abbrev pub decreases-disjunction : goal.decreases-disjunction
decreases-disjunction l = 16 * most size-Term l.goals.now + 11

abbrev pub decreases-branch : goal.decreases-branch
decreases-branch l = 16 * size-Term l.goal.now + 3

abbrev pub decreases-closed : goal.decreases-closed
decreases-closed l = 16 * size-Term l.goal.now + 1

abbrev pub decreases-conditional : goal.decreases-conditional
decreases-conditional l = 16 * max (size-Term l.condition.now) (size-Term l.then.now) + 8

abbrev pub decreases-existential : goal.decreases-existential
decreases-existential l = 16 * size-Term l.goal.now + 8

abbrev pub decreases-universal : goal.decreases-universal
decreases-universal l = 16 * size-Term l.goal.now + 8

abbrev pub decreases-negation : goal.decreases-negation
decreases-negation l = 16 * size-Term l.goal.now + 8

abbrev pub decreases-implied : goal.decreases-implied
decreases-implied l = 16 * max (size-Term l.premise.now) (size-Term l.conclusion.now) + 8

abbrev pub decreases-both_ways : goal.decreases-both_ways
decreases-both_ways l = 16 * max (size-Term l.left.now) (size-Term l.right.now) + 9

abbrev pub decreases-conjunct : goal.decreases-conjunct
decreases-conjunct l = 16 * size-Term l.goal.now + 4

abbrev pub decreases-whole : goal.decreases-whole
decreases-whole l = 16 * size-Term l.goal.now + 1

abbrev pub decreases-pieces : goal.decreases-pieces
decreases-pieces l = 16 * most size-Term l.goals.now + 10

abbrev pub decreases-arrow : goal.decreases-arrow
decreases-arrow l = 16 * max (size-Term l.tried.now.condition.goal.now) (size-Term l.then.now) + 7

abbrev pub decreases-test : goal.decreases-test
decreases-test l = 16 * size-Term l.tried.now.condition.goal.now + 1

abbrev pub decreases-then_part : goal.decreases-then_part
decreases-then_part l = 16 * size-Term l.then.now + 1

abbrev pub invariant-conjunction-loop-goal : goal.invariant-conjunction-loop-goal
invariant-conjunction-loop-goal l =
    gone_on l.written (goal_parts (goals_of (term_list (map plain_term (drop l.goal-index l.goals))))) l.self.next
    ≡ gone_on l.initial.written (goal_parts (goals_of (term_list (map plain_term l.goals)))) l.initial.self.next

abbrev pub invariant-pieces-loop-goal : goal.invariant-pieces-loop-goal
invariant-pieces-loop-goal l =
    on_text (λ ps. map plain_piece l.pieces.items ++ ps)
    (pieces_of l.line (reverse l.wholes.items) l.wanted l.fresh (goals_of (term_list (map plain_term (drop l.goal-index l.goals)))) (plain_helds l.held) l.self.next)
    ≡ pieces_of l.line (wholes_of (term_list (map plain_term l.goals))) [] true (goals_of (term_list (map plain_term l.goals))) (plain_helds l.held) l.initial.self.next
