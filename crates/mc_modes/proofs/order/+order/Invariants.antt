use Rattle.std.proofs.Common.{◌+◌, ◌*◌, max, length, drop}
use denote.Param.Weighed.{most}
use Rattle.mc_model.specs.declared.flat.Flat.{size-Flat}
use Rattle.mc_accepted.specs.Arranged.{ascending}
use Rattle.mc_mode_state.specs.States.{is_outside, SameState}
use Rattle.mc_mode_state.specs.Agreeing.{StateExtends}
use Rattle.mc_modes.specs.code.Waiting.{goals_at}
use Rattle.mc_modes.proofs.Forking.{Forked}
use Rattle.mc_modes.proofs.Passing.{FoundSoFar}
use Rattle.mc_modes.proofs.Taking.{Turned}
use Rattle.mc_modes.proofs.order.+order.Given as goal

abbrev pub invariant-in_turn-turns : goal.invariant-in_turn-turns
invariant-in_turn-turns l = Turned l.sigs l.goals l.waiting l.reachable l.done.items l.fresh.items l.fn.procs l.procs l.fn.state l.state

abbrev pub decreases-in_turn-turns : goal.decreases-in_turn-turns
decreases-in_turn-turns l = length l.waiting

abbrev pub invariant-first_ready-loop-place : goal.invariant-first_ready-loop-place
invariant-first_ready-loop-place l =
    let gs = goals_at l.goals l.waiting in
    record {
      same : SameState l.fn.state l.state;
      moved : StateExtends l.fn.procs l.procs l.fn.state l.state;
      so : FoundSoFar l.sigs gs l.place l.found l.fn.procs l.procs l.fn.state l.state;
    }

abbrev pub invariant-disjunction-loop-goal : goal.invariant-disjunction-loop-goal
invariant-disjunction-loop-goal l = Forked l.sigs l.goals (drop l.goal-index l.goals) (ascending (is_outside l.fn.state.outside.items) l.own.items) l.branches.items l.ends.items l.fn.procs l.procs l.fn.state l.state

abbrev pub decreases-try_goal : goal.decreases-try_goal
decreases-try_goal l = 8 * size-Flat l.goal.now + 1

abbrev pub decreases-attempt : goal.decreases-attempt
decreases-attempt l = 8 * size-Flat l.goal.now

abbrev pub decreases-conjunction : goal.decreases-conjunction
decreases-conjunction l = 8 * most size-Flat l.goals.now + 6

abbrev pub decreases-in_turn : goal.decreases-in_turn
decreases-in_turn l = 8 * most size-Flat l.goals.now + 5

abbrev pub decreases-first_ready : goal.decreases-first_ready
decreases-first_ready l = 8 * most size-Flat l.goals.now + 4

abbrev pub decreases-try_among : goal.decreases-try_among
decreases-try_among l = 8 * size-Flat l.goal.now + 3

abbrev pub decreases-compound_among : goal.decreases-compound_among
decreases-compound_among l = 8 * size-Flat l.goal.now + 2

abbrev pub decreases-beside : goal.decreases-beside
decreases-beside l = 8 * size-Flat l.goal.now + 2

abbrev pub decreases-quantified : goal.decreases-quantified
decreases-quantified l = 8 * size-Flat l.goal.now + 2

abbrev pub decreases-negation : goal.decreases-negation
decreases-negation l = 8 * size-Flat l.goal.now + 3

abbrev pub decreases-branch : goal.decreases-branch
decreases-branch l = 8 * size-Flat l.goal.now + 3

abbrev pub decreases-disjunction : goal.decreases-disjunction
decreases-disjunction l = 8 * most size-Flat l.goals.now + 5

abbrev pub decreases-test : goal.decreases-test
decreases-test l = 8 * max (size-Flat l.condition.now) (size-Flat l.then_part.now) + 3

abbrev pub decreases-then_branch : goal.decreases-then_branch
decreases-then_branch l = 8 * max (size-Flat l.condition.now) (size-Flat l.then_part.now) + 4

abbrev pub decreases-test_and_then : goal.decreases-test_and_then
decreases-test_and_then l = 8 * max (size-Flat l.condition.now) (size-Flat l.then_part.now) + 5

abbrev pub decreases-if_then_else : goal.decreases-if_then_else
decreases-if_then_else l = 8 * max (max (size-Flat l.condition.now) (size-Flat l.then_part.now)) (size-Flat l.else_part.now) + 6
