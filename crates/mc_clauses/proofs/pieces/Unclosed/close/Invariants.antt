use Rattle.std.proofs.Common.{◌≡◌, vec_len}
use Rattle.mc_unresolved.specs.Unresolved.{plain_unresolved_goal}
use Rattle.mc_clauses.specs.code.GoalWalks.{enclosed}
use Rattle.mc_clauses.proofs.pieces.Unclosed.close.Given as goal

abbrev pub invariant-loop-before : goal.invariant-loop-before
invariant-loop-before l =
    enclosed l.around.items (plain_unresolved_goal l.whole)
    ≡ enclosed l.initial.around.items (plain_unresolved_goal l.initial.whole)

abbrev pub decreases-loop-before : goal.decreases-loop-before
decreases-loop-before l = vec_len l.around
