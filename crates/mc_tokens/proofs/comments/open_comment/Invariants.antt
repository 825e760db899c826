use Rattle.std.proofs.Common.{◌-◌, length, Some}
use Rattle.mc_tokens.specs.code.Seen.{OpenComment}
use Rattle.mc_tokens.proofs.comments.open_comment.Given as goal

abbrev pub invariant-loop-i : goal.invariant-loop-i
invariant-loop-i l = OpenComment l.text (Some l.i)

abbrev pub decreases-loop-i : goal.decreases-loop-i
decreases-loop-i l = length l.text - l.i
