use Rattle.std.proofs.Common.{ℕ, [], map, take}
use Rattle.mc_program.specs.PlainPrograms.{plain_expression}
use Rattle.mc_goals.specs.code.Meeting.{Knows, head_variables}
use Rattle.mc_goals.proofs.numbering.Numbering.meet_head.Given as goal

abbrev pub invariant-loop-place : goal.invariant-loop-place
invariant-loop-place l = (n : ℕ) → Knows n [] [] l.fn.self → Knows n (map plain_expression (take l.place l.head)) (head_variables (map plain_expression (take l.place l.head))) l.self
