use Rattle.std.proofs.Common.{ℕ, List, ◌++◌, take}
use Rattle.mc_program.specs.Programs.{Expression}
use Rattle.mc_goals.specs.code.Meeting.{Knows}
use Rattle.mc_goals.proofs.numbering.Numbering.meet_all.Given as goal

abbrev pub invariant-loop-variable : goal.invariant-loop-variable
invariant-loop-variable l = (n : ℕ) (head : List Expression) (ys : List ℕ) → Knows n head ys l.fn.self → Knows n head (ys ++ take l.variable-index l.variables) l.self
