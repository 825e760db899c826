use Rattle.std.proofs.Common.{◌≡◌, List, map, drop}
use Rattle.mc_program.specs.Programs.{Expression}
use Rattle.mc_program.specs.PlainPrograms.{plain_expression}
use Rattle.mc_accepted.specs.Normal.{head_equations}
use Rattle.mc_goals.specs.code.Numbering.{number_at, Places}
use Rattle.mc_goals.specs.code.Naming.{held, followed}
use Rattle.mc_goals.proofs.clauses.add_head.Given as goal

abbrev pub invariant-loop-place : goal.invariant-loop-place
invariant-loop-place l =
    let names = number_at l.numbers in
    (hs : List Expression) → Places l.numbers hs →
    followed (held l.into) (head_equations names hs (held l.into).next l.place (map plain_expression (drop l.place l.head)))
    ≡ followed (held l.fn.into) (head_equations names hs (held l.fn.into).next 0 (map plain_expression l.head))
