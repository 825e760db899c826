-- Exit statuses. (This project's profile.)
use Rattle.std.specs.Prelude.{ℕ}
use Rattle.mc_cmd.specs.declared.status.Status.{Status}
use Rattle.mc_cmd.specs.declared.status.Status.TheVariants as S

abbrev pub code_of : Status → ℕ
code_of S.Done = 0
code_of S.Rejected = 1
code_of S.Usage = 2
code_of S.Threw = 3
code_of S.Budget = 4
code_of S.TooDeep = 5
code_of S.ReadFault = 6
code_of S.WriteFault = 7
code_of S.Memory = 8
code_of S.Absent = 9
