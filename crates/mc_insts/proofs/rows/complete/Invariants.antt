use Rattle.std.proofs.Common.{◌≡◌, ◌≤◌, ◌-◌, ◌^◌, length}
use Rattle.mc_program.specs.PlainPrograms.{plain_program}
use Rattle.mc_insts.specs.code.Lists.{Extends}
use Rattle.mc_insts.specs.code.TypeRows.{terms}
use Rattle.mc_insts.specs.code.Tables.{ShapesAre}
use Rattle.mc_insts.proofs.rows.complete.Given as goal

abbrev pub invariant-loop-alloc : goal.invariant-loop-alloc
invariant-loop-alloc l = record {
  extends : Extends (terms l.fn.types) (terms l.types);
  shapes : ShapesAre (plain_program l.program) l.symbols (terms l.types) l.shapes.rows;
  known : l.shapes.known ≡ l.fn.shapes.known;
  fewer : length l.shapes.rows ≤ length (terms l.types);
}

abbrev pub decreases-loop-alloc : goal.decreases-loop-alloc
decreases-loop-alloc l = 2 ^ 32 - length l.shapes.rows
