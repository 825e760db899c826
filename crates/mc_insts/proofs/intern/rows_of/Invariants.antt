use Rattle.std.proofs.Common.{take, map}
use Rattle.mc_program.specs.PlainPrograms.{plain_type}
use Rattle.mc_insts.specs.code.Lists.{Extends}
use Rattle.mc_insts.specs.code.TypeRows.{terms, RowsOf, over_rows}
use Rattle.mc_insts.proofs.intern.rows_of.Given as goal

abbrev pub invariant-loop-t : goal.invariant-loop-t
invariant-loop-t l = record {
  extends : Extends (terms l.fn.types) (terms l.types);
  rows : RowsOf (terms l.types) l.rows.items (map (over_rows (terms l.fn.types) l.env) (map plain_type (take l.t-index l.args)));
}
