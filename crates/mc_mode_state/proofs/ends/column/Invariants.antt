use Rattle.std.proofs.Common.{◌≡◌, ◌++◌, drop}
use Rattle.mc_mode_state.specs.code.Columns.{column, LongerThan}
use Rattle.mc_mode_state.proofs.ends.column.Given as goal

abbrev pub invariant-loop-end : goal.invariant-loop-end
invariant-loop-end l =
    record {
      long : LongerThan l.k (drop l.end-index l.ends);
      rest : l.insts.items ++ column l.k (drop l.end-index l.ends) ≡ column l.k l.ends;
    }
