use Rattle.std.proofs.Common.{◌≡◌, ◌++◌, map, take}
use Rattle.mc_typecheck.specs.Searched.{plain_signature}
use Rattle.mc_typecheck.specs.code.Entries.{rigid_in}
use Rattle.mc_typecheck.proofs.check_clause_table.put_rigid.Given as goal

abbrev pub invariant-loop-pred : goal.invariant-loop-pred
invariant-loop-pred l = map plain_signature l.all.items ≡ map plain_signature l.fn.all.items ++ rigid_in (take l.pred-index l.preds)
