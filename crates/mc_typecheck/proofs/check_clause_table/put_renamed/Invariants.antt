use Rattle.std.proofs.Common.{◌≡◌, ◌++◌, map, take}
use Rattle.mc_typecheck.specs.Searched.{plain_signature}
use Rattle.mc_typecheck.specs.code.Entries.{renamed_in}
use Rattle.mc_typecheck.proofs.check_clause_table.put_renamed.Given as goal

abbrev pub invariant-loop-pred : goal.invariant-loop-pred
invariant-loop-pred l = map plain_signature l.all.items ≡ map plain_signature l.fn.all.items ++ renamed_in (take l.pred-index l.preds)
