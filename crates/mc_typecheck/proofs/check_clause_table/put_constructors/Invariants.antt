use Rattle.std.proofs.Common.{◌≡◌, ◌++◌, map, take}
use Rattle.mc_typecheck.specs.Searched.{plain_signature}
use Rattle.mc_typecheck.specs.code.Entries.{constructors_in}
use Rattle.mc_typecheck.proofs.check_clause_table.put_constructors.Given as goal

abbrev pub invariant-loop-symbol : goal.invariant-loop-symbol
invariant-loop-symbol l = map plain_signature l.all.items ≡ map plain_signature l.fn.all.items ++ constructors_in l.types (take l.symbol-index l.symbols)
