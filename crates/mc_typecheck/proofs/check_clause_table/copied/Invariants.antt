use Rattle.std.proofs.Common.{◌≡◌, take}
use Rattle.mc_typecheck.proofs.check_clause_table.copied.Given as goal

abbrev pub invariant-loop-own : goal.invariant-loop-own
invariant-loop-own l = l.copy.items ≡ take l.own-index l.own-items
