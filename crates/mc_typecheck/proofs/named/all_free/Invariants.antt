use Rattle.std.proofs.Common.{◌≡◌}
use Rattle.mc_typecheck.specs.code.Named.{free_types}
use Rattle.mc_typecheck.proofs.named.all_free.Given as goal

abbrev pub invariant-loop-place : goal.invariant-loop-place
invariant-loop-place l = l.types.items ≡ free_types l.place
