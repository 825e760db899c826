use Rattle.std.proofs.Common.{◌≡◌, drop}
use Rattle.std.specs.FinMap as finmap
use Rattle.mc_outside.specs.Named.{by_name}
use Rattle.mc_outside.proofs.named.find.Given as goal

abbrev pub invariant-loop-known : goal.invariant-loop-known
invariant-loop-known l = finmap.get (by_name (drop l.known-index l.files)) l.name ≡ finmap.get (by_name l.files) l.name
