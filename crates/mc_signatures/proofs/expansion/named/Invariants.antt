use Rattle.std.proofs.Common.{◌≡◌, map, take}
use Rattle.mc_inst_table.specs.Plain.{plain_functor}
use Rattle.mc_signatures.specs.code.Keys.{functor_of}
use Rattle.mc_signatures.proofs.expansion.named.Given as goal

abbrev pub invariant-loop-functor : goal.invariant-loop-functor
invariant-loop-functor l = map functor_of l.named.items ≡ map plain_functor (take l.functor-index l.functors)
