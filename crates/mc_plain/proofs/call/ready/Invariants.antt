use Rattle.std.proofs.Common.{◌≡◌, drop}
use Rattle.mc_values.specs.declared.heap.Heap.{Heap}
use Rattle.mc_model.specs.Stream.{ready}
use Rattle.mc_plain.specs.Frames.{seen_at}
use Rattle.mc_plain.proofs.call.ready.Given as goal

abbrev pub invariant-loop-k : goal.invariant-loop-k
invariant-loop-k l = (h : Heap) → ready l.first (seen_at h l.caller.items l.args) ≡ ready (drop l.k l.first) (drop l.k (seen_at h l.caller.items l.args))
