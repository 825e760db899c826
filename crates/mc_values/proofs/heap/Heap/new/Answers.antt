use Rattle.std.proofs.Common.{rules}
use Rattle.mc_values.specs.Heap.{height}
use Rattle.mc_values.proofs.heap.Heap.new.Goals as goal

pub returns : goal.returns
unfolding height
returns c = search rules
