use Rattle.std.proofs.Common.{arith}
use Rattle.mc_values.specs.Heap.{IsBelow}
use Rattle.mc_values.proofs.heap.marks_rise.Goals as goal

pub returns : goal.returns
unfolding IsBelow
returns c low high r le b = omega arith
