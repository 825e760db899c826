use Rattle.std.proofs.Common.{◌≡◌, ◌≤◌, take, vec_len}
use Rattle.mc_program.specs.declared.value.Value.{Value, size-Value}
use Rattle.mc_program.specs.declared.copy.Front.{Front}
use Rattle.mc_program.proofs.Fronts.{rebuilt}
use Rattle.mc_program.proofs.Overs.{over_value}
use Rattle.mc_program.proofs.copy.+copy.Given as goal

abbrev pub invariant-copy_value-loop-rest : goal.invariant-copy_value-loop-rest
invariant-copy_value-loop-rest l = (rebuilt Value Front over_value l.fronts.items l.rest ≡ l.v) × (size-Value l.rest ≤ size-Value l.v)

abbrev pub invariant-copy_value-loop-front : goal.invariant-copy_value-loop-front
invariant-copy_value-loop-front l = rebuilt Value Front over_value l.fronts.items l.copy ≡ l.v

abbrev pub decreases-copy_value-loop-front : goal.decreases-copy_value-loop-front
decreases-copy_value-loop-front l = vec_len l.fronts

abbrev pub invariant-copy_values-loop-v : goal.invariant-copy_values-loop-v
invariant-copy_values-loop-v l = l.row ≡ take l.v-index l.values
