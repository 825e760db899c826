use Rattle.std.proofs.Common.{◌≡◌, ◌≤◌, take, vec_len}
use Rattle.mc_program.specs.declared.ty.Ty.{Ty, size-Ty}
use Rattle.mc_program.specs.declared.ty.UnionFront.{UnionFront}
use Rattle.mc_program.proofs.Fronts.{rebuilt}
use Rattle.mc_program.proofs.Overs.{over_type}
use Rattle.mc_program.proofs.ty.+copy.Given as goal

abbrev pub invariant-copy_type-loop-rest : goal.invariant-copy_type-loop-rest
invariant-copy_type-loop-rest l = (rebuilt Ty UnionFront over_type l.fronts.items l.rest ≡ l.t) × (size-Ty l.rest ≤ size-Ty l.t)

abbrev pub invariant-copy_type-loop-front : goal.invariant-copy_type-loop-front
invariant-copy_type-loop-front l = rebuilt Ty UnionFront over_type l.fronts.items l.copy ≡ l.t

abbrev pub decreases-copy_type-loop-front : goal.decreases-copy_type-loop-front
decreases-copy_type-loop-front l = vec_len l.fronts

abbrev pub invariant-copy_types-loop-t : goal.invariant-copy_types-loop-t
invariant-copy_types-loop-t l = l.row ≡ take l.t-index l.types
