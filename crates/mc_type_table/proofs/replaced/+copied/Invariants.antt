use Rattle.std.proofs.Common.{◌≡◌, ◌+◌, ◌*◌, take}
use denote.Param.Weighed.{most}
use Rattle.mc_program.specs.declared.ty.Ty.{size-Ty}
use Rattle.mc_type_table.proofs.replaced.+copied.Given as goal

abbrev pub decreases-copied : goal.decreases-copied
decreases-copied l = 2 * size-Ty l.t.now

abbrev pub decreases-all_copied : goal.decreases-all_copied
decreases-all_copied l = 2 * most size-Ty l.types.now + 1

abbrev pub invariant-all_copied-loop-t : goal.invariant-all_copied-loop-t
invariant-all_copied-loop-t l = l.all.items ≡ take l.t-index l.types
