use Rattle.std.proofs.Common.{◌≡◌, ◌+◌, ◌*◌, take, map}
use denote.Param.Weighed.{most}
use Rattle.mc_program.specs.declared.ty.Ty.{size-Ty}
use Rattle.mc_program.specs.PlainPrograms.{plain_type, type_terms}
use Rattle.mc_model.specs.Types.{type_at, instance_of}
use Rattle.mc_type_table.proofs.replaced.+instance.Given as goal

abbrev pub decreases-instance : goal.decreases-instance
decreases-instance l = 2 * size-Ty l.t.now

abbrev pub decreases-instances : goal.decreases-instances
decreases-instances l = 2 * most size-Ty l.types.now + 1

abbrev pub invariant-instances-loop-t : goal.invariant-instances-loop-t
invariant-instances-loop-t l =
    map plain_type l.all.items
    ≡ map
    (λ t. instance_of (type_at (type_terms (map plain_type l.arguments))) (plain_type t))
    (take l.t-index l.types)
