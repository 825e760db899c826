use Rattle.std.proofs.Common.{◌≡◌, ◌↔◌, ◌+◌, ◌*◌, map, drop}
use denote.Param.Weighed.{most}
use Rattle.mc_program.specs.declared.ty.Ty.{size-Ty}
use Rattle.mc_program.specs.PlainPrograms.{plain_type, type_terms}
use Rattle.mc_model.specs.Types.{instance_of, type_at}
use Rattle.mc_self_check.proofs.instance.+instance.Given as goal

abbrev pub decreases-is_instance : goal.decreases-is_instance
decreases-is_instance l = 2 * size-Ty l.pattern.now

abbrev pub decreases-are_instances : goal.decreases-are_instances
decreases-are_instances l = 2 * most size-Ty l.patterns.now + 1

abbrev pub invariant-are_instances-loop-place : goal.invariant-are_instances-loop-place
invariant-are_instances-loop-place l =
    let at = type_at (type_terms (map plain_type l.args)) in
    (map plain_type (drop l.place l.types) ≡ map (instance_of at) (map plain_type (drop l.place l.patterns)))
    ↔ (map plain_type l.types ≡ map (instance_of at) (map plain_type l.patterns))
