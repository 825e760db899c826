use Rattle.std.proofs.Common.{◌≡◌, ◌↔◌, map, drop}
use Rattle.mc_program.specs.PlainPrograms.{plain_type, type_terms}
use Rattle.mc_model.specs.Types.{instance_of, type_at}
use Rattle.mc_procs.specs.VariableTypes.{type_in}
use Rattle.mc_self_check.proofs.typed.have_instances.Given as goal

abbrev pub invariant-loop-place : goal.invariant-loop-place
invariant-loop-place l =
    let at = type_at (type_terms (map plain_type l.inner)) in
    (map (type_in l.types) (drop l.place l.variables) ≡ map (instance_of at) (map plain_type (drop l.place l.patterns)))
    ↔ (map (type_in l.types) l.variables ≡ map (instance_of at) (map plain_type l.patterns))
