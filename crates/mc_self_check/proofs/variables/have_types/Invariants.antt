use Rattle.std.proofs.Common.{◌≡◌, ◌↔◌, map, drop}
use Rattle.mc_program.specs.PlainPrograms.{plain_type}
use Rattle.mc_procs.specs.VariableTypes.{type_in}
use Rattle.mc_self_check.proofs.variables.have_types.Given as goal

abbrev pub invariant-loop-place : goal.invariant-loop-place
invariant-loop-place l =
    (map (type_in l.types) (drop l.place l.variables) ≡ map plain_type (drop l.place l.expected))
    ↔ (map (type_in l.types) l.variables ≡ map plain_type l.expected)
