use Rattle.std.proofs.Common.{◌≡◌, ◌↔◌, map, drop}
use Rattle.mc_program.specs.PlainPrograms.{plain_type}
use Rattle.mc_self_check.specs.code.Types.{plain_types, type_of}
use Rattle.mc_self_check.proofs.library_fit_types.are_types.Given as goal

abbrev pub invariant-loop-place : goal.invariant-loop-place
invariant-loop-place l =
    (map plain_type (drop l.place l.found)
    ≡ map (type_of (plain_types l.types)) (drop l.place l.expected))
    ↔ (map plain_type l.found ≡ map (type_of (plain_types l.types)) l.expected)
