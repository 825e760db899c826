use Rattle.std.proofs.Common.{◌≡◌, [], map, take}
use Rattle.mc_program.specs.PlainPrograms.{plain_type}
use Rattle.mc_goals.proofs.normal.of_head.Given as goal

abbrev pub invariant-loop-ty : goal.invariant-loop-ty
invariant-loop-ty l = record {
  types : map plain_type l.copies.items ≡ map plain_type (take l.ty-index l.slice);
  names : l.names.items ≡ map (λ t. []) (map plain_type (take l.ty-index l.slice));
}
