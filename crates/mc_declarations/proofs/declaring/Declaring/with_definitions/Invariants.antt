use Rattle.std.proofs.Common.{◌≡◌, map, take}
use Rattle.mc_program.specs.PlainPrograms.{plain_type}
use Rattle.mc_type_table.specs.Expanded.{replaced}
use Rattle.mc_type_table.specs.Held.{held}
use Rattle.mc_declarations.proofs.declaring.Declaring.with_definitions.Given as goal

abbrev pub invariant-loop-one : goal.invariant-loop-one
invariant-loop-one l =
    map plain_type l.all.items
    ≡ map (λ t. replaced (held l.self.definitions.now) (plain_type t)) (take l.one-index l.types)
