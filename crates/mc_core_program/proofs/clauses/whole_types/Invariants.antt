use Rattle.std.proofs.Common.{◌≡◌, map, take}
use Rattle.mc_program.specs.PlainPrograms.{plain_type}
use Rattle.mc_type_table.specs.Expanded.{replaced}
use Rattle.mc_type_table.specs.Held.{held}
use Rattle.mc_core_program.proofs.clauses.whole_types.Given as goal

abbrev pub invariant-loop-one : goal.invariant-loop-one
invariant-loop-one l =
    map plain_type l.all.items ≡ map (replaced (held l.definitions)) (map plain_type (take l.one-index l.fn.types))
