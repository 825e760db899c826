use Rattle.std.proofs.Common.{◌≡◌, ◌+◌, ◌*◌, take, map}
use denote.Param.Weighed.{most}
use Rattle.mc_program.specs.declared.ty.Ty.{size-Ty}
use Rattle.mc_program.specs.PlainPrograms.{plain_type}
use Rattle.mc_type_table.specs.Expanded.{replaced}
use Rattle.mc_type_table.specs.Held.{held}
use Rattle.mc_type_table.proofs.replaced.+replaced.Given as goal

abbrev pub decreases-replaced : goal.decreases-replaced
decreases-replaced l = 3 * size-Ty l.t.now

abbrev pub decreases-union_replaced : goal.decreases-union_replaced
decreases-union_replaced l = 3 * most size-Ty l.arguments.now + 2

abbrev pub decreases-all_replaced : goal.decreases-all_replaced
decreases-all_replaced l = 3 * most size-Ty l.types.now + 1

abbrev pub invariant-all_replaced-loop-t : goal.invariant-all_replaced-loop-t
invariant-all_replaced-loop-t l =
    map plain_type l.all.items
    ≡ map (λ t. replaced (held l.definitions) (plain_type t)) (take l.t-index l.types)
