use Rattle.std.proofs.Common.{◌≡◌, map, take}
use Rattle.mc_program.specs.PlainPrograms.{plain_type}
use Rattle.mc_accepted.specs.MostGeneral.{variables_of_each}
use Rattle.mc_typecheck.specs.code.Bounds.{above}
use Rattle.mc_typecheck.proofs.rigid.+bounds.Given as goal

abbrev pub invariant-bound_of_types-loop-next : goal.invariant-bound_of_types-loop-next
invariant-bound_of_types-loop-next l = l.bound ≡ above (variables_of_each (map plain_type (take l.next-index l.types))) l.fn.bound
