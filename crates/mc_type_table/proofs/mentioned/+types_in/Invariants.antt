use Rattle.std.proofs.Common.{◌≡◌, ◌+◌, ◌*◌, ◌++◌, drop, map}
use denote.Param.Weighed.{most}
use Rattle.mc_program.specs.declared.ty.Ty.{size-Ty}
use Rattle.mc_program.specs.PlainPrograms.{plain_type, type_terms}
use Rattle.mc_type_table.specs.Rules.{all_types_in}
use Rattle.mc_type_table.proofs.mentioned.+types_in.Given as goal

abbrev pub decreases-put_types_in : goal.decreases-put_types_in
decreases-put_types_in l = 2 * size-Ty l.t.now

abbrev pub decreases-put_all_types_in : goal.decreases-put_all_types_in
decreases-put_all_types_in l = 2 * most size-Ty l.types.now + 1

abbrev pub invariant-put_all_types_in-loop-t : goal.invariant-put_all_types_in-loop-t
invariant-put_all_types_in-loop-t l =
    l.numbers.items ++ all_types_in (type_terms (map plain_type (drop l.t-index l.types)))
    ≡ l.initial.numbers.items ++ all_types_in (type_terms (map plain_type l.types))
