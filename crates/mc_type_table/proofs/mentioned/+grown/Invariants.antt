use Rattle.std.proofs.Common.{◌≡◌, ◌+◌, ◌*◌, ◌++◌, ◌&&◌, drop, map}
use denote.Param.Weighed.{most}
use Rattle.mc_program.specs.declared.ty.Ty.{size-Ty}
use Rattle.mc_program.specs.PlainPrograms.{plain_type, type_terms}
use Rattle.mc_type_table.specs.Rules.{are_closed, are_plain}
use Rattle.mc_type_table.specs.code.Grown.{all_grown_in}
use Rattle.mc_type_table.proofs.mentioned.+grown.Given as goal

abbrev pub decreases-put_grown : goal.decreases-put_grown
decreases-put_grown l = 2 * size-Ty l.t.now

abbrev pub decreases-put_all_grown : goal.decreases-put_all_grown
decreases-put_all_grown l = 2 * most size-Ty l.types.now + 1

abbrev pub invariant-put_all_grown-loop-t : goal.invariant-put_all_grown-loop-t
invariant-put_all_grown-loop-t l =
    ((l.arguments.are_closed && are_closed (type_terms (map plain_type (drop l.t-index l.types))))
    ≡ are_closed (type_terms (map plain_type l.types)))
    × ((l.arguments.are_plain && are_plain (type_terms (map plain_type (drop l.t-index l.types))))
    ≡ are_plain (type_terms (map plain_type l.types)))
    × (l.grown.items ++ all_grown_in (type_terms (map plain_type (drop l.t-index l.types)))
    ≡ l.initial.grown.items ++ all_grown_in (type_terms (map plain_type l.types)))
