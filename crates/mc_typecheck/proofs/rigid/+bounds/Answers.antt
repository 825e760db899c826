use Rattle.std.proofs.Common.{ap, ◌∙◌}
use Rattle.mc_program.specs.PlainPrograms.{plain_type}
use Rattle.mc_program.specs.declared.ty.Ty.{Ty}
use Rattle.mc_accepted.specs.MostGeneral.{variables_of}
use Rattle.mc_typecheck.specs.code.Bounds.{above}
use Rattle.mc_typecheck.proofs.Bounds.{above_more, above_all, union_above}
use Rattle.mc_typecheck.proofs.rigid.+bounds.Goals as goal

pub bound_of_type-returns-in_ok-count-in-Union : goal.bound_of_type-returns-in_ok-count-in-Union
bound_of_type-returns-in_ok-count-in-Union t c = union_above c.args.next.now c.in-Union.field-0 c.in-Union.args c.as_slice.result.now c.args.bound _ c.in-Union.is c.as_slice.ensures.items (c.in_ok-count-in-Union.ensures {u = tt})

pub bound_of_types-loop-next-preserved : goal.bound_of_types-loop-next-preserved
bound_of_types-loop-next-preserved t c =
    above_more c.args.types.now c.loop-next.next-index c.next-item.result c.args.bound c.loop-next.bound c.in_ok-bound.bound c.loop-next-test.true c.loop-next.invariant
    (c.in_ok-bound.ensures {u = tt} ∙ ap (λ (x : Ty). above (variables_of (plain_type x)) c.loop-next.bound) c.next-item.is)

pub bound_of_types-returns : goal.bound_of_types-returns
bound_of_types-returns t c = above_all c.args.types.now c.loop-next.next-index c.args.bound c.loop-next.bound c.loop-next-test.false c.loop-next.invariant
