use Rattle.std.proofs.Common.{List, sym, subst, ◌∙◌}
use Rattle.mc_det_constraints.specs.declared.constraint.Step.{Step}
use Rattle.mc_det_constraints.specs.code.Callers.{PutCalls}
use Rattle.mc_det_constraints.proofs.Calling.{one_body, at_body}
use Rattle.mc_det_constraints.proofs.callers.Callers.of.Goals as goal

pub loop-p-preserved : goal.loop-p-preserved
loop-p-preserved c =
    one_body c.args.bodies.now c.loop-p.p c.loop-p.callers c.put_calls.new.self c.loop-p.invariant
    (subst (λ (l : List Step). PutCalls c.loop-p.p l c.loop-p.callers c.put_calls.new.self)
    (c.as_slice.ensures.items ∙ sym (at_body c.args.bodies.now c.loop-p.p c.index-bodies-p.result c.loop-p-test.true c.index-bodies-p.is))
    c.in_ok-put_calls.ensures)
