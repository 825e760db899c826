use Rattle.std.proofs.Common.{List, Option, subst}
use Rattle.mc_source.specs.declared.det.Det.{Det}
use Rattle.mc_det_constraints.specs.declared.constraint.Step.{Step}
use Rattle.mc_det_constraints.specs.Least.{assigned, Least}
use Rattle.mc_det.specs.Determinisms.{AreDeterminisms}
use Rattle.mc_det.proofs.Declaring.{are_determinisms, if_ok_as}
use Rattle.mc_det.proofs.inference.determinisms.Goals as goal

pub returns-clause-least : goal.returns-clause-least
returns-clause-least c =
    let q = c.args.procs.now in
    let bodies = c.in_ok-bodies.bodies.items in
    let declared = c.in_ok-declared.declared.items in
    if_ok_as c.least.result (λ ds. Least c.as_slice.result.now c.as_slice-2.result.now (assigned ds.items)) (λ ds. AreDeterminisms q ds.items)
    (λ ds h.
    are_determinisms q bodies declared ds.items c.in_ok-bodies.ensures.count c.in_ok-declared.ensures c.in_ok-bodies.ensures.bodies
    (subst (λ (bs : List (List Step)). Least bs declared (assigned ds.items)) c.as_slice.ensures.value
    (subst (λ (os : List (Option Det)). Least c.as_slice.result.now os (assigned ds.items)) c.as_slice-2.ensures.value h)))
    c.least.ensures.least
