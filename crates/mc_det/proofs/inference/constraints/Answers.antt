use Rattle.std.proofs.Common.{ℕ, ◌+◌, ◌<◌, ◌≡◌, ◌∷◌, [], List, length, length-append, sym, ap, subst, arith}
use Rattle.mc_model.specs.PlainGoals.{plain_proc}
use Rattle.mc_model.specs.declared.sched.Proc.{Proc}
use Rattle.mc_procs.specs.Fitting.{ProcedureFits}
use Rattle.mc_procs.specs.Procedures.{procedure_at}
use Rattle.mc_det_constraints.specs.declared.constraint.Step.{Step}
use Rattle.mc_det_constraints.specs.Least.{body_at}
use Rattle.mc_det.specs.ConstraintLaws.{constraint_of}
use Rattle.mc_det.specs.code.Walks.{InSystems}
use Rattle.mc_det.proofs.Declaring.{procedure_is, one_body}
use Rattle.mc_det.proofs.inference.constraints.Goals as goal

pub constraint_of-requires : goal.constraint_of-requires
constraint_of-requires c =
    let q = c.args.procs.now in
    let k = c.loop-k.k in
    let lt : k < length q.added = omega (arith, c.loop-k-test.true, c.count-k-end.ensures) in
    subst (λ (p : Proc). ProcedureFits q (plain_proc p)) (sym c.get.ensures)
    (subst (ProcedureFits q) (procedure_is q.added k c.get.result.now lt) (c.fit.ensures.all.each k lt))

pub loop-k-preserved : goal.loop-k-preserved
loop-k-preserved c =
    let q = c.args.procs.now in
    let k = c.loop-k.k in
    let lt : k < length q.added = omega (arith, c.loop-k-test.true, c.count-k-end.ensures) in
    record {
      count = omega (arith, ap length c.in_ok-push.ensures.items, length-append c.loop-k.bodies.items (c.in_ok-constraint_of.field-0 ∷ []), c.loop-k.invariant.count);
      each =
          subst (λ (bodies : List (List Step)). InSystems q (λ S. (j : ℕ) → j < k + 1 → body_at bodies j ≡ constraint_of S (procedure_at q.added j))) (sym c.in_ok-push.ensures.items)
          (one_body q c.loop-k.bodies.items k c.get.result.now c.get.result.now c.in_ok-constraint_of.field-0 c.loop-k.invariant.count lt c.get.ensures c.in_ok-constraint_of.ensures c.loop-k.invariant.each);
    }
