use Rattle.std.proofs.Common.{List, [], ◌∷◌, ◌++◌, sym, ap, ◌∙◌, append_assoc}
use Rattle.mc_det_constraints.specs.declared.constraint.Step.{Step}
use Rattle.mc_det.specs.code.Walks.{times}
use Rattle.mc_det.proofs.Walking.{more_times}
use Rattle.mc_det.proofs.walk.Walk.put_times.Goals as goal

pub loop-preserved : goal.loop-preserved
loop-preserved c =
    let s : Step = c.args.step in
    let old : List Step = c.args.self.now.steps.items in
    let n = c.loop.counter in
    record {
      point = c.loop.invariant.point;
      known = c.loop.invariant.known;
      put =
          c.in_ok-push.ensures.items
          ∙ ap (λ (l : List Step). l ++ s ∷ []) c.loop.invariant.put
          ∙ append_assoc old (times n s) (s ∷ [])
          ∙ ap (λ (l : List Step). old ++ l) (sym (more_times n s));
    }
