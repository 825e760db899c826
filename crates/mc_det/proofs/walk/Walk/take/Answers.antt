use Rattle.std.proofs.Common.{◌∷◌, [], List, ap, ◌∙◌}
use Rattle.std.proofs.lemmas.Result.{on_ok_weaker}
use Rattle.mc_source.specs.declared.det.Det.{Det}
use Rattle.mc_model.specs.Scheduled.{Take}
use Rattle.mc_accepted.specs.Determined.{take_determinism}
use Rattle.mc_source.specs.Determinism.{inferred}
use Rattle.mc_procs.specs.Procedures.{as_system}
use Rattle.mc_det_constraints.specs.declared.constraint.Step.TheVariants as T
use Rattle.mc_det.specs.Bodies.{constraint_in}
use Rattle.mc_det.specs.declared.facts.Fact.{Fact}
use Rattle.mc_det.specs.code.Facts.{known_in}
use Rattle.mc_det.specs.code.Points.{insts_in}
use Rattle.mc_det.specs.code.Walks.{typed}
use Rattle.mc_det.proofs.Walking.{puts_steps}
use Rattle.mc_det.proofs.walk.Walk.take.Goals as goal

pub returns : goal.returns
returns c =
    let w = c.args.self.now in
    let types = c.args.types.now in
    on_ok_weaker c.put.result
    (λ p.
    puts_steps c.args.procs.now w c.put.new.self (T.Fixed c.in_ok-d.d ∷ []) (λ S b known. constraint_in S (typed types) b known (Take c.args.x c.args.symbol c.args.args.now)) p
    (λ outcome.
    ap (λ (d : Det). T.Fixed d ∷ [])
    (c.in_ok-d.ensures outcome
    ∙ ap (λ (fs : List Fact). inferred (take_determinism (as_system outcome c.args.procs.now) (typed types) (insts_in w.point) (known_in fs) c.args.x c.args.symbol c.args.args.now)) c.as_slice-known.ensures.value)))
    c.put.ensures
