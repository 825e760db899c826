use Rattle.std.proofs.Common.{◌≡◌, ℕ, List, refl, ap, ◌∙◌}
use Rattle.mc_source.specs.Determinism.{inferred}
use Rattle.mc_source.specs.declared.det.Det.{Det}
use Rattle.mc_model.specs.Scheduled.{Take}
use Rattle.mc_accepted.specs.Determined.{take_determinism}
use Rattle.mc_procs.specs.Procedures.{as_system}
use Rattle.mc_det.specs.declared.facts.Fact.{Fact}
use Rattle.mc_det.specs.code.Facts.{known_in}
use Rattle.mc_det.specs.code.Marks.{IsTold}
use Rattle.mc_det.specs.code.Points.{insts_in}
use Rattle.mc_det.specs.code.Walks.{typed, InSystems}
use Rattle.mc_det.proofs.Declaring.{if_ok_as}
use Rattle.mc_det.proofs.walk.Walk.take_told.Goals as goal

pub returns : goal.returns
returns c =
    let q = c.args.procs.now in
    let types = c.args.types.now in
    let b = insts_in c.args.self.now.point in
    let x = c.args.x in
    let s = c.args.symbol in
    let goal = Take x s c.args.args.now in
    if_ok_as c.take_determinism.result
    (λ det. InSystems q (λ S. det ≡ inferred (take_determinism S (typed types) b (known_in c.as_slice-known.result.now) x s c.as_slice-listed.result.now)))
    (λ det. (dets : List Det) → IsTold q types dets c.args.self.now goal goal det)
    (λ det is dets. record {
      goal = λ outcome. refl;
      det = λ outcome.
          is outcome
          ∙ ap (λ (fs : List Fact). inferred (take_determinism (as_system outcome q) (typed types) b (known_in fs) x s c.as_slice-listed.result.now)) c.as_slice-known.ensures.value
          ∙ ap (λ (l : List ℕ). inferred (take_determinism (as_system outcome q) (typed types) b (known_in c.args.self.now.known.items) x s l)) c.as_slice-listed.ensures.items;
    })
    c.take_determinism.ensures
