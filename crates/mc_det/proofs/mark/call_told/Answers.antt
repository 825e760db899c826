use Rattle.std.proofs.Common.{ap, ◌∙◌}
use Rattle.mc_source.specs.Determinism.{inferred, row_of}
use Rattle.mc_det_constraints.specs.Least.{assigned}
use Rattle.mc_det.proofs.Telling.{call_tells}
use Rattle.mc_det.proofs.mark.call_told.Goals as goal

pub returns : goal.returns
returns c =
    c.called.ensures
    ∙ ap inferred (call_tells c.is_empty.result c.args.implied.now (row_of (assigned c.args.dets.now c.args.k)) c.is_empty.ensures.0 c.is_empty.ensures.1)
