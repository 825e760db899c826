use Rattle.std.proofs.Common.{◌∙◌, ap, sym}
use Rattle.mc_program.specs.PlainPrograms.{plain_type}
use Rattle.mc_self_check.proofs.SameTypes.{same_view}
use Rattle.mc_self_check.proofs.variables.has_type.Goals as goal

pub returns : goal.returns
returns c = (
  λ h. sym c.type_of.ensures ∙ ap plain_type (c.same_type.ensures.0 h),
  λ e. c.same_type.ensures.1 (same_view c.type_of.result.now c.args.t.now (c.type_of.ensures ∙ e)),
)
