use Rattle.std.proofs.Common.{ap, ◌∙◌}
use Rattle.mc_switch.specs.Types.{inst_in}
use Rattle.mc_switch.proofs.forming.SwitchDetection.insts_after.Goals as goal

pub returns-clause-insts : goal.returns-clause-insts
returns-clause-insts c = ap inst_in (c.in_ok-after.ensures.items ∙ c.as_slice.ensures) ∙ c.in_ok-enter.ensures.insts
