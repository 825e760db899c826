use Rattle.mc_switch.proofs.ClosedForms.{closed_forms}
use Rattle.mc_switch.proofs.law.closed_forms.Goals as goal

pub returns : goal.returns
returns c = closed_forms
