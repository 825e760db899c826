use Rattle.mc_analysis.proofs.Parts.{mode_by}
use Rattle.mc_analysis.proofs.signatures.mode_fits.Goals as goal

pub returns : goal.returns
returns c = mode_by c.args.count c.args.mode.now c.has_parts.result c.has_parts.ensures
