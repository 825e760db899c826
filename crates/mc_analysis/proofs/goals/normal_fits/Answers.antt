use Rattle.mc_analysis.proofs.Parts.{normal_by}
use Rattle.mc_analysis.proofs.goals.normal_fits.Goals as goal

pub returns : goal.returns
returns c = normal_by c.args.procs.now c.args.mode.now c.args.goal.now c.has_parts.result c.has_parts.ensures
