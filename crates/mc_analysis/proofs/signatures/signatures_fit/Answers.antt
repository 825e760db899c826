use Rattle.mc_analysis.proofs.Parts.{sigs_by}
use Rattle.mc_analysis.proofs.signatures.signatures_fit.Goals as goal

pub returns : goal.returns
returns c = sigs_by c.args.count c.args.sigs.now c.each_fits.result c.each_fits.ensures
