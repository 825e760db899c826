use Rattle.mc_analysis.proofs.Committing.{committed_by}
use Rattle.mc_analysis.proofs.determinisms.committed_are_many.Goals as goal

pub returns : goal.returns
returns c = committed_by c.args.sigs.now c.each_has_many.result c.each_has_many.ensures
