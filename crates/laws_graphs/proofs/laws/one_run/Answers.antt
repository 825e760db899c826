use Rattle.laws_graphs.proofs.Running.{one-run}
use Rattle.laws_graphs.proofs.laws.one_run.Goals as goal

pub returns : goal.returns
returns c = one-run
