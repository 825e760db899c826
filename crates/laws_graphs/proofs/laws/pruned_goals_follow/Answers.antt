use Rattle.laws_graphs.proofs.Marking.{pruned-goals-follow}
use Rattle.laws_graphs.proofs.laws.pruned_goals_follow.Goals as goal

pub returns : goal.returns
returns c = pruned-goals-follow
