use Rattle.laws_graphs.proofs.Marking.{marked-goals-follow}
use Rattle.laws_graphs.proofs.laws.marked_goals_follow.Goals as goal

pub returns : goal.returns
returns c = marked-goals-follow
