use Rattle.laws_graphs.proofs.GoalsFollow.{orders-follow}
use Rattle.laws_graphs.proofs.laws.orders_follow.Goals as goal

pub returns : goal.returns
returns c = orders-follow
