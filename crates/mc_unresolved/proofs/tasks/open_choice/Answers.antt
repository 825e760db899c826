use Rattle.mc_unresolved.proofs.Pendings.{put_three}
use Rattle.mc_unresolved.proofs.tasks.open_choice.Goals as goal

pub returns : goal.returns
returns c = put_three _ _ _ _ _ _ _ _ _ _ c.in_ok-put_goal.ensures c.in_ok-put_goal-2.ensures c.in_ok-put_goal-3.ensures
