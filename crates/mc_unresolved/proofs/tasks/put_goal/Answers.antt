use Rattle.mc_unresolved.proofs.Pendings.{pushed}
use Rattle.mc_unresolved.proofs.tasks.put_goal.Goals as goal

pub returns : goal.returns
returns c = pushed c.args.pending.now.items c.push.new.self.items _ c.in_ok-push.ensures.items
