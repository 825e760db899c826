use Rattle.mc_unresolved.specs.declared.tasks.Task.TheVariants as T
use Rattle.mc_unresolved.proofs.Pendings.{pushed}
use Rattle.mc_unresolved.proofs.tasks.put.Goals as goal

pub returns : goal.returns
returns c = pushed c.args.pending.now.items c.push.new.self.items (T.Step c.args.step) c.in_ok-push.ensures.items
