use Rattle.std.proofs.Common.{ap, ◌-◌, arith}
use Rattle.mc_unresolved.specs.Unresolved.{plain_unresolved_goal}
use Rattle.mc_unresolved.specs.code.Tasks.{goal_weight}
use Rattle.mc_accepted.specs.Resolving.{goal_steps}
use Rattle.mc_unresolved.proofs.Pendings.{goals_more}
use Rattle.mc_unresolved.proofs.tasks.put_goals.Goals as goal

pub loop-k-preserved : goal.loop-k-preserved
loop-k-preserved c =
    goals_more c.args.goals.now c.args.pending.now.items c.loop-k.pending.items c.push.new.self.items c.loop-k.k (c.loop-k.k - 1) _ c.index-goals-k.result c.in_ok-push.ensures.items
    (omega (arith, c.loop-k-test.true)) c.loop-k.invariant (ap (λ g. goal_steps (plain_unresolved_goal g)) c.index-goals-k.is) (ap (λ g. goal_weight (plain_unresolved_goal g)) c.index-goals-k.is)
