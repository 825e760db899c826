use Rattle.std.proofs.Common.{◌++◌, List, map, ap, refl, ◌∙◌}
use Rattle.mc_unresolved.specs.Steps.{plain_walk_step}
use Rattle.mc_unresolved.specs.code.Tasks.{agenda}
use Rattle.mc_unresolved.specs.declared.steps.WalkStep.{WalkStep}
use Rattle.mc_unresolved.proofs.Pendings.{started, taken_on, taken_less}
use Rattle.mc_unresolved.proofs.tasks.walk_steps.Goals as goal

pub loop-task-init : goal.loop-task-init
loop-task-init c =
    ap (λ (xs : List WalkStep). map plain_walk_step xs ++ agenda c.put_terms.new.pending.items) (c.in_ok-steps.ensures {u = tt}).items
    ∙ started c.args.clause.now _ c.as_slice-head.result.now c.in_ok-pending.pending.items c.push.new.self.items c.put.new.pending.items c.put_terms.new.pending.items (c.in_ok-pending.ensures {u = tt}).items c.in_ok-push.ensures.items refl c.as_slice-head.ensures.items c.in_ok-put.ensures c.in_ok-put_terms.ensures

pub loop-task-smaller : goal.loop-task-smaller
loop-task-smaller c = taken_less c.in-Some.task _ _ _ _ _ c.in-Some.ensures.items c.in_ok-take.ensures

pub loop-task-preserved : goal.loop-task-preserved
loop-task-preserved c = taken_on c.in-Some.task _ _ _ _ _ _ c.in-Some.ensures.items c.loop-task.invariant c.in_ok-take.ensures
