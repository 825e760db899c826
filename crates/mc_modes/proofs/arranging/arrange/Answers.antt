use Rattle.std.proofs.Common.{sym, subst}
use Rattle.mc_model.specs.PlainGoals.{plain_flat}
use Rattle.mc_insts.specs.Graphs.{count_of}
use Rattle.mc_modes.specs.code.Judging.{Judges}
use Rattle.mc_modes.proofs.Backing.{trail-marked}
use Rattle.mc_modes.proofs.Counts.{below-more}
use Rattle.mc_modes.proofs.Judgements.{heads-later, arranges-judged, arranges-fault}
use Rattle.mc_modes.proofs.arranging.arrange.Goals as goal

pub ended-requires-clause-head : goal.ended-requires-clause-head
ended-requires-clause-head c =
    heads-later c.args.sigs.now c.args.types.items c.args.head.now c.args.first.now c.args.last.now (plain_flat c.args.body.now) c.args.procs.now c.in_ok-state.state
    c.in_ok-state.ensures c.requires.head c.requires.variables c.try_goal.new.state c.in-Ok.ensures.does.stepped.later.more

pub ended-requires-clause-last : goal.ended-requires-clause-last
ended-requires-clause-last c =
    below-more (count_of c.args.procs.now.insts) (count_of c.try_goal.new.procs.insts) c.args.last.now
    c.in-Ok.ensures.does.stepped.moved.nodes.grown.more c.requires.last

pub returns-in-Ok : goal.returns-in-Ok
returns-in-Ok c =
    arranges-judged c.args.sigs.now c.args.types.items c.args.head.now c.args.first.now c.args.last.now (plain_flat c.args.body.now) c.args.procs.now c.in_ok-state.state
    c.in_ok-state.ensures c.requires.head c.requires.variables c.try_goal.new.procs c.ended.new.procs c.try_goal.new.state c.in-Ok.part c.ended.result
    c.in-Ok.ensures.does c.in-Ok.ensures.alike
    (subst (λ n. Judges c.args.head.now c.args.last.now c.in-Ok.part n c.try_goal.new.procs c.ended.new.procs c.try_goal.new.state c.ended.result)
    (sym (trail-marked c.in_ok-state.state c.mark-mark.result c.mark-mark.ensures)) c.ended.ensures)

pub returns-in-Err-Fault : goal.returns-in-Err-Fault
returns-in-Err-Fault c =
    let d = rw c.in-Err-Fault.field-0-is at c.in-Err-Fault.ensures.does in (
      c.try_goal.new.state,
      rw c.in-Err-Fault.field-0-is
          (arranges-fault c.args.sigs.now c.args.types.items c.args.head.now c.args.first.now c.args.last.now (plain_flat c.args.body.now) c.args.procs.now c.in_ok-state.state
          c.in_ok-state.ensures c.requires.head c.requires.variables c.try_goal.new.procs c.try_goal.new.state c.in-Err-Fault.fault d),
    )
