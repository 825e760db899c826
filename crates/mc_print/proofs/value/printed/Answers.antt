use Rattle.std.proofs.Common.{length, arith}
use Rattle.mc_print.proofs.Pendings.{turned, next_weight, next_named}
use Rattle.mc_print.proofs.value.printed.Goals as goal

pub loop-task-preserved : goal.loop-task-preserved
loop-task-preserved c =
    let written = c.in_ok-write_task.ensures in
    let named = next_named _ _ _ c.in-Some.ensures.items (length c.args.program.now.symbols) c.loop-task.invariant.1 in
    (turned c.args.program.now _ _ _ _ _ _ c.in-Some.task c.in-Some.ensures.items c.loop-task.invariant.0 written, written.named named.1)

pub loop-task-smaller : goal.loop-task-smaller
loop-task-smaller c =
    let written = c.in_ok-write_task.ensures in
    omega (arith, written.less, next_weight _ _ c.in-Some.task c.in-Some.ensures.items)

pub write_task-requires : goal.write_task-requires
write_task-requires c = (next_named _ _ _ c.in-Some.ensures.items (length c.args.program.now.symbols) c.loop-task.invariant.1).0
