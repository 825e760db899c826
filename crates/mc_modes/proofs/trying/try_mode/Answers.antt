use Rattle.std.proofs.Common.{get_or}
use Rattle.mc_modes.specs.Signatures.{modes_at}
use Rattle.mc_modes.proofs.OneMode.{none_listed, some_listed, declared_at, still_next, passed, came, listed}
use Rattle.mc_modes.proofs.trying.try_mode.Goals as goal

pub returns-then-not-is_empty : goal.returns-then-not-is_empty
returns-then-not-is_empty c =
    passed c.args.sigs.now c.args.goal.now c.args.mode c.args.exported c.args.procs.now c.schedule.new.procs c.args.faults.now.items c.in-Ok.proc
    (some_listed c.args.faults.now.items c.args.faults.now.len c.args.faults.now.ok.0 c.if-not-is_empty.ensures)
    c.in-Ok.ensures

pub add-requires-clause-next : goal.add-requires-clause-next
add-requires-clause-next c =
    still_next c.args.procs.now c.schedule.new.procs c.args.goal.now c.in-Ok.ensures.becomes.others
    (c.requires.next (none_listed c.args.faults.now.items c.args.faults.now.len c.args.faults.now.ok.0 c.if-not-is_empty.ensures))

pub returns-else-not-is_empty : goal.returns-else-not-is_empty
returns-else-not-is_empty c =
    came c.args.sigs.now c.args.goal.now c.args.mode c.args.exported c.add.result c.args.procs.now c.schedule.new.procs c.add.new.procs c.args.faults.now.items c.in-Ok.proc
    (none_listed c.args.faults.now.items c.args.faults.now.len c.args.faults.now.ok.0 c.if-not-is_empty.ensures)
    c.in-Ok.ensures c.add.ensures

pub returns-in_ok-push-in-Err : goal.returns-in_ok-push-in-Err
returns-in_ok-push-in-Err c =
    listed c.args.sigs.now c.args.goal.now c.args.mode c.args.exported c.args.procs.now c.schedule.new.procs c.args.faults.now.items c.push.new.self.items c.in-Err.refusal (c.in_ok-rule-in-Err.rule, c.in_ok-rule-in-Err.what) (get_or c.modes_at.result.now c.args.mode c.index-modes_at-mode.result).at
    c.in-Err.ensures c.in_ok-rule-in-Err.ensures
    (declared_at c.modes_at.result.now (modes_at c.args.sigs.now c.args.goal.now.pred) c.args.mode c.index-modes_at-mode.result c.modes_at.ensures c.requires.stands.mode)
    c.in_ok-push-in-Err.ensures.items
