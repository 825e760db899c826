use Rattle.std.proofs.Common.{◌<◌, length, sym, arith}
use Rattle.mc_goals.specs.code.Outside.{count}
use Rattle.mc_goals.proofs.OutsideCounts.{more_none, next_more}
use Rattle.mc_goals.proofs.outside.Outside.add_all.Goals as goal

pub loop-variable-init : goal.loop-variable-init
loop-variable-init c = sym (more_none (count c.args.self.now))

pub loop-variable-preserved : goal.loop-variable-preserved
loop-variable-preserved c =
    let i = c.loop-variable.variable-index in
    let inside : i < length c.args.variables.now = omega arith in
    next_more (count c.args.self.now) (count c.loop-variable.self) (count c.add.new.self) c.args.variables.now i inside (c.in_ok-add.ensures {u = tt}) c.loop-variable.invariant
