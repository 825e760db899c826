use Rattle.std.proofs.Common.{arith}
use Rattle.mc_program.specs.PlainPrograms.{plain_type}
use Rattle.mc_goals.proofs.Drops.{next_mapped}
use Rattle.mc_goals.proofs.normal.add_types.Goals as goal

pub loop-made-preserved : goal.loop-made-preserved
loop-made-preserved c =
    let end = c.len-made-end.ensures in
    next_mapped plain_type c.args.types.now c.loop-made.made c.get.result.now c.in_ok-copy_type.field-0 c.loop-made.into.items c.push-in-loop-made.new.self.items _ (omega arith) c.get.ensures (c.in_ok-copy_type.ensures {u = tt}) (c.in_ok-push-2.ensures {u = tt}).items c.loop-made.invariant
