use Rattle.std.proofs.Common.{arith}
use Rattle.mc_names.specs.Linked.{plain_names}
use Rattle.mc_type_phase.proofs.Sights.{alike_more, alike_all}
use Rattle.mc_type_phase.proofs.alike.see_alike.Goals as goal

pub loop-number-init : goal.loop-number-init
loop-number-init c = λ u below. absurd (omega arith)

pub loop-number-preserved : goal.loop-number-preserved
loop-number-preserved c =
    alike_more (plain_names c.args.names.now) c.args.own c.args.other c.loop-number.number
    c.loop-number.invariant (c.is_alike.ensures c.if-not-is_alike.false)

pub returns : goal.returns
returns c =
    λ yes.
    alike_all c.args.names.now c.args.own c.args.other c.loop-number.number c.loop-number.invariant
    (omega (arith, c.loop-number-test.false, c.len-count.ensures))
