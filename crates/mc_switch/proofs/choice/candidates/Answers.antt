use Rattle.mc_switch.specs.code.Choices.{may_be}
use Rattle.mc_switch.proofs.Tables.{next_candidate}
use Rattle.mc_switch.proofs.choice.candidates.Goals as goal

pub loop-opening-preserved : goal.loop-opening-preserved
loop-opening-preserved c =
    next_candidate (may_be c.args.insts.now c.args.out.now c.args.disjuncts.now) c.first_openings-opens.result.now c.loop-opening.opening-index _ c.loop-opening.candidates.items c.try_variable.new.candidates.items _
    c.loop-opening-test.true c.in_ok-try_variable.ensures c.loop-opening.invariant
