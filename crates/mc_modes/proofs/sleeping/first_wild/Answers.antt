use Rattle.std.proofs.Common.{length, arith, ◌<◌}
use Rattle.mc_procs.specs.Procedures.{source_of}
use Rattle.mc_modes.specs.Signatures.{declared_in}
use Rattle.mc_modes.specs.code.Sleeping.{may_be_mild}
use Rattle.mc_modes.proofs.DelayedGoals.{known-in, mild-on}
use Rattle.mc_modes.proofs.sleeping.first_wild.Goals as goal

pub may_be_mild-requires : goal.may_be_mild-requires
may_be_mild-requires c =
    let gs = c.args.goals.now in
    let k = c.loop-place.place in
    let h : k < length gs = omega (arith, c.loop-place-test.true) in
    known-in c.args.procs.now.program gs k c.index-goals-place.result h c.index-goals-place.is c.requires.known

pub loop-place-preserved : goal.loop-place-preserved
loop-place-preserved c =
    let gs = c.args.goals.now in
    let k = c.loop-place.place in
    let h : k < length gs = omega (arith, c.loop-place-test.true) in
    mild-on (may_be_mild (source_of c.args.procs.now) (declared_in c.args.sigs.now)) gs c.args.from k c.index-goals-place.result h c.index-goals-place.is c.loop-place.invariant (c.may_be_mild.ensures c.if-not-may_be_mild.false)
