use Rattle.mc_type_phase.proofs.Differing.{differ_no_more}
use Rattle.mc_type_phase.proofs.difference.first_difference.Goals as goal
use Rattle.mc_source.specs.declared.name.Candidate.TheVariants as C

pub returns-then-place-second : goal.returns-then-place-second
returns-then-place-second c =
    differ_no_more c.args.first.now c.args.second.now c.loop-place.place (C.Con 0) _
    c.loop-place-test.true c.if-place-second.true c.loop-place.invariant
