use Rattle.test_support.specs.Kept.{AreKept}
use Rattle.tests_insts.proofs.paths.inclusions_agree.Given as goal

abbrev pub invariant-loop-j : goal.invariant-loop-j
invariant-loop-j l = AreKept l.tested
