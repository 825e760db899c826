use Rattle.test_support.specs.Kept.{AreKept}
use Rattle.tests_insts.proofs.paths.all_merges_agree.Given as goal

abbrev pub invariant-loop-i : goal.invariant-loop-i
invariant-loop-i l = AreKept l.tested
