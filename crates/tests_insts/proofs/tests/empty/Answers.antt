use Rattle.tests_insts.proofs.Programs.{empty_fits}
use Rattle.tests_insts.proofs.tests.empty.Goals as goal

pub returns : goal.returns
returns c = empty_fits _ c.new.ensures c.new-2.ensures
