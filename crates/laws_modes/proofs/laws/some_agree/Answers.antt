use Rattle.laws_modes.proofs.ChosenNodes.{some-agree}
use Rattle.laws_modes.proofs.laws.some_agree.Goals as goal

pub returns : goal.returns
returns c = some-agree c.some_test_tells.ensures.insts c.some_test_tells.ensures.nodes
