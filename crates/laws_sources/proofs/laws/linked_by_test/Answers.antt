use Rattle.laws_sources.proofs.Tested.{linked_by_test}
use Rattle.laws_sources.proofs.laws.linked_by_test.Goals as goal

pub returns : goal.returns
returns c = linked_by_test
