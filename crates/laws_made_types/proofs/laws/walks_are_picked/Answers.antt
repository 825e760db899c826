use Rattle.laws_made_types.proofs.PickedWalks.{walks_are_picked}
use Rattle.laws_made_types.proofs.laws.walks_are_picked.Goals as goal

pub returns : goal.returns
returns c = walks_are_picked
