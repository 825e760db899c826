use Rattle.laws_types.proofs.Typing.{live_at_once}
use Rattle.laws_types.proofs.examples.live_at_once.Goals as goal

pub returns : goal.returns
returns c = live_at_once
