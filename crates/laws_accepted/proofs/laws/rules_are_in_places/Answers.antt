use Rattle.laws_accepted.proofs.Places.{by_place_is_in_places}
use Rattle.laws_accepted.proofs.laws.rules_are_in_places.Goals as goal

pub returns : goal.returns
returns c = by_place_is_in_places
