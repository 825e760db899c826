-- Sets of lemmas that functions name.
use Rattle.std.proofs.lemmas.List.{map-append}

pub ruleset pushes = map-append
