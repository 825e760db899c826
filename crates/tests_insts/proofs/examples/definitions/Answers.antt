use Rattle.tests_insts.proofs.ComputedDefinitions.{forward_are, ring_is, inside_is, both_are}
use Rattle.tests_insts.proofs.examples.definitions.Goals as goal

pub returns : goal.returns
returns c = record { forward = forward_are; ring = ring_is; inside = inside_is; both = both_are }
