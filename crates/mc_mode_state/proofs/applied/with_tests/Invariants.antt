use Rattle.std.proofs.Common.{◌≡◌, ◌∷◌, map, take}
use Rattle.mc_model.specs.PlainGoals.{plain_node}
use Rattle.mc_mode_state.specs.code.Applying.{test_of}
use Rattle.mc_mode_state.proofs.applied.with_tests.Given as goal

abbrev pub invariant-loop-test : goal.invariant-loop-test
invariant-loop-test l =
    map plain_node l.goals.items
    ≡ plain_node l.fn.goal ∷ map test_of (take l.test-index l.tests)
