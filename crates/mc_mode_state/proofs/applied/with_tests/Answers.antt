use Rattle.std.proofs.Common.{◌∙◌, ◌≤◌, ℕ, List, length, map, ap, arith}
use Rattle.mc_model.specs.PlainGoals.{plain_node}
use Rattle.mc_model.specs.Scheduled.{nodes, node_then}
use Rattle.mc_mode_state.specs.code.Applying.{test_of}
use Rattle.mc_mode_state.proofs.Freshening.{tests-are, take-past}
use Rattle.mc_mode_state.proofs.applied.with_tests.Goals as goal

pub returns : goal.returns
returns c =
    let ts = c.args.tests.now in
    let k = c.loop-test.test-index in
    let h : length ts ≤ k = omega arith in
    ap nodes c.loop-test.invariant
    ∙ ap (node_then (plain_node c.args.goal)) (ap (λ (us : List (ℕ × ℕ)). nodes (map test_of us)) (take-past ts k h) ∙ tests-are ts)
