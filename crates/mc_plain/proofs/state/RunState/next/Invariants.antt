use Rattle.std.proofs.Common.{◌≡◌, ℕ, List, []}
use Rattle.mc_plain.specs.code.RunState.{IsReady, rest_in, cost_in}
use Rattle.mc_plain.proofs.state.RunState.next.Given as goal

abbrev pub invariant-loop-took : goal.invariant-loop-took
invariant-loop-took l =
    record {
      ready : IsReady l.t l.self;
      shows : (input : List ℕ) → rest_in l.t l.fn.self input ≡ rest_in l.t l.self input;
    }

abbrev pub decreases-loop-took : goal.decreases-loop-took
decreases-loop-took l = cost_in l.t l.self []
