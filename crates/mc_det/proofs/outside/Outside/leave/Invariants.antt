use Rattle.std.proofs.Common.{◌≡◌, ℕ, ◌≤◌, ◌<◌, ◌+◌, length, get_or, drop}
use Rattle.mc_accepted.specs.Ordered.{times_in}
use Rattle.mc_det.proofs.outside.Outside.leave.Given as goal

abbrev pub invariant-loop-x : goal.invariant-loop-x
invariant-loop-x l =
    record {
      count : length l.self ≡ length l.fn.self;
      enough :
          (x : ℕ)
          → x < length l.fn.self → times_in x (drop l.x-index l.variables) ≤ get_or l.self x 0;
      fewer :
          (x : ℕ)
          → x < length l.fn.self
          → get_or l.self x 0 + times_in x l.variables
          ≡ get_or l.fn.self x 0 + times_in x (drop l.x-index l.variables);
    }
