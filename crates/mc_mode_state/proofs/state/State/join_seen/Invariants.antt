use Rattle.std.proofs.Common.{◌≡◌, ℕ, List, length, take, drop}
use Rattle.mc_accepted.specs.Arranged.{Point}
use Rattle.mc_mode_state.specs.Agreeing.{LaterByTrail}
use Rattle.mc_mode_state.specs.Merged.{rows_at}
use Rattle.mc_mode_state.specs.code.Columns.{ends_differ, JoinedSoFar}
use Rattle.mc_mode_state.proofs.Leasts.{first_that}
use Rattle.mc_mode_state.proofs.state.State.join_seen.Given as goal

abbrev pub invariant-loop-k : goal.invariant-loop-k
invariant-loop-k l =
    record {
      count : length l.self.insts.items ≡ length l.fn.self.insts.items;
      stepped : LaterByTrail l.fn.procs l.procs l.fn.self l.self;
      joined : JoinedSoFar l.seen (take l.k l.seen) l.ends l.procs l.fn.self l.self;
      differing :
          (ends : List (Point ℕ)) → l.ends ≡ rows_at l.seen ends
          → first_that (ends_differ ends) (drop l.k l.seen) ≡ first_that (ends_differ ends) l.seen;
    }
