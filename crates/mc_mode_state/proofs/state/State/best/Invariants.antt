use Rattle.std.proofs.Common.{◌≤◌, ℕ, List, length, drop}
use Rattle.mc_program.specs.Programs.{TypeTerm}
use Rattle.mc_accepted.specs.Arranged.{Declared}
use Rattle.mc_accepted.specs.NodeOracle.{NodeOracle}
use Rattle.mc_procs.specs.Procedures.{source_of}
use Rattle.mc_mode_state.specs.States.{point_of}
use Rattle.mc_mode_state.specs.Agreeing.{OracleAgrees, LaterByTrail}
use Rattle.mc_mode_state.specs.code.Picking.{PickFits, IsPicked}
use Rattle.mc_mode_state.proofs.PickedModes.{best_of}
use Rattle.mc_mode_state.proofs.state.State.best.Given as goal

abbrev pub invariant-loop-k : goal.invariant-loop-k
invariant-loop-k l =
    record {
      within : l.k ≤ length l.modes;
      stepped : LaterByTrail l.fn.procs l.procs l.self l.self;
      fits : PickFits l.modes l.xs (point_of l.self.insts.items) l.found;
      rest :
          (declared : ℕ → List Declared) (C : NodeOracle) (T : ℕ → TypeTerm) → OracleAgrees l.procs l.self C T
          → IsPicked l.modes l.xs (point_of l.self.insts.items) l.found
          (best_of C (source_of l.fn.procs) declared T l.modes l.xs (point_of l.self.insts.items)
          (drop l.k l.modes));
    }

abbrev pub decreases-loop-k : goal.decreases-loop-k
decreases-loop-k l = l.k
