use Rattle.std.proofs.Common.{◌≡◌, ℕ, List, length}
use Rattle.mc_program.specs.Programs.{TypeTerm}
use Rattle.mc_accepted.specs.Arranged.{Declared, after}
use Rattle.mc_accepted.specs.NodeOracle.{NodeOracle, of_nodes}
use Rattle.mc_accepted.specs.Ordered.{zipped}
use Rattle.mc_procs.specs.Procedures.{source_of}
use Rattle.mc_mode_state.specs.States.{point_of}
use Rattle.mc_mode_state.specs.Agreeing.{OracleAgrees, LaterByTrail}
use Rattle.mc_mode_state.proofs.LeftInsts.{leaving_from}
use Rattle.mc_mode_state.proofs.state.State.leave_arguments.Given as goal

abbrev pub invariant-loop-k : goal.invariant-loop-k
invariant-loop-k l =
    record {
      stepped : LaterByTrail l.fn.procs l.procs l.fn.self l.self;
      count : length l.self.insts.items ≡ length l.fn.self.insts.items;
      rest :
          (declared : ℕ → List Declared) (C : NodeOracle) (T : ℕ → TypeTerm) → OracleAgrees l.procs l.self C T
          → leaving_from (of_nodes C) (source_of l.fn.procs) declared T l.mode.first l.mode.last l.xs
          (point_of l.fn.self.insts.items) l.k l.given.items (point_of l.self.insts.items)
          ≡ after (of_nodes C) (source_of l.fn.procs) declared T (zipped l.mode.first l.mode.last) l.xs
          (point_of l.fn.self.insts.items);
    }
