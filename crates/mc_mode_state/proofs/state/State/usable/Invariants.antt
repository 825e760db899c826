use Rattle.std.proofs.Common.{◌≡◌, ℕ, List, drop}
use Rattle.mc_program.specs.Programs.{TypeTerm}
use Rattle.mc_accepted.specs.Arranged.{Declared, usable}
use Rattle.mc_accepted.specs.NodeOracle.{NodeOracle, of_nodes}
use Rattle.mc_accepted.specs.Ordered.{zipped}
use Rattle.mc_procs.specs.Procedures.{source_of}
use Rattle.mc_mode_state.specs.States.{point_of}
use Rattle.mc_mode_state.specs.Agreeing.{OracleAgrees, LaterByTrail}
use Rattle.mc_mode_state.proofs.state.State.usable.Given as goal

abbrev pub invariant-loop-k : goal.invariant-loop-k
invariant-loop-k l =
    record {
      stepped : LaterByTrail l.fn.procs l.procs l.self l.self;
      rest :
          (declared : ℕ → List Declared) (C : NodeOracle) (T : ℕ → TypeTerm) → OracleAgrees l.procs l.self C T
          → usable (of_nodes C) (source_of l.fn.procs) declared T l.xs
          (zipped (drop l.k l.mode.first) (drop l.k l.mode.last)) (drop l.k l.xs)
          (point_of l.self.insts.items)
          ≡ usable (of_nodes C) (source_of l.fn.procs) declared T l.xs
          (zipped l.mode.first l.mode.last) l.xs (point_of l.self.insts.items);
    }
