use Rattle.std.proofs.Common.{◌≡◌, ℕ, List, drop}
use Rattle.mc_program.specs.Programs.{TypeTerm}
use Rattle.mc_accepted.specs.Arranged.{Declared, first_unmet}
use Rattle.mc_accepted.specs.NodeOracle.{NodeOracle, of_nodes}
use Rattle.mc_procs.specs.Procedures.{source_of}
use Rattle.mc_mode_state.specs.States.{point_of}
use Rattle.mc_mode_state.specs.Agreeing.{OracleAgrees, LaterByTrail}
use Rattle.mc_mode_state.proofs.state.State.unmet.Given as goal

abbrev pub invariant-loop-k : goal.invariant-loop-k
invariant-loop-k l =
    record {
      stepped : LaterByTrail l.fn.procs l.procs l.self l.self;
      rest :
          (declared : ℕ → List Declared) (C : NodeOracle) (T : ℕ → TypeTerm) → OracleAgrees l.procs l.self C T
          → first_unmet (of_nodes C) (source_of l.fn.procs) declared T l.k (drop l.k l.head)
          (drop l.k l.last) (point_of l.self.insts.items)
          ≡ first_unmet (of_nodes C) (source_of l.fn.procs) declared T 0 l.head l.last
          (point_of l.self.insts.items);
    }
