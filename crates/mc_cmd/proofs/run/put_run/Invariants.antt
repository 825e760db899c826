use Rattle.std.proofs.Common.{◌≡◌, ℕ, List, ◌++◌}
use Rattle.mc_program.specs.Printed.{names_of, printed}
use Rattle.mc_model.specs.EventList.{Ends}
use Rattle.mc_model.specs.Output.{query_bytes}
use Rattle.mc_cmd.specs.Call.{Wrote}
use Rattle.mc_cmd.specs.Ends.{stop_of}
use Rattle.mc_cmd.specs.code.Runs.{rest_bytes, size}
use Rattle.mc_cmd.proofs.run.put_run.Given as goal

abbrev pub invariant-steps : goal.invariant-steps
invariant-steps g l =
    record {
      put :
          (done : List ℕ) × Wrote (g.O.Sink.written l.initial.out) (g.O.Sink.written l.out) done
          × (query_bytes (printed (names_of l.program)) l.variables (g.R.Run.left l.initial.run) ≡ done ++ rest_bytes (printed (names_of l.program)) l.variables l.is_answered (g.R.Run.left l.run));
      runs : g.R.Run.is_run l.run;
      ends : Ends (g.R.Run.left l.run) → Ends (g.R.Run.left l.initial.run);
      end : stop_of (g.R.Run.left l.run) ≡ stop_of (g.R.Run.left l.initial.run);
      faults : g.O.Sink.faults l.out ≡ g.O.Sink.faults l.initial.out;
    }

abbrev pub decreases-steps : goal.decreases-steps
decreases-steps g l = size (g.R.Run.left l.run)
