use Rattle.std.proofs.Common.{◌≡◌, ℕ, List, ◌++◌}
use Rattle.mc_model.specs.EventList.{Ends, written}
use Rattle.mc_cmd.specs.Call.{Wrote}
use Rattle.mc_cmd.specs.Ends.{stop_of}
use Rattle.mc_cmd.specs.code.Runs.{size}
use Rattle.mc_cmd.proofs.main_run.put_texts.Given as goal

abbrev pub invariant-steps : goal.invariant-steps
invariant-steps g l =
    record {
      put :
          (done : List ℕ) × Wrote (g.O.Sink.written l.initial.out) (g.O.Sink.written l.out) done
          × (written (g.R.Run.left l.initial.run) ≡ done ++ written (g.R.Run.left l.run));
      runs : g.R.Run.is_run l.run;
      ends : Ends (g.R.Run.left l.run) → Ends (g.R.Run.left l.initial.run);
      end : stop_of (g.R.Run.left l.run) ≡ stop_of (g.R.Run.left l.initial.run);
      faults : g.O.Sink.faults l.out ≡ g.O.Sink.faults l.initial.out;
    }

abbrev pub decreases-steps : goal.decreases-steps
decreases-steps g l = size (g.R.Run.left l.run)
