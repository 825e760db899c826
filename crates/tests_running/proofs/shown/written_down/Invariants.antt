use Rattle.mc_plain.specs.Running.{IsRun}
use Rattle.tests_running.proofs.shown.written_down.Given as goal

abbrev pub invariant-loop : goal.invariant-loop
invariant-loop l = IsRun l.run
