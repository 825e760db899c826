use Rattle.mc_plain.specs.Running.{IsRun}
use Rattle.tests_running.proofs.lines.fed.Given as goal

abbrev pub invariant-loop : goal.invariant-loop
invariant-loop l = IsRun l.run
