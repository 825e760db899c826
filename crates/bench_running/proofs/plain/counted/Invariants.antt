use Rattle.mc_plain.specs.Running.{IsRun}
use Rattle.bench_running.proofs.plain.counted.Given as goal

abbrev pub invariant-loop-count : goal.invariant-loop-count
invariant-loop-count l = IsRun l.run
