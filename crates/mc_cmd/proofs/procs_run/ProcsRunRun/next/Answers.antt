use Rattle.mc_plain.specs.Running.{run_of}
use Rattle.mc_cmd.proofs.Procs.{goes_on}
use Rattle.mc_cmd.proofs.procs_run.ProcsRunRun.next.Goals as goal

pub returns-clause-step : goal.returns-clause-step
returns-clause-step c =
    goes_on c.in_ok-step.step c.wanting_nothing.result (run_of c.args.self.now.plain) (run_of c.next_if_bound.new.self) c.wanting_nothing.ensures (c.in_ok-step.ensures {u = tt}).next
