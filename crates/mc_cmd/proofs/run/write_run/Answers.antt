use Rattle.mc_program.specs.Printed.{names_of, printed}
use Rattle.mc_model.specs.Output.{query_bytes}
use Rattle.mc_cmd.proofs.Puts.{stands}
use Rattle.mc_cmd.proofs.Stops.{ends_unstopped}
use Rattle.mc_cmd.proofs.run.write_run.Goals as goal

pub returns-clause-output : goal.returns-clause-output
returns-clause-output g c =
    stands (g.O.Sink.written c.args.out.now) (g.O.Sink.written c.put_run.new.out) c.put_end.result (query_bytes (printed (names_of c.args.program.now)) c.args.variables.now (g.R.Run.left c.args.run.now)) (c.in_ok-stop.ensures {u = tt}).written

pub returns-clause-ends : goal.returns-clause-ends
returns-clause-ends g c = ends_unstopped c.in_ok-stop.stop (g.R.Run.left c.args.run.now) c.put_end.result (c.in_ok-stop.ensures {u = tt}).ends c.put_end.ensures.status
