use Rattle.mc_model.specs.EventList.{written}
use Rattle.mc_cmd.proofs.Puts.{stands}
use Rattle.mc_cmd.proofs.Stops.{ends_unstopped}
use Rattle.mc_cmd.proofs.main_run.write_main.Goals as goal

pub returns-clause-output : goal.returns-clause-output
returns-clause-output g c =
    stands (g.O.Sink.written c.args.out.now) (g.O.Sink.written c.put_texts.new.out) c.put_end.result (written (g.R.Run.left c.args.run.now)) (c.in_ok-stop.ensures {u = tt}).written

pub returns-clause-ends : goal.returns-clause-ends
returns-clause-ends g c = ends_unstopped c.in_ok-stop.stop (g.R.Run.left c.args.run.now) c.put_end.result (c.in_ok-stop.ensures {u = tt}).ends c.put_end.ensures.status
