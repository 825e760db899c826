use Rattle.mc_modes.proofs.Judgements.{judges-refused}
use Rattle.mc_modes.proofs.arranging.ended.Goals as goal

pub returns-in-Ok : goal.returns-in-Ok
returns-in-Ok c = (c.in-Ok.ensures.0, c.types_in.ensures, c.in-Ok.ensures.1)

pub returns-in-Err : goal.returns-in-Err
returns-in-Err c =
    judges-refused c.args.head.now c.args.last.now c.args.part c.args.trail c.args.procs.now c.judged.new.procs c.args.state c.in-Err.refusal c.in-Err.ensures
