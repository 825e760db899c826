use Rattle.mc_flat_code.specs.Running.{body_at}
use Rattle.mc_flat_code.proofs.Bodies.{body_grows}
use Rattle.mc_flat_code.proofs.program.FlatQuery.over.Goals as goal

pub returns-clause-program : goal.returns-clause-program
returns-clause-program c =
    λ procs s k.
    body_grows c.args.program.code c.body.new.self c.in_ok-query.ensures.grows (body_at c.args.program k) (procs k) (s k)

pub returns-clause-mentions : goal.returns-clause-mentions
returns-clause-mentions c = λ m x. c.in_ok-query.ensures.brings.only m x
