use Rattle.mc_cmd.proofs.InTurn.{read_held}
use Rattle.mc_cmd.proofs.decide.read_file.Goals as goal

pub returns-clause-read : goal.returns-clause-read
returns-clause-read g c = read_held _ c.args.name.now c.in-Ok.bytes c.in_ok-of.field-0 (c.in-Ok.ensures {u = tt}).bytes (c.in_ok-of.ensures {u = tt})
