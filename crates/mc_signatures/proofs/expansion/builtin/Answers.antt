use Rattle.mc_signatures.proofs.Expanding.{builtin_is}
use Rattle.mc_signatures.proofs.expansion.builtin.Goals as goal

pub returns : goal.returns
returns c = builtin_is c.args.node c.if-node-ge4.false
