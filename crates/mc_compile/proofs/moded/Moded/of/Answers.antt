use Rattle.mc_compile.proofs.Modes.{modes_are}
use Rattle.mc_compile.proofs.moded.Moded.of.Goals as goal

pub returns-clause-tells : goal.returns-clause-tells
returns-clause-tells c = λ s plain same shows. modes_are s c.args.first plain c.in_ok-moded.moded same ((c.in_ok-moded.ensures {u = tt}).moded plain shows)
