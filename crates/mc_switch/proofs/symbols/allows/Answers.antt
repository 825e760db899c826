use Rattle.mc_procs.specs.Procedures.{source_of, insts_of}
use Rattle.mc_switch.proofs.Narrowing.{narrowed_tells}
use Rattle.mc_switch.proofs.symbols.allows.Goals as goal

pub returns : goal.returns
returns c =
    narrowed_tells (source_of c.args.procs.now) c.args.symbol (insts_of c.args.procs.now) c.args.i c.in_ok-narrowed.narrowed c.is_there.result c.in_ok-narrowed.ensures c.is_there.ensures
