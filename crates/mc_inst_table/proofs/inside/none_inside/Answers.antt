use Rattle.std.proofs.Common.{sym, subst}
use Rattle.mc_inst_table.specs.code.Ends.{bodies_of}
use Rattle.mc_inst_table.specs.code.Insides.{AllNone}
use Rattle.mc_inst_table.proofs.PuttingInside.{none_inside}
use Rattle.mc_inst_table.proofs.inside.none_inside.Goals as goal

pub returns-clause-inside : goal.returns-clause-inside
returns-clause-inside c =
    none_inside (bodies_of c.args.bodies.now) c.in_ok-inside.inside
    (subst AllNone (sym c.in_ok-inside.ensures.elements) c.loop-k.invariant.1)
