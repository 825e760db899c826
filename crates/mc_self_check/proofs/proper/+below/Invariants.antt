use Rattle.std.proofs.Common.{◌↔◌, map, drop}
use Rattle.mc_program.specs.PlainPrograms.{plain_type}
use Rattle.mc_accepted.specs.ProperTypes.{EachBelow}
use Rattle.mc_self_check.proofs.proper.+below.Given as goal

abbrev pub invariant-all_below-loop-t : goal.invariant-all_below-loop-t
invariant-all_below-loop-t l =
    EachBelow l.top (map plain_type (drop l.t-index l.types)) ↔ EachBelow l.top (map plain_type l.types)
