use Rattle.std.proofs.Common.{◌↔◌, map, drop}
use Rattle.mc_program.specs.PlainPrograms.{plain_type}
use Rattle.mc_accepted.specs.ProperTypes.{EachProper}
use Rattle.mc_procs.specs.Procedures.{parameters_in}
use Rattle.mc_self_check.proofs.proper.+proper.Given as goal

abbrev pub invariant-all_proper-loop-t : goal.invariant-all_proper-loop-t
invariant-all_proper-loop-t l =
    EachProper (parameters_in l.program) (map plain_type (drop l.t-index l.types))
    ↔ EachProper (parameters_in l.program) (map plain_type l.types)
