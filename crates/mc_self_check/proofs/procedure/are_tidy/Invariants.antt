use Rattle.std.proofs.Common.{◌≡◌, ◌↔◌, map, drop}
use Rattle.mc_accepted.specs.Tidy.{EachTidy}
use Rattle.mc_insts.specs.Graphs.{count_of}
use Rattle.mc_procs.specs.Procedures.{source_of, insts_of, with_insts}
use Rattle.mc_procs.specs.VariableTypes.{type_in}
use Rattle.mc_self_check.proofs.procedure.are_tidy.Given as goal

abbrev pub invariant-loop-place : goal.invariant-loop-place
invariant-loop-place l =
    (EachTidy (source_of l.fn.procs) (insts_of l.fn.procs) (drop l.place l.insts) (map (type_in l.types) (drop l.place l.variables))
    ↔ EachTidy (source_of l.fn.procs) (insts_of l.fn.procs) l.insts (map (type_in l.types) l.variables))
    × (l.procs ≡ with_insts l.fn.procs l.procs.insts)
    × (insts_of l.procs ≡ insts_of l.fn.procs)
    × (count_of l.procs.insts ≡ count_of l.fn.procs.insts)
