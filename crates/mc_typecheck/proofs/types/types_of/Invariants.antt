use Rattle.std.proofs.Common.{map, take}
use Rattle.mc_program.specs.PlainPrograms.{plain_type}
use Rattle.laws_made_types.specs.Makes.{kept}
use Rattle.mc_typecheck.specs.code.WrittenOut.{OutSoFar}
use Rattle.mc_typecheck.proofs.types.types_of.Given as goal

abbrev pub invariant-loop-k : goal.invariant-loop-k
invariant-loop-k l = OutSoFar l.rigid (kept l.flags (take l.k l.written)) (map plain_type l.types.items) l.numbers
