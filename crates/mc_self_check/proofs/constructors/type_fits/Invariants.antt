use Rattle.mc_program.specs.PlainPrograms.{plain_program}
use Rattle.mc_self_check.proofs.Distinct.{Seen}
use Rattle.mc_self_check.proofs.constructors.type_fits.Given as goal

abbrev pub invariant-loop-number : goal.invariant-loop-number
invariant-loop-number l = Seen (plain_program l.program) l.u l.symbols l.number-index l.listed
