-- Insts that are tested are those of their program.
use Rattle.mc_program.specs.PlainPrograms.{plain_program}
use Rattle.mc_insts.specs.Kept.{AreOf}
use Rattle.test_support.specs.declared.tested.TestedInsts.{TestedInsts}

abbrev pub AreKept : TestedInsts → Type 0
AreKept t = AreOf (plain_program t.program) t.insts
