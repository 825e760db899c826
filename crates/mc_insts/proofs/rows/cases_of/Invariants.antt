use Rattle.std.proofs.Common.{take}
use Rattle.mc_program.specs.PlainPrograms.{plain_program}
use Rattle.mc_insts.specs.code.Lists.{Extends}
use Rattle.mc_insts.specs.code.TypeRows.{terms, terms_at}
use Rattle.mc_insts.specs.code.Tables.{CasesAre}
use Rattle.mc_insts.proofs.rows.cases_of.Given as goal

abbrev pub invariant-loop-constructor : goal.invariant-loop-constructor
invariant-loop-constructor l = record {
  extends : Extends (terms l.fn.types) (terms l.types);
  cases : CasesAre (plain_program l.program) (terms l.types) (terms_at (terms l.fn.types) l.env) l.cases.items (take l.constructor-index l.constructors);
}
