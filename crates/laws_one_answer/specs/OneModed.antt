-- What the phase of declared modes answers in two ways is one program in one list of modes, but for the
-- numbers of insts. (Mercury Language Reference Manual: Modes; the query is this project's.)
use Rattle.std.specs.Prelude.{◌≡◌, Bool}
use Rattle.mc_program.specs.Programs.{TypeTerm}
use Rattle.mc_program.specs.PlainPrograms.{plain_program}
use Rattle.laws_order.specs.SomeTest.{TypesMet}
use Rattle.mc_insts.specs.Defining.{plain_definitions}
use Rattle.mc_compile.specs.declared.moded.Moded.{Moded}
use Rattle.mc_compile.specs.Linking.{PlainNamed}
use Rattle.mc_compile.specs.Ruling.{IsModed}
use Rattle.mc_analysis.specs.Rules.{AnalysisGives}
use Rattle.mc_analysis.specs.declared.rules.AnalysisResult.{AnalysisResult}
use Rattle.laws_one_answer.specs.ModesMeanOne.{NodesAreOne, SigsAreOne, ArePlaced}
use Rattle.laws_one_answer.specs.OneAnswer.{OneRuled, ComeToFit, AreNamedApart}
use Rattle.laws_one_answer.specs.OneWhole.{WholeIsOne}

-- One program as plain data, whose signatures stand in the order of its predicates and are one by the two
-- lists of definitions; and one number of the query's procedure, where there is a query.
pub record ModedIsOne (m n : Moded) : Type 0 where
  pub whole : WholeIsOne m.whole n.whole
  pub sigs :
      SigsAreOne
      (NodesAreOne m.whole.program (plain_definitions m.defs) (plain_definitions n.defs))
      m.sigs.items n.sigs.items
  pub placed : ArePlaced 0 m.sigs.items
  pub query : n.query ≡ m.query

-- So it is of whatever is put in order, of what is linked.
abbrev pub ModedAreOne : Type 0
ModedAreOne =
    (first : Bool) (named : PlainNamed) (m n : Moded)
    → IsModed first named m → IsModed first named n → ModedIsOne m n

-- So what comes of it is one answer. What is asked of its goals besides is asked of the first way
-- alone: each clause names its quantified variables apart, where procedures come that fit; and
-- below each type there are finitely many.
abbrev pub OneModedAnswer : Type 0
OneModedAnswer =
    (runs first : Bool) (named : PlainNamed) (m n : Moded)
    → IsModed first named m → IsModed first named n
    → (ComeToFit m.whole.program (plain_definitions m.defs) m.sigs.items m.whole.goals.items
    m.whole.exported.items → AreNamedApart m.whole.program)
    → ((t : TypeTerm) → TypesMet (plain_program m.whole.program) t)
    → (r s : AnalysisResult)
    → AnalysisGives m.whole.program (plain_definitions m.defs) m.sigs.items m.whole.goals.items
    m.whole.exported.items runs r
    → AnalysisGives n.whole.program (plain_definitions n.defs) n.sigs.items n.whole.goals.items
    n.whole.exported.items runs s
    → OneRuled r s
