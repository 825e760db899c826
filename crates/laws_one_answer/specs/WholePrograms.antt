-- What the laws of one answer ask of goals and signatures is so of the program that runs. (Mercury
-- Language Reference Manual: Types; Modes, predicate and function modes.)
use Rattle.std.specs.Prelude.{ℕ, List, ◌++◌, length, Option}
use Rattle.mc_program.specs.declared.builtin.Builtin.{Builtin}
use Rattle.mc_model.specs.declared.inst.Sig.{Sig}
use Rattle.mc_accepted.specs.InstRules.{PlainInstDef}
use Rattle.mc_accepted.specs.NormalTypes.{TypedClause}
use Rattle.mc_names.specs.Linked.{Linked}
use Rattle.mc_signatures.specs.WrittenModes.{PlainMode}
use Rattle.mc_signatures.specs.MeantModes.{MeansMode}
use Rattle.mc_signatures.specs.Signatures.{AreSignatures}
use Rattle.mc_core_program.specs.Wholes.{IsWhole}
use Rattle.mc_core_program.specs.declared.whole_program_program.WholeProgram.{WholeProgram}
use Rattle.laws_types.specs.WholeTypes.{TypesFitIn}
use Rattle.mc_analysis.specs.Premises.{GoalsAreTyped}
use Rattle.laws_one_answer.specs.ModesMeanOne.{ArePlaced}

-- Where a whole program fits as far as types go, its predicates' goals are typed.
abbrev pub WholeGoalsAreTyped : Type 0
WholeGoalsAreTyped =
    (l : Linked) (clauses : List (ℕ × TypedClause)) (query : Option TypedClause)
    (whole : WholeProgram)
    → IsWhole l clauses query whole → TypesFitIn l whole
    → GoalsAreTyped whole.program whole.goals.items

-- The signatures of declared modes stand in the order of their predicates, and so do others behind
-- them.
abbrev pub SignaturesArePlaced : Type 0
SignaturesArePlaced =
    (l : Linked) (ds : List PlainInstDef) (builtin : ℕ → Option Builtin)
    (rows : List (List PlainMode)) (declared others : List Sig)
    → AreSignatures (MeansMode l ds) builtin 0 0 rows declared → ArePlaced (length rows) others
    → ArePlaced 0 (declared ++ others)
