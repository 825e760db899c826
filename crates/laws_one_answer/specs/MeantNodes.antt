-- Nodes that an inst is, in graphs of two lists of definitions, mean one thing. (Mercury Language
-- Reference Manual: Modes, insts.)
use Rattle.std.specs.Prelude.{ℕ, ◌<◌, List}
use Rattle.mc_program.specs.declared.program.Program.{Program}
use Rattle.mc_accepted.specs.InstRules.{PlainInstDef, InstTerm, parameter, inst_node, defined, bound_over, InstTerms, no_insts, inst_then, Bodies}
use Rattle.mc_signatures.specs.MeantInsts.{IsMeant}
use Rattle.laws_one_answer.specs.ModesMeanOne.{NodesAreOne}

-- an inst names builtin nodes alone, as those do that are written
abbrev mutual
  pub NamesBuiltin : InstTerm → Type 0
  NamesBuiltin (parameter k) = Unit {0}
  NamesBuiltin (inst_node n) = n < 4
  NamesBuiltin (defined d is) = EachNamesBuiltin is
  NamesBuiltin (bound_over fs is) = EachNamesBuiltin is

  pub EachNamesBuiltin : InstTerms → Type 0
  EachNamesBuiltin no_insts = Unit {0}
  EachNamesBuiltin (inst_then i is) = NamesBuiltin i × EachNamesBuiltin is

-- Two compilers may make other definitions for the insts that are written, and number them otherwise.
-- Where an inst is a node by each, these are one.
abbrev pub MeantNodesMeanOne : Type 0
MeantNodesMeanOne =
    (body : Bodies) → ((d : ℕ) → NamesBuiltin (body d))
    → (P : Program) (ds es : List PlainInstDef) (i : InstTerm) (n m : ℕ) → NamesBuiltin i
    → IsMeant body ds i n → IsMeant body es i m → NodesAreOne P ds es n m
