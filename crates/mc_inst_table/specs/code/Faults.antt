-- What is kept to tell which items break the rules of insts, and what is told of a definition.
use Rattle.std.specs.Prelude.{◌≡◌, ◌⊎◌, ◌++◌, List, Option, Some, None}
use Rattle.mc_source.specs.declared.rule.Broken.{Broken}
use Rattle.mc_source.specs.Rules.{Fault}
use Rattle.mc_names.specs.Plain.{PlainNameArity, shown}
use Rattle.mc_names.specs.Linked.{Linked}
use Rattle.mc_accepted.specs.InstRules.{not_well_founded}
use Rattle.mc_inst_table.specs.declared.faults.Definitions.{Definitions}
use Rattle.mc_inst_table.specs.Rules.{InstItem, AreInstFaults}
use Rattle.mc_inst_table.specs.code.Known.{AreDefinitions}
use Rattle.mc_inst_table.specs.code.Leading.{AreModeRings}
use Rattle.mc_inst_table.specs.code.Others.{AreGiven}

pub record AreKnown (l : Linked) (s : Definitions) : Type 0 where
  pub insts : AreDefinitions l s.insts
  pub given : AreGiven l s.given
  pub modes : AreModeRings l s.modes

-- It is told of a definition that it isn't well founded exactly where it isn't.
abbrev pub FoundedSays : (unfounded : Type 0) → PlainNameArity → Option Fault → Type 0
FoundedSays unfounded x f =
    ((f ≡ Some (not_well_founded (shown x))) × unfounded) ⊎ ((f ≡ None) × (unfounded → ⊥))

-- what is told of some items is put behind what was
abbrev pub AddsFaults : Linked → List InstItem → (before behind : List Broken) → Type 0
AddsFaults l items before behind =
    (bs : List Broken) × AreInstFaults l items bs × (behind ≡ before ++ bs)
