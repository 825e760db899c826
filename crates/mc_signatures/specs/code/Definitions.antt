-- What is kept of the definitions of insts and modes.
use Rattle.std.specs.Prelude.{◌≡◌, ℕ, List, map, Some}
use Rattle.std.specs.Option.{option_map}
use Rattle.mc_names.specs.Linked.{Defined, Linked}
use Rattle.mc_accepted.specs.InstRules.{InstTerm}
use Rattle.mc_inst_table.specs.Written.{ModeTerm}
use Rattle.mc_inst_table.specs.Rules.{inst_body_of}
use Rattle.mc_inst_table.specs.Plain.{plain_inst, plain_mode}
use Rattle.mc_signatures.specs.declared.meant.Definitions.{Definitions}
use Rattle.mc_signatures.specs.MeantModes.{mode_body_of, mode_over, Goes}
use Rattle.mc_signatures.specs.code.Keys.{terms_at, IsInst}

-- These are those of a program.
pub record AreDefinitions (l : Linked) (s : Definitions) : Type 0 where
  pub insts : map plain_inst s.insts ≡ map (λ (d : Defined). inst_body_of l (Some d)) l.insts
  pub modes :
      map (option_map plain_mode) s.modes.items
      ≡ map (λ (d : Defined). mode_body_of l (Some d)) l.modes

-- a mode goes from the inst of one number to that of another
pub record GoesBetween (l : Linked) (ts : List InstTerm) (m : ModeTerm) (first last : ℕ) : Type 0 where
  pub from : InstTerm
  pub to : InstTerm
  pub goes : Goes l m from to
  pub is_first : IsInst ts first from
  pub is_last : IsInst ts last to

-- A mode was followed to another over insts of these numbers: it goes where that one does.
abbrev pub Follows :
    Linked → List InstTerm → (given : List ℕ) → (written mode : ModeTerm) → Type 0
Follows l ts given w m =
    (i j : InstTerm) → Goes l (mode_over (terms_at ts given) m) i j → Goes l w i j
