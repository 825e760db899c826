-- What written modes mean: from which node to which, where definitions are followed. (The Mercury
-- manual: Modes.)
use Rattle.std.specs.Prelude.{◌≡◌, ℕ, slice_get, List, Option, Some, None}
use Rattle.mc_names.specs.Linked.{Defined, Linked, defining_module}
use Rattle.mc_accepted.specs.InstRules.{PlainInstDef, InstTerm, InstTerms, over, each_over}
use Rattle.mc_inst_table.specs.Written.{ModeTerm, from_to, defined_mode}
use Rattle.mc_inst_table.specs.Rules.{inst_bodies, mode_body_by}
use Rattle.mc_signatures.specs.MeantInsts.{IsMeant}

-- what the mode definitions stand for, over their parameters, each as its own module writes it
abbrev pub mode_body_of : Linked → Option Defined → Option ModeTerm
mode_body_of l None = None
mode_body_of l (Some d) = mode_body_by l (defining_module l d) d.item

abbrev pub mode_bodies : Linked → ℕ → Option ModeTerm
mode_bodies l k = mode_body_of l (slice_get l.modes k)

-- a mode with insts for its parameters
abbrev pub mode_over : InstTerms → ModeTerm → ModeTerm
mode_over is (from_to i j) = from_to (over is i) (over is j)
mode_over is (defined_mode d js) = defined_mode d (each_over is js)

-- A mode goes from one inst to another.
pub data Goes (l : Linked) : ModeTerm → (first last : InstTerm) → Type 0 where
  from_and_to : {i j : InstTerm} → Goes l (from_to i j) i j
  as_defined :
      {d : ℕ} {is : InstTerms} {m : ModeTerm} {i j : InstTerm}
      → mode_bodies l d ≡ Some m → Goes l (mode_over is m) i j → Goes l (defined_mode d is) i j

-- It means to go from the node of the one to that of the other, by these definitions of nodes.
pub record MeansMode (l : Linked) (ds : List PlainInstDef) (m : ModeTerm) (first last : ℕ)
    : Type 0 where
  pub from : InstTerm
  pub to : InstTerm
  pub goes : Goes l m from to
  pub is_first : IsMeant (inst_bodies l) ds from first
  pub is_last : IsMeant (inst_bodies l) ds to last
