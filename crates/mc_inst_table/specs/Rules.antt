-- The rules that definitions of insts and modes, and declared modes, break: `free` inside a bound
-- inst, and insts and modes that aren't well founded. (The Mercury manual: Modes; that insts are
-- finite graphs is this project's profile, and the texts are its own.)
use Rattle.std.specs.Prelude.{ℕ, suc, List, [], ◌∷◌, ◌++◌, length, Option, Some, None, codes, slice_get}
use Rattle.mc_term_data.specs.Plain.{PlainTerm, PlainTerms, at, no_term, more_terms, App}
use Rattle.mc_term_data.specs.Shapes.{operands}
use Rattle.mc_source.specs.declared.place.Place.{Place}
use Rattle.mc_source.specs.declared.rule.Broken.{Broken}
use Rattle.mc_source.specs.Rules.{Fault, broken_at}
use Rattle.mc_decl_syntax.specs.Plain.{PlainDecl, SameInst, BoundInst, ModeDef, Pred, Func, Mode}
use Rattle.mc_names.specs.Plain.{PlainNameArity, id, PlainDefinition, shown}
use Rattle.mc_names.specs.Definitions.{definitions}
use Rattle.mc_decl_syntax.specs.Entries.{File}
use Rattle.mc_names.specs.Linked.{Defined, Linked, defining_module}
use Rattle.mc_names.specs.Parameters.{parameters_of}
use Rattle.mc_accepted.specs.InstRules.{InstTerm, defined, bound_over, InstTerms, no_insts, inst_then, Bodies, NotWellFounded, PutsFreeInside, OneIs, ModeIsUnfounded, free_inside, not_well_founded}
use Rattle.mc_inst_table.specs.Written.{numbers_among, first_or, functors, written_inst, all_listed, append_insts, ModeTerm, from_to, defined_mode, written_mode, insts_of_mode}

-- THE BODIES of definitions, each as its own module writes it.

abbrev pub inst_body_by : Linked → (own : ℕ) → PlainDecl → Option InstTerm
inst_body_by l own (SameInst h t) = Some (written_inst l own (parameters_of h) t)
inst_body_by l own (BoundInst h ts) =
    Some (bound_over (functors ts) (all_listed l own (parameters_of h) ts))
inst_body_by l own i = None

abbrev pub body_or_none : Option InstTerm → InstTerm
body_or_none (Some i) = i
body_or_none None = bound_over [] no_insts

abbrev pub inst_body_of : Linked → Option Defined → InstTerm
inst_body_of l None = bound_over [] no_insts
inst_body_of l (Some d) = body_or_none (inst_body_by l (defining_module l d) d.item)

abbrev pub inst_bodies : Linked → Bodies
inst_bodies l k = inst_body_of l (slice_get l.insts k)

abbrev pub mode_body_by : Linked → (own : ℕ) → PlainDecl → Option ModeTerm
mode_body_by l own (ModeDef h t) = Some (written_mode l own (parameters_of h) t)
mode_body_by l own i = None

-- the definition of a mode that a mode names
abbrev pub names_mode : Option ModeTerm → Option ℕ
names_mode (Some (defined_mode d is)) = Some d
names_mode _ = None

abbrev pub mode_named_of : Linked → Option Defined → Option ℕ
mode_named_of l None = None
mode_named_of l (Some d) = names_mode (mode_body_by l (defining_module l d) d.item)

abbrev pub mode_named : Linked → ℕ → Option ℕ
mode_named l k = mode_named_of l (slice_get l.modes k)

-- WHAT IS WRITTEN in an item: insts, each over the parameters of the item's head.

abbrev pub insts_of_modes : Linked → (own : ℕ) → PlainTerms → InstTerms
insts_of_modes l own no_term = no_insts
insts_of_modes l own (more_terms t ts) =
    append_insts (insts_of_mode (written_mode l own [] t)) (insts_of_modes l own ts)

abbrev pub insts_of_moded : Linked → (own : ℕ) → Option (PlainTerm × PlainTerm) → InstTerms
insts_of_moded l own None = no_insts
insts_of_moded l own (Some p) = insts_of_mode (written_mode l own [] p.1)

-- of arguments with their modes, `T :: M`
abbrev pub insts_of_arguments : Linked → (own : ℕ) → PlainTerms → InstTerms
insts_of_arguments l own no_term = no_insts
insts_of_arguments l own (more_terms t ts) =
    append_insts (insts_of_moded l own (operands (codes "::") t)) (insts_of_arguments l own ts)

abbrev pub insts_of_signature : Linked → (own : ℕ) → PlainTerm → InstTerms
insts_of_signature l own (at (App w ts) line) = insts_of_arguments l own ts
insts_of_signature l own _ = no_insts

abbrev pub insts_of_function : Linked → (own : ℕ) → Option (PlainTerm × PlainTerm) → InstTerms
insts_of_function l own None = no_insts
insts_of_function l own (Some p) =
    append_insts (insts_of_signature l own p.0) (insts_of_moded l own (operands (codes "::") p.1))

abbrev pub insts_of_mode_head : Linked → (own : ℕ) → PlainTerm → InstTerms
insts_of_mode_head l own (at (App w ts) line) = insts_of_modes l own ts
insts_of_mode_head l own _ = no_insts

-- of a further mode, of a predicate or of a function
abbrev pub insts_of_further :
    Linked → (own : ℕ) → PlainTerm → Option (PlainTerm × PlainTerm) → InstTerms
insts_of_further l own t None = insts_of_mode_head l own t
insts_of_further l own t (Some p) =
    append_insts (insts_of_mode_head l own p.0) (insts_of_mode (written_mode l own [] p.1))

abbrev pub insts_of_body : Option ModeTerm → InstTerms
insts_of_body None = no_insts
insts_of_body (Some m) = insts_of_mode m

abbrev pub one_inst : Option InstTerm → InstTerms
one_inst None = no_insts
one_inst (Some i) = inst_then i no_insts

abbrev pub insts_written : Linked → (own : ℕ) → PlainDecl → InstTerms
insts_written l own (SameInst h t) = one_inst (inst_body_by l own (SameInst h t))
insts_written l own (BoundInst h ts) = one_inst (inst_body_by l own (BoundInst h ts))
insts_written l own (ModeDef h t) = insts_of_body (mode_body_by l own (ModeDef h t))
insts_written l own (Pred t d) = insts_of_signature l own t
insts_written l own (Func t d) = insts_of_function l own (operands (codes "=") t)
insts_written l own (Mode t d) = insts_of_further l own t (operands (codes "=") t)
insts_written l own i = no_insts

-- `free` is put into a constructor by one of these
abbrev pub OnePutsFreeInside : Bodies → InstTerms → Type 0
OnePutsFreeInside body is = (i : InstTerm) × OneIs is i × PutsFreeInside body i

-- THE ITEMS, each with the number of the module in which it stands, and its place.
pub record InstItem : Type 0 where
  pub own : ℕ
  pub item : PlainDecl
  pub at : Place

abbrev pub module_items : (own : ℕ) → File → List InstItem
module_items own [] = []
module_items own ((i, place) ∷ es) =
    record { own = own; item = i; at = place } ∷ module_items own es

-- those of all modules, which are numbered from own on
abbrev pub items_from : (own : ℕ) → List File → List InstItem
items_from own [] = []
items_from own (f ∷ fs) = module_items own f ++ items_from (suc own) fs

-- the name of what an item defines
abbrev pub first_name : List PlainDefinition → PlainNameArity
first_name [] = id [] 0
first_name (d ∷ ds) = d.id

abbrev pub item_name : PlainDecl → PlainNameArity
item_name i = first_name (definitions i)

-- the number of the definition that stands in the module itself, among these
abbrev pub own_number : Linked → (own : ℕ) → List Defined → PlainNameArity → ℕ
own_number l own ds x = first_or (length ds) (numbers_among l own x ds (own ∷ []))

-- The definition of an inst or a mode isn't well founded.
abbrev pub IsUnfounded : Linked → (own : ℕ) → PlainDecl → Type 0
IsUnfounded l own (SameInst h t) =
    NotWellFounded (inst_bodies l) (item_name (SameInst h t)).arity
    (own_number l own l.insts (item_name (SameInst h t)))
IsUnfounded l own (BoundInst h ts) =
    NotWellFounded (inst_bodies l) (item_name (BoundInst h ts)).arity
    (own_number l own l.insts (item_name (BoundInst h ts)))
IsUnfounded l own (ModeDef h t) =
    ModeIsUnfounded (mode_named l) (own_number l own l.modes (item_name (ModeDef h t)))
IsUnfounded l own i = ⊥

abbrev pub HasFreeInside : Linked → InstItem → Type 0
HasFreeInside l i = OnePutsFreeInside (inst_bodies l) (insts_written l i.own i.item)

-- WHAT THE RULES OF INSTS SAY OF AN ITEM: the first that it breaks.
pub data InstSays (l : Linked) (i : InstItem) : Option Fault → Type 0 where
  has_free : HasFreeInside l i → InstSays l i (Some free_inside)
  unfounded :
      (HasFreeInside l i → ⊥) → IsUnfounded l i.own i.item
      → InstSays l i (Some (not_well_founded (shown (item_name i.item))))
  is_sound : (HasFreeInside l i → ⊥) → (IsUnfounded l i.own i.item → ⊥) → InstSays l i None

-- The list of what is told: of each faulty item once, in the order of the files and their items.
pub data AreInstFaults (l : Linked) : List InstItem → List Broken → Type 0 where
  no_item : AreInstFaults l [] []
  item_then :
      {i : InstItem} {is : List InstItem} {f : Option Fault} {bs : List Broken}
      → InstSays l i f → AreInstFaults l is bs → AreInstFaults l (i ∷ is) (broken_at i.at f ++ bs)
