-- The declared modes of predicates and functions, as their items write them (the Mercury manual: Modes,
-- predicate and function modes; that a function's default mode goes where a further mode is declared is
-- this project's profile).
use Rattle.std.specs.Prelude.{ℕ, Bool, true, false, not, ◌&&◌, List, [], ◌∷◌, ◌++◌, map, replicate, Option, Some, None, codes, slice_index_or, if◌then◌else◌}
use Rattle.std.specs.Option.{is_some, option_map, option_to_list}
use Rattle.mc_source.specs.declared.place.Place.{Place}
use Rattle.mc_source.specs.declared.det.Det.{Det}
use Rattle.mc_source.specs.declared.det.Most.TheVariants as M
use Rattle.mc_term_data.specs.Plain.{PlainTerm, PlainTerms, at, no_term, more_terms, App}
use Rattle.mc_term_data.specs.Shapes.{operands}
use Rattle.mc_decl_syntax.specs.Plain.{PlainDecl, Pred, Func, Mode}
use Rattle.mc_names.specs.Plain.{PlainNameArity, id, is_name_arity}
use Rattle.mc_names.specs.Definitions.{head_name, func_name}
use Rattle.mc_defs_uses.specs.Clauses.{is_mode_too}
use Rattle.mc_decl_syntax.specs.Entries.{File}
use Rattle.mc_names.specs.Linked.{Defined, Linked, defining_module}
use Rattle.mc_accepted.specs.InstRules.{inst_node}
use Rattle.mc_inst_table.specs.Written.{ModeTerm, from_to, written_mode}
use Rattle.mc_inst_table.specs.declared.inst.Mode.{Mode as KeptMode}
use Rattle.mc_inst_table.specs.Plain.{plain_mode}
use Rattle.mc_signatures.specs.declared.written.WrittenMode.{WrittenMode}

-- A mode that is declared: the modes of the arguments, of which a function's result is the last; the
-- determinism, where there is one; and where the item stands.
pub record PlainMode : Type 0 where
  pub modes : List ModeTerm
  pub det : Option Det
  pub at : Place

abbrev pub plain_written : WrittenMode → PlainMode
plain_written m = record { modes = map plain_mode m.modes; det = m.det; at = m.at }

-- WHAT AN ITEM DECLARES

abbrev pub moded : Linked → (own : ℕ) → Option (PlainTerm × PlainTerm) → List ModeTerm
moded l own None = []
moded l own (Some p) = written_mode l own [] p.1 ∷ []

-- the modes of arguments, `T :: M`
abbrev pub modes_of_arguments : Linked → (own : ℕ) → PlainTerms → List ModeTerm
modes_of_arguments l own no_term = []
modes_of_arguments l own (more_terms t ts) =
    moded l own (operands (codes "::") t) ++ modes_of_arguments l own ts

abbrev pub modes_of_signature : Linked → (own : ℕ) → PlainTerm → List ModeTerm
modes_of_signature l own (at (App w ts) line) = modes_of_arguments l own ts
modes_of_signature l own _ = []

abbrev pub written_modes : Linked → (own : ℕ) → PlainTerms → List ModeTerm
written_modes l own no_term = []
written_modes l own (more_terms t ts) = written_mode l own [] t ∷ written_modes l own ts

abbrev pub modes_of_head : Linked → (own : ℕ) → PlainTerm → List ModeTerm
modes_of_head l own (at (App w ts) line) = written_modes l own ts
modes_of_head l own _ = []

-- of a function, by its head and its result; without modes it declares none here
abbrev pub moded_function :
    Linked → (own : ℕ) → (head : PlainTerm) → Option (PlainTerm × PlainTerm)
    → Option (List ModeTerm)
moded_function l own h None = None
moded_function l own h (Some p) =
    Some (modes_of_signature l own h ++ (written_mode l own [] p.1 ∷ []))

abbrev pub function_modes :
    Linked → (own : ℕ) → Option (PlainTerm × PlainTerm) → Option (List ModeTerm)
function_modes l own None = None
function_modes l own (Some p) = moded_function l own p.0 (operands (codes "::") p.1)

-- of a further mode, of a predicate or of a function
abbrev pub further_modes : Linked → (own : ℕ) → PlainTerm → Option (PlainTerm × PlainTerm) → List ModeTerm
further_modes l own t None = modes_of_head l own t
further_modes l own t (Some p) = modes_of_head l own p.0 ++ (written_mode l own [] p.1 ∷ [])

-- the modes of the arguments of the mode that an item declares, where it declares one
abbrev pub declared_by : Linked → (own : ℕ) → PlainDecl → Option (List ModeTerm)
declared_by l own (Pred t d) =
    if is_mode_too t (is_some d) then Some (modes_of_signature l own t) else None
declared_by l own (Func t d) = function_modes l own (operands (codes "=") t)
declared_by l own (Mode t d) = Some (further_modes l own t (operands (codes "=") t))
declared_by l own i = None

abbrev pub determinism_of : PlainDecl → Option Det
determinism_of (Pred t d) = d
determinism_of (Func t d) = d
determinism_of (Mode t d) = d
determinism_of i = None

abbrev pub mode_by : Linked → (own : ℕ) → PlainDecl × Place → Option PlainMode
mode_by l own e =
    option_map (λ ms. record { modes = ms; det = determinism_of e.0; at = e.1 }) (declared_by l own e.0)

-- OF WHAT IT IS A MODE

-- a predicate, or a function
pub record Callable : Type 0 where
  pub is_function : Bool
  pub id : PlainNameArity

abbrev pub of_further : PlainTerm → Option (PlainTerm × PlainTerm) → Callable
of_further t None = record { is_function = false; id = head_name t }
of_further t (Some p) = record { is_function = true; id = head_name p.0 }

abbrev pub callable : PlainDecl → Option Callable
callable (Pred t d) = Some (record { is_function = false; id = head_name t })
callable (Func t d) = Some (record { is_function = true; id = func_name (operands (codes "=") t) })
callable (Mode t d) = Some (of_further t (operands (codes "=") t))
callable i = None

abbrev pub same_sort : Bool → Bool → Bool
same_sort true b = b
same_sort false b = not b

abbrev pub is_that : Callable → Option Callable → Bool
is_that x None = false
is_that x (Some y) = same_sort x.is_function y.is_function && is_name_arity x.id y.id

-- the mode of one that an item declares
abbrev pub modes_by : Linked → (own : ℕ) → Callable → PlainDecl × Place → List PlainMode
modes_by l own x e =
    if is_that x (callable e.0) then option_to_list (mode_by l own e) else []

-- those that these items of its module declare, in order
abbrev pub modes_among : Linked → (own : ℕ) → Callable → File → List PlainMode
modes_among l own x [] = []
modes_among l own x (e ∷ es) = modes_by l own x e ++ modes_among l own x es

-- THE DECLARED MODES of what has a number

abbrev pub is_function : PlainDecl → Bool
is_function (Func t d) = true
is_function i = false

abbrev pub callable_of : Defined → Callable
callable_of d =
    record { is_function = is_function d.item; id = id d.name.name d.name.arity }

-- a function without a mode: all arguments are inputs, and it has one result
abbrev pub default_mode : (arity : ℕ) → Place → PlainMode
default_mode n place =
    record {
      modes =
          replicate n (from_to (inst_node 1) (inst_node 1))
          ++ (from_to (inst_node 0) (inst_node 1) ∷ []);
      det = Some (record { can_fail = false; most = M.One; committed = false });
      at = place;
    }

abbrev pub or_default : Defined → List PlainMode → List PlainMode
or_default d [] = if is_function d.item then default_mode d.name.arity d.at ∷ [] else []
or_default d (m ∷ ms) = m ∷ ms

abbrev pub modes_of : Linked → List File → Defined → List PlainMode
modes_of l files d =
    or_default d
    (modes_among l (defining_module l d) (callable_of d)
    (slice_index_or files (defining_module l d) []))

-- by the numbers of predicates and functions
abbrev pub declared_modes : Linked → List File → List (List PlainMode)
declared_modes l files = map (modes_of l files) l.preds
