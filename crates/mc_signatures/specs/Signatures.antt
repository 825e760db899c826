-- The signatures of predicates: their declared modes, each with the nodes that its insts are and the
-- number of its procedure. (The Mercury manual: Modes, predicate and function modes.)
use Rattle.std.specs.Prelude.{◌≡◌, ℕ, suc, List, [], ◌∷◌, map, replicate, get_or, Option, Some, None}
use Rattle.mc_source.specs.declared.det.Det.{Det}
use Rattle.mc_source.specs.declared.place.Place.{Place}
use Rattle.mc_program.specs.declared.builtin.Builtin.{Builtin}
use Rattle.mc_program.specs.declared.program.Pred.{Pred}
use Rattle.mc_program.specs.PlainPrograms.{plain_pred, no_pred}
use Rattle.mc_model.specs.declared.inst.ModeDecl.{ModeDecl}
use Rattle.mc_model.specs.declared.inst.Sig.{Sig}
use Rattle.mc_inst_table.specs.Written.{ModeTerm}
use Rattle.mc_signatures.specs.WrittenModes.{PlainMode}

-- THE NUMBERS of procedures: a mode of a builtin has none, and the number 0 stands there.

abbrev pub number_or_none : Option Builtin → (next : ℕ) → ℕ
number_or_none None n = n
number_or_none (Some op) n = 0

abbrev pub next_number : Option Builtin → (next : ℕ) → ℕ
next_number None n = suc n
next_number (Some op) n = n

-- the next number behind some modes of a predicate
abbrev pub next_behind : Option Builtin → (next : ℕ) → List PlainMode → ℕ
next_behind op n [] = n
next_behind op n (w ∷ ws) = next_behind op (next_number op n) ws

-- SIGNATURES by what it means that a mode goes from one node to another
module _ (Means : ModeTerm → (first last : ℕ) → Type 0) where
  -- the modes of arguments go from these nodes to those
  abbrev pub EachMeans : List ModeTerm → (first last : List ℕ) → Type 0
  EachMeans [] [] [] = Unit {0}
  EachMeans (m ∷ ms) (a ∷ first) (b ∷ last) = Means m a b × EachMeans ms first last
  EachMeans _ _ _ = ⊥

  -- a declared mode is what is written, with the procedure of this number
  pub record IsDeclared (number : ℕ) (w : PlainMode) (m : ModeDecl) : Type 0 where
    pub proc : m.proc ≡ number
    pub insts : EachMeans w.modes m.first m.last
    pub det : m.det ≡ w.det
    pub at : m.at ≡ w.at

  -- the declared modes of a predicate, numbered on
  abbrev pub AreDeclared :
      Option Builtin → (next : ℕ) → List PlainMode → List ModeDecl → Type 0
  AreDeclared op n [] [] = Unit {0}
  AreDeclared op n (w ∷ ws) (m ∷ ms) =
      IsDeclared (number_or_none op n) w m × AreDeclared op (next_number op n) ws ms
  AreDeclared op n _ _ = ⊥

  -- The signatures of predicates from a number on, by the modes that are written of each; their
  -- procedures are numbered on from the next number.
  abbrev pub AreSignatures :
      (builtin : ℕ → Option Builtin) → (predicate next : ℕ) → List (List PlainMode) → List Sig
      → Type 0
  AreSignatures op p n [] [] = Unit {0}
  AreSignatures op p n (ws ∷ rows) (s ∷ sigs) =
      (s.pred ≡ p)
      × AreDeclared (op p) n ws s.modes
      × AreSignatures op (suc p) (next_behind (op p) n ws) rows sigs
  AreSignatures op p n _ _ = ⊥

-- the builtin that a predicate is, by its number
abbrev pub builtin_of : List Pred → (predicate : ℕ) → Option Builtin
builtin_of preds p = (get_or (map plain_pred preds) p no_pred).builtin

-- THE SIGNATURE OF A QUERY: one mode, in which each argument is free at first and ground at last
abbrev pub query_signature :
    (predicate procedure arguments : ℕ) → Option Det → Place → Sig
query_signature p k n d place =
    record {
      pred = p;
      modes =
          record { proc = k; first = replicate n 0; last = replicate n 1; det = d; at = place }
          ∷ [];
    }
