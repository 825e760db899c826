-- The modes of predicates, with the next number behind them.
use Rattle.std.specs.Prelude.{◌≡◌, ℕ, suc, List, [], ◌∷◌, Option}
use Rattle.mc_program.specs.declared.builtin.Builtin.{Builtin}
use Rattle.mc_model.specs.declared.inst.ModeDecl.{ModeDecl}
use Rattle.mc_model.specs.declared.inst.Sig.{Sig}
use Rattle.mc_inst_table.specs.Written.{ModeTerm}
use Rattle.mc_signatures.specs.WrittenModes.{PlainMode}
use Rattle.mc_signatures.specs.Signatures.{next_behind, AreDeclared, AreSignatures}

module _ (Means : ModeTerm → (first last : ℕ) → Type 0) where
  -- the modes of a predicate
  abbrev pub NumberedModes :
      Option Builtin → (next : ℕ) → List PlainMode → List ModeDecl → (behind : ℕ) → Type 0
  NumberedModes op n ws ms m = AreDeclared Means op n ws ms × (m ≡ next_behind op n ws)

-- the next number behind the modes of several predicates, from the number of one on
abbrev pub all_behind :
    (builtin : ℕ → Option Builtin) → (predicate next : ℕ) → List (List PlainMode) → ℕ
all_behind op p n [] = n
all_behind op p n (ws ∷ rows) = all_behind op (suc p) (next_behind (op p) n ws) rows

module _ (Means : ModeTerm → (first last : ℕ) → Type 0) where
  -- the signatures of the predicates before one
  abbrev pub AreBefore :
      (builtin : ℕ → Option Builtin) → List (List PlainMode) → List Sig → (next : ℕ) → Type 0
  AreBefore op rows sigs next = AreSignatures Means op 0 0 rows sigs × (next ≡ all_behind op 0 0 rows)
