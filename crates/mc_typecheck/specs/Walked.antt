-- A walk as it is taken step by step, over a table of signatures. (This project's profile.)
use Rattle.std.specs.Prelude.{◌≡◌, ℕ, suc, ◌+◌, ◌<◌, Option, Some, List, [], ◌∷◌, ◌++◌, map, slice_get, Contains}
use Rattle.mc_program.specs.Programs.{Source}
use Rattle.mc_accepted.specs.ProperTypes.{Parameters}
use Rattle.mc_accepted.specs.Resolving.{Step, push_variable, push_number, push_text, choose, equate, call, close_head}
use Rattle.mc_source.specs.declared.name.Candidate.{Candidate}
use Rattle.mc_source.specs.declared.name.Candidate.TheVariants as C
use Rattle.mc_typecheck.specs.Ties.{Meaning, of_name, of_number, of_text, of_equation, of_head, Declared, Tie, declared, names_term, names_atom, topmost, below, sole, named}
use Rattle.mc_typecheck.specs.Searched.{AreTies, VariablesBelow, plain_signature}
use Rattle.mc_typecheck.specs.declared.table.Signatures.{Signatures}
use Rattle.mc_typecheck.specs.declared.walk.Walk.{Walk}

-- where a walk stands: the next place, the stack of places, and the ties so far
pub record Stand : Type 0 where
  pub next : ℕ
  pub stack : List ℕ
  pub ties : List Tie

abbrev pub start : (vars : ℕ) → Stand
start vars = record { next = vars; stack = []; ties = [] }

module _ (P : Source) (D : Parameters) where
  abbrev pub after : Step → Stand → Stand
  after (push_variable v) s =
      record { next = s.next; stack = s.stack ++ v ∷ []; ties = s.ties }
  after push_number s =
      record {
        next = suc s.next;
        stack = s.stack ++ s.next ∷ [];
        ties = s.ties ++ sole P D of_number (s.next ∷ []) ∷ [];
      }
  after push_text s =
      record {
        next = suc s.next;
        stack = s.stack ++ s.next ∷ [];
        ties = s.ties ++ sole P D of_text (s.next ∷ []) ∷ [];
      }
  after (choose cs n) s =
      record {
        next = suc s.next;
        stack = below n s.stack ++ s.next ∷ [];
        ties = s.ties ++ named P D names_term cs (topmost n s.stack ++ s.next ∷ []) ∷ [];
      }
  after equate s =
      record {
        next = s.next;
        stack = below 2 s.stack;
        ties = s.ties ++ sole P D of_equation (topmost 2 s.stack) ∷ [];
      }
  after (call cs n) s =
      record {
        next = s.next;
        stack = below n s.stack;
        ties = s.ties ++ named P D names_atom cs (topmost n s.stack) ∷ [];
      }
  after (close_head p n) s =
      record {
        next = s.next;
        stack = below n s.stack;
        ties = s.ties ++ sole P D (of_head p) (topmost n s.stack) ∷ [];
      }

  abbrev pub after_all : List Step → Stand → Stand
  after_all [] s = s
  after_all (step ∷ steps) s = after_all steps (after step s)

-- where a meaning stands in a table
abbrev pub place_of : Signatures → Meaning → ℕ
place_of t of_number = 0
place_of t of_text = 1
place_of t of_equation = 2
place_of t (of_name (C.Char c)) = 3
place_of t (of_name (C.Con s)) = 4 + s
place_of t (of_name (C.Func f)) = 4 + (t.symbols + f)
place_of t (of_name (C.Pred p)) = 4 + (t.symbols + p)
place_of t (of_head p) = 4 + (t.symbols + (t.preds + p))

-- it is one of the table's constructors, or of its functions and predicates
abbrev pub IsThere : Signatures → Meaning → Type 0
IsThere t (of_name (C.Con s)) = s < t.symbols
IsThere t (of_name (C.Func f)) = f < t.preds
IsThere t (of_name (C.Pred p)) = p < t.preds
IsThere t (of_head p) = p < t.preds
IsThere t m = Unit {0}

abbrev pub entry : Signatures → ℕ → Option Declared
entry t k = slice_get (map plain_signature t.all.items) k

module _ (P : Source) (D : Parameters) where
  -- the table has what a meaning is declared with
  abbrev pub Shows : Signatures → Meaning → Type 0
  Shows t m = IsThere t m × (entry t (place_of t m) ≡ Some (declared P D m))

  -- the table has what a step needs
  abbrev pub ShowsStep : Signatures → Step → Type 0
  ShowsStep t (push_variable v) = Unit {0}
  ShowsStep t push_number = Shows t of_number
  ShowsStep t push_text = Shows t of_text
  ShowsStep t (choose cs n) = (c : Candidate) → Contains cs c → Shows t (of_name c)
  ShowsStep t equate = Shows t of_equation
  ShowsStep t (call cs n) = (c : Candidate) → Contains cs c → Shows t (of_name c)
  ShowsStep t (close_head p n) = Shows t (of_head p)

  abbrev pub ShowsAll : Signatures → List Step → Type 0
  ShowsAll t [] = Unit {0}
  ShowsAll t (step ∷ steps) = ShowsStep t step × ShowsAll t steps

  -- the walk stands there
  pub record IsAt (t : Signatures) (w : Walk) (s : Stand) : Type 0 where
    pub next : w.next ≡ s.next
    pub stack : w.stack.items ≡ s.stack
    pub ties : AreTies P D t.all.items w.steps.items s.ties

-- From wherever a walk stood it has taken this step.
abbrev pub Takes : Signatures → (before after : Walk) → Step → Type 0
Takes t w w' step =
    (P : Source) (D : Parameters) (s : Stand)
    → ShowsStep P D t step → IsAt P D t w s → IsAt P D t w' (after P D step s)

abbrev pub TakesAll : Signatures → (before after : Walk) → List Step → Type 0
TakesAll t w w' steps =
    (P : Source) (D : Parameters) (s : Stand)
    → ShowsAll P D t steps → IsAt P D t w s → IsAt P D t w' (after_all P D steps s)

-- it has taken the steps of some walk of so many variables
pub record WasWalked (t : Signatures) (w : Walk) : Type 0 where
  pub vars : ℕ
  pub source : Source
  pub parameters : Parameters
  pub steps : List Step
  pub own : VariablesBelow vars steps
  pub stands : IsAt source parameters t w (after_all source parameters steps (start vars))
