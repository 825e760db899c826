-- The numbers and texts of what is read are values. (Mercury Language Reference Manual: Syntax,
-- tokens; this project's profile: what numbers there are.)
use Rattle.std.specs.Prelude.{ℕ, List, [], ◌∷◌, Option, Some, None}
use Rattle.mc_term_data.specs.Plain.{PlainTerm, plain_term}
use Rattle.mc_term_data.specs.declared.term.Term.{Term}
use Rattle.mc_program.specs.Programs.{Source}
use Rattle.mc_decl_syntax.specs.Plain.{PlainDecl, Clause}
use Rattle.mc_items.specs.Verdicts.{PlainVerdict}
use Rattle.mc_items.specs.Files.{Items, kept_in}
use Rattle.mc_items.specs.Queries.{IsGoal}
use Rattle.mc_decl_syntax.specs.Entries.{File}
use Rattle.mc_names.specs.Linked.{Linked}
use Rattle.mc_state_variables.specs.Numbered.{numbered_clause, numbered_goal}
use Rattle.mc_type_phase.specs.Items.{items}
use Rattle.laws_types.specs.ClauseLaws.{IsOfValues}
use Rattle.laws_types.specs.JudgedPrograms.{EachHasValues}

-- the numbers and texts of the clauses of files are values, and so are those of a goal, if any
module _ (P : Source) where
  abbrev pub ItemIsOfValues : PlainDecl → Type 0
  ItemIsOfValues (Clause t) = IsOfValues P t
  ItemIsOfValues _ = Unit {0}

  abbrev pub FileIsOfValues : File → Type 0
  FileIsOfValues [] = Unit {0}
  FileIsOfValues ((i, at) ∷ es) = ItemIsOfValues i × FileIsOfValues es

  abbrev pub FilesAreOfValues : List File → Type 0
  FilesAreOfValues [] = Unit {0}
  FilesAreOfValues (f ∷ fs) = FileIsOfValues f × FilesAreOfValues fs

  abbrev pub GoalIsOfValues : Option PlainTerm → Type 0
  GoalIsOfValues None = Unit {0}
  GoalIsOfValues (Some goal) = IsOfValues P goal

-- The numbers and texts of the clauses that a text is read as are values. (A number that 64 bits
-- don't hold is no term's; a string's bytes are UTF-8.)
abbrev pub ClausesAreOfValues : Type 0
ClausesAreOfValues =
    (P : Source) (text : List ℕ) (place file : ℕ) (verdicts : List (PlainVerdict × ℕ))
    → Items text place verdicts → FileIsOfValues P (kept_in file verdicts)

-- The same of a query that is a goal.
abbrev pub GoalsAreOfValues : Type 0
GoalsAreOfValues =
    (P : Source) (text : List ℕ) (goal : Term)
    → IsGoal text goal → IsOfValues P (plain_term goal)

-- The numbers and texts of a clause or a goal stay values where its state variables are written
-- out.
abbrev pub NumberedAreOfValues : Type 0
NumberedAreOfValues =
    (P : Source) (t : PlainTerm)
    → IsOfValues P t → IsOfValues P (numbered_clause t) × IsOfValues P (numbered_goal t)

-- What is typed of a program has values where its files and its goal have.
abbrev pub ItemsHaveValues : Type 0
ItemsHaveValues =
    (l : Linked) (files : List File) (number : ℕ) (goal : Option PlainTerm)
    → ((P : Source) → FilesAreOfValues P files) → ((P : Source) → GoalIsOfValues P goal)
    → EachHasValues (items l files number goal)
