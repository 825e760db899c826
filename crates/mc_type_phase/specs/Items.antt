-- What is typed of a program: its clauses, each an item, and the goal of the query, an item of its own.
-- (Mercury Language Reference Manual: Clauses; the query is this project's.)
use Rattle.std.specs.Prelude.{ℕ, Bool, true, false, List, [], ◌∷◌, ◌++◌, map, length, Option, Some, None, if◌then◌else◌}
use Rattle.mc_term_data.specs.Plain.{PlainTerm}
use Rattle.mc_source.specs.declared.place.Place.{Place}
use Rattle.mc_decl_syntax.specs.Plain.{PlainDecl, Clause}
use Rattle.mc_decl_syntax.specs.Entries.{File}
use Rattle.mc_names.specs.Linked.{Linked}
use Rattle.mc_state_variables.specs.Numbered.{numbered_goal, line_of}
use Rattle.mc_clauses.specs.Unresolved.{Numbered_clause, unresolved_query}
use Rattle.mc_type_phase.specs.Typing.{ModuleClause, clauses_from, unresolved_of}

-- a clause before its names are resolved, the number of the module in which it stands, and its place
pub record Item : Type 0 where
  pub own : ℕ
  pub numbered : Numbered_clause
  pub at : Place

abbrev pub clause_item : Linked → ModuleClause → Item
clause_item l c = record { own = c.own; numbered = unresolved_of l c; at = c.at }

-- The goal of a query, which sees what the first file sees. It stands in a file of a number of its
-- own, and is a clause of the predicate behind the others.
abbrev pub query_item : Linked → (number : ℕ) → Option PlainTerm → List Item
query_item l number None = []
query_item l number (Some goal) =
    record {
      own = 0;
      numbered = unresolved_query l 0 (length l.preds) (numbered_goal goal);
      at = record { file = number; line = line_of goal };
    }
    ∷ []

-- THE ITEMS that are typed: the clauses of files in their order, and behind them the query, which
-- stands in a file of this number.
abbrev pub items : Linked → List File → (number : ℕ) → Option PlainTerm → List Item
items l files number goal =
    map (clause_item l) (clauses_from l 0 files) ++ query_item l number goal

abbrev pub is_clause : PlainDecl → Bool
is_clause (Clause t) = true
is_clause i = false

-- The items of a file that are no clause, in their order: what is left of it once its clauses are
-- typed, since no later phase asks for them as they were read.
abbrev pub without_clauses : File → File
without_clauses [] = []
without_clauses (e ∷ es) =
    if is_clause e.0 then without_clauses es else e ∷ without_clauses es
