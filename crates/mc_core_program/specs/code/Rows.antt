-- Clauses in rows, and the query's arguments, as the program has them while it makes the whole.
use Rattle.std.specs.Prelude.{◌≡◌, ◌<◌, ℕ, List, [], map, length, get_or, Option, None}
use Rattle.mc_program.specs.Programs.{TypeTerm, variable_type, Expression, variable, Predicate}
use Rattle.mc_program.specs.PlainPrograms.{plain_symbol, plain_pred}
use Rattle.mc_program.specs.declared.program.Program.{Program}
use Rattle.mc_program.specs.declared.program.Resolved.{Resolved}
use Rattle.mc_accepted.specs.NormalTypes.{TypedClause}
use Rattle.mc_goals.specs.Resolved.{typed_clause, clause_of}
use Rattle.mc_core_program.specs.Whole.{whole_clause, each_with_clauses}
use Rattle.mc_accepted.specs.NormalGoals.{HasNormalGoals}
use Rattle.mc_core_program.specs.WholeProgramGoals.{HasTypedGoals}
use Rattle.mc_core_program.specs.declared.whole_program_program.WholeProgram.{WholeProgram}

-- a numbered clause as it runs
abbrev pub whole_numbered : (definitions : ℕ → Option TypeTerm) → ℕ × TypedClause → ℕ × TypedClause
whole_numbered D p = (p.0, whole_clause D p.1)

-- the type, and the name, of an argument that is a variable
abbrev pub argument_type : List TypeTerm → Expression → TypeTerm
argument_type types (variable v) = get_or types v (variable_type v)
argument_type types t = variable_type 0

abbrev pub argument_name : List (List ℕ) → Expression → List ℕ
argument_name names (variable v) = get_or names v []
argument_name names t = []

-- a query's predicate and the names that it asks for, by its clause as it runs
abbrev pub predicate_over : TypedClause → Predicate
predicate_over c =
    record {
      name = record { module_name = []; bytes = []; arity = length c.clause.head };
      types = map (argument_type c.types) c.clause.head;
      clauses = [];
      builtin = None;
    }

abbrev pub names_over : TypedClause → List (List ℕ)
names_over c = map (argument_name c.names) c.clause.head

-- this is a program with these rows of clauses and its goals
pub record IsJoined (program : Program) (rows : List (List Resolved)) (whole : WholeProgram) : Type 0 where
  pub types : whole.program.types ≡ program.types
  pub symbols : whole.program.symbols ≡ program.symbols
  pub preds :
      map plain_pred whole.program.preds
      ≡ each_with_clauses (map plain_pred program.preds) (map (map clause_of) rows)
  pub goals : HasNormalGoals whole.program whole.goals.items
  pub typed :
      HasTypedGoals (map plain_pred program.preds) (map (map typed_clause) rows) whole.goals.items
