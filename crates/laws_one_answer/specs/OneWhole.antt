-- What typing says in two ways of a program's items is one list of clauses, and what runs of it is one program, with
-- one list of normal goals. (Mercury Language Reference Manual: Types, overloading; this project's profile: the walk
-- and the numbers of type variables; the query is this project's.)
use Rattle.std.specs.Prelude.{◌≡◌, ℕ, List, ◌++◌, map, length, Option}
use Rattle.std.specs.Option.{is_some, option_map, option_to_list}
use Rattle.mc_program.specs.Programs.{TypeTerm}
use Rattle.mc_program.specs.PlainPrograms.{plain_type, plain_symbol, plain_pred, plain_program}
use Rattle.mc_program.specs.declared.program.Program.{Program}
use Rattle.mc_model.specs.PlainGoals.{plain_flat}
use Rattle.mc_model.specs.declared.flat.Normal.{Normal}
use Rattle.mc_accepted.specs.NormalTypes as N
use Rattle.mc_names.specs.Linked.{Linked}
use Rattle.mc_goals.specs.Resolved.{typed_clause}
use Rattle.mc_type_phase.specs.Items.{Item}
use Rattle.mc_type_phase.specs.Judging.{AreTyped}
use Rattle.mc_type_phase.specs.declared.judged.TypedClause.{TypedClause}
use Rattle.mc_modes.specs.NormalGoals.{goal_at}
use Rattle.mc_core_program.specs.Wholes.{IsWhole}
use Rattle.mc_core_program.specs.declared.whole_program_program.WholeProgram.{WholeProgram}

-- a typed clause as plain data: its form with its names resolved, and its variables with their types and names
abbrev pub plain_typed : TypedClause → N.TypedClause
plain_typed c = typed_clause c.resolved

-- and with the number of its predicate
abbrev pub numbered : TypedClause → ℕ × N.TypedClause
numbered c = (c.pred, plain_typed c)

-- What items are resolved to is one list, as plain data. A clause that is typed has one resolution, and
-- of its most general types those are taken whose type variables are numbered as they occur.
abbrev pub TypedAreOne : Type 0
TypedAreOne =
    (l : Linked) (seen : (own : ℕ) → ℕ → Option TypeTerm) (items : List Item)
    (clauses others : List TypedClause)
    → AreTyped l seen items clauses → AreTyped l seen items others
    → map numbered clauses ≡ map numbered others

-- two normal goals are one, as plain data
pub record GoalIsOne (g h : Normal) : Type 0 where
  pub pred : h.pred ≡ g.pred
  pub head : h.head ≡ g.head
  pub body : plain_flat h.body ≡ plain_flat g.body
  pub types : map plain_type h.var_types ≡ map plain_type g.var_types
  pub names : h.var_names ≡ g.var_names

-- so are two lists of goals, each with that of the same number
abbrev pub GoalsAreOne : (goals others : List Normal) → Type 0
GoalsAreOne goals others = (p : ℕ) → GoalIsOne (goal_at goals p) (goal_at others p)

-- Two programs are one, as plain data. (They may differ in what plain data leaves out, as the place of a
-- clause, or whether a body is `true` or the conjunction of none.)
pub record OneProgram (P Q : Program) : Type 0 where
  pub source : plain_program Q ≡ plain_program P
  pub preds : map plain_pred Q.preds ≡ map plain_pred P.preds
  pub symbols : map plain_symbol Q.symbols ≡ map plain_symbol P.symbols
  pub types : Q.types ≡ P.types

-- two programs that run are one, with one normal goal of each predicate
pub record WholeIsOne (whole other : WholeProgram) : Type 0 where
  pub program : OneProgram whole.program other.program
  pub as_many : length other.goals.items ≡ length whole.goals.items
  pub goals : GoalsAreOne whole.goals.items other.goals.items
  pub exported : other.exported.items ≡ whole.exported.items
  pub variables : other.variables ≡ whole.variables

-- So it is where both are the program that runs of what items are resolved to, of which the query is the last,
-- where there is one.
abbrev pub WholesAreOne : Type 0
WholesAreOne =
    (l : Linked) (seen : (own : ℕ) → ℕ → Option TypeTerm) (items : List Item)
    (clauses others : List TypedClause) (query asked : Option TypedClause)
    (whole other : WholeProgram)
    → AreTyped l seen items (clauses ++ option_to_list query)
    → AreTyped l seen items (others ++ option_to_list asked)
    → is_some query ≡ is_some asked
    → IsWhole l (map numbered clauses) (option_map plain_typed query) whole
    → IsWhole l (map numbered others) (option_map plain_typed asked) other
    → WholeIsOne whole other
