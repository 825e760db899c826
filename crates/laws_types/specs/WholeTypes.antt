-- The program that runs fits as far as types go: it is made of clauses and of a query that are
-- typed, each as its own module sees the program. (Mercury Language Reference Manual: Types; The
-- module system; that a query is a predicate behind the others is this project's profile.)
use Rattle.std.specs.Prelude.{◌≡◌, ◌<◌, ℕ, nat_eq, List, [], ◌∷◌, ◌++◌, map, length, Option, Some, None, if◌then◌else◌}
use Rattle.mc_program.specs.Programs.{TypeTerm, Predicate, Source}
use Rattle.mc_program.specs.PlainPrograms.{plain_type, plain_program, no_pred}
use Rattle.mc_model.specs.Lists.{from}
use Rattle.mc_model.specs.Scheduled.{Procedure}
use Rattle.mc_model.specs.Good.{System}
use Rattle.mc_accepted.specs.ProperTypes.{EachProper}
use Rattle.mc_accepted.specs.NormalTypes.{TypedClause}
use Rattle.mc_accepted.specs.MostGeneral.{MostGeneral}
use Rattle.mc_accepted.specs.Fits.{FitsTypes}
use Rattle.mc_names.specs.Linked.{Linked}
use Rattle.mc_type_table.specs.Rules.{type_faults}
use Rattle.mc_declarations.specs.Declarations.{parameter_counts}
use Rattle.mc_declarations.specs.Proper.{AreWellWritten, declared_for}
use Rattle.laws_types.specs.ProcedureTypes.{TypesFit}
use Rattle.mc_accepted.specs.NormalGoals.{goal_at}
use Rattle.mc_core_program.specs.Wholes.{query_predicate, IsWhole}
use Rattle.mc_core_program.specs.declared.whole_program_program.WholeProgram.{WholeProgram}
use Rattle.laws_types.specs.SeenTypes.{with_preds}

-- the predicate that the query is, where there is one
abbrev pub asked_predicate : Linked → Option TypedClause → Predicate
asked_predicate l None = no_pred
asked_predicate l (Some c) = query_predicate l c

module _ (l : Linked) (query : Option TypedClause) where
  -- the predicates and functions that a module sees, and behind them the query's
  abbrev pub seen_preds : (own : ℕ) → ℕ → Predicate
  seen_preds own p =
      if nat_eq p (length l.preds) then asked_predicate l query else (declared_for l own).preds p

  abbrev pub seen_program : (own : ℕ) → Source
  seen_program own = with_preds (declared_for l own) (seen_preds own)

  -- a clause of the predicate of a number is typed in a module: with its most general types, which
  -- are well formed
  pub record IsTypedIn (own number : ℕ) (c : TypedClause) : Type 0 where
    pub there : number < length l.preds
    pub heads : length c.clause.head ≡ length ((declared_for l own).preds number).types
    pub general :
        MostGeneral (seen_program own) (parameter_counts l)
        ((declared_for l own).preds number).types c
    pub proper : EachProper (parameter_counts l) c.types

  abbrev pub EachIsTypedIn : List (ℕ × TypedClause) → Type 0
  EachIsTypedIn [] = Unit {0}
  EachIsTypedIn ((p, c) ∷ rest) = ((own : ℕ) × IsTypedIn own p c) × EachIsTypedIn rest

  -- so is the query, as a clause without arguments
  abbrev pub QueryIsTyped : Option TypedClause → Type 0
  QueryIsTyped None = Unit {0}
  QueryIsTyped (Some c) =
      (own : ℕ)
      × (c.clause.head ≡ [])
      × MostGeneral (seen_program own) (parameter_counts l) [] c
      × EachProper (parameter_counts l) c.types

-- a procedure of a whole program has the variables of its predicate's normal goal, with their
-- types, and others behind them
pub record IsOfGoal (whole : WholeProgram) (more : List TypeTerm) (p : Procedure) : Type 0 where
  pub there : p.pred < length whole.program.preds
  pub head : p.head ≡ from 0 (length ((plain_program whole.program).preds p.pred).types)
  pub types :
      p.var_types ≡ map plain_type (goal_at whole.goals.items p.pred).var_types ++ more

-- the types of a whole program fit, and its procedures fit as far as types go
abbrev pub TypesFitIn : Linked → WholeProgram → Type 0
TypesFitIn l whole =
    FitsTypes (plain_program whole.program) (parameter_counts l)
    × ((S : System) (more : List TypeTerm) (p : Procedure)
    → S.world.source ≡ plain_program whole.program
    → EachProper (parameter_counts l) more
    → IsOfGoal whole more p → TypesFit S (parameter_counts l) p)

-- THE LAW
abbrev pub WholeTypesFit : Type 0
WholeTypesFit =
    (l : Linked) (clauses : List (ℕ × TypedClause)) (query : Option TypedClause)
    (whole : WholeProgram)
    → AreWellWritten l → type_faults l ≡ []
    → EachIsTypedIn l query clauses → QueryIsTyped l query query
    → IsWhole l clauses query whole → TypesFitIn l whole
