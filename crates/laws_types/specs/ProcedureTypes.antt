-- The types of a procedure: where its predicate's clauses are typed, it fits the types of its
-- program. (Mercury Language Reference Manual: Types; this project's certificates.)
use Rattle.std.specs.Prelude.{◌≡◌, ℕ, List, [], ◌∷◌, ◌++◌, map, length}
use Rattle.mc_program.specs.Programs.{TypeTerm, Source}
use Rattle.mc_model.specs.Lists.{from}
use Rattle.mc_model.specs.Scheduled.{Procedure}
use Rattle.mc_model.specs.Good.{System}
use Rattle.mc_accepted.specs.ProperTypes.{Parameters, ProperType, EachProper}
use Rattle.mc_accepted.specs.Typing.{TypedGoal}
use Rattle.mc_accepted.specs.NormalTypes.{TypedClause, normal_types}
use Rattle.mc_accepted.specs.Fits.{HeadsHave, goal_of, type_of}
use Rattle.laws_types.specs.GoalTypes.{forms_of, with_scopes, EachMostGeneral, GoalIsTyped}

-- two programs declare the same constructors, and predicates and functions of the same types; their
-- clauses may differ
pub record DeclareTheSame (P Q : Source) : Type 0 where
  pub symbols : Q.symbols ≡ P.symbols
  pub listed : Q.symbols_of ≡ P.symbols_of
  pub types : (p : ℕ) → (Q.preds p).types ≡ (P.preds p).types

abbrev pub TypesAreProper : Parameters → List TypedClause → Type 0
TypesAreProper D [] = Unit {0}
TypesAreProper D (c ∷ cs) = EachProper D c.types × TypesAreProper D cs

-- The procedure's predicate has these clauses, which are typed in a program that declares the same,
-- with their scopes written out. Its variables are those of the predicate's normal goal, with their
-- types, and others behind them.
pub record HasTypedClauses
    (S : System) (P : Source) (D : Parameters) (cs : List TypedClause) (more : List TypeTerm)
    (p : Procedure)
    : Type 0 where
  pub same : DeclareTheSame P S.world.source
  pub clauses :
      (S.world.source.preds p.pred).clauses ≡ forms_of (map with_scopes cs)
  pub heads : HeadsHave (length (P.preds p.pred).types) (forms_of cs)
  pub general : EachMostGeneral P D (P.preds p.pred).types cs
  pub declared : EachProper D (P.preds p.pred).types
  pub proper : TypesAreProper D cs
  pub others : EachProper D more
  pub head : p.head ≡ from 0 (length (P.preds p.pred).types)
  pub types :
      p.var_types ≡ normal_types (P.preds p.pred).types (map with_scopes cs) ++ more

-- what is asked of the types of a procedure that fits
pub record TypesFit (S : System) (D : Parameters) (p : Procedure) : Type 0 where
  pub heads :
      HeadsHave (length (S.world.source.preds p.pred).types)
      (S.world.source.preds p.pred).clauses
  pub types : (x : ℕ) → ProperType D (type_of S p x)
  pub head_types : map (type_of S p) p.head ≡ (S.world.source.preds p.pred).types
  pub typed : TypedGoal S.world.source (type_of S p) (goal_of S p).body

-- The same of clauses that are typed in the procedure's own program: their heads are of the
-- predicate, its goal is typed by their types, which are well formed, and its variables have these,
-- and others behind them.
pub record HasTypedGoal
    (S : System) (D : Parameters) (cs : List TypedClause) (more : List TypeTerm) (p : Procedure)
    : Type 0 where
  pub clauses : (S.world.source.preds p.pred).clauses ≡ forms_of cs
  pub heads : HeadsHave (length (S.world.source.preds p.pred).types) (forms_of cs)
  pub goal : GoalIsTyped S.world.source (S.world.source.preds p.pred).types cs
  pub declared : EachProper D (S.world.source.preds p.pred).types
  pub proper : TypesAreProper D cs
  pub others : EachProper D more
  pub head : p.head ≡ from 0 (length (S.world.source.preds p.pred).types)
  pub types : p.var_types ≡ normal_types (S.world.source.preds p.pred).types cs ++ more

abbrev pub TypedGoalsFit : Type 0
TypedGoalsFit =
    (S : System) (D : Parameters) (cs : List TypedClause) (more : List TypeTerm) (p : Procedure)
    → HasTypedGoal S D cs more p → TypesFit S D p

abbrev pub TypedClausesFit : Type 0
TypedClausesFit =
    (S : System) (P : Source) (D : Parameters) (cs : List TypedClause) (more : List TypeTerm)
    (p : Procedure)
    → HasTypedClauses S P D cs more p → TypesFit S D p
