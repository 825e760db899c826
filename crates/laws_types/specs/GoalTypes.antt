-- The typing of a predicate's one goal: the types of its clauses, each with its own variables, are
-- those of the goal of all of them; scopes that are written out keep most general types. (Mercury
-- Language Reference Manual: Types; Syntax, implicit quantification; this project's normal form.)
use Rattle.std.specs.Prelude.{◌≡◌, List, [], ◌∷◌, map, length}
use Rattle.mc_program.specs.Programs.{TypeTerm, ClauseForm, Source}
use Rattle.mc_accepted.specs.ProperTypes.{Parameters}
use Rattle.mc_accepted.specs.Scope.{clause_scoped}
use Rattle.mc_accepted.specs.Typing.{TypedGoal}
use Rattle.mc_accepted.specs.Normal.{normal_goal}
use Rattle.mc_accepted.specs.NormalTypes.{TypedClause, normal_types}
use Rattle.mc_accepted.specs.MostGeneral.{type_at, MostGeneral}
use Rattle.mc_accepted.specs.Fits.{HeadsHave}

abbrev pub forms_of : List TypedClause → List ClauseForm
forms_of cs = map (λ (c : TypedClause). c.clause) cs

-- each clause has the most general types, where its predicate is declared with these
abbrev pub EachMostGeneral : Source → Parameters → List TypeTerm → List TypedClause → Type 0
EachMostGeneral P D declared [] = Unit {0}
EachMostGeneral P D declared (c ∷ cs) =
    MostGeneral P D declared c × EachMostGeneral P D declared cs

-- the goal of these clauses has as many variables as types, and is typed with them
pub record GoalIsTyped (P : Source) (declared : List TypeTerm) (cs : List TypedClause) : Type 0 where
  pub as_many :
      length (normal_types declared cs) ≡ (normal_goal (length declared) (forms_of cs)).variables
  pub typed :
      TypedGoal P (type_at (normal_types declared cs))
      (normal_goal (length declared) (forms_of cs)).body

-- so is that of each of them by itself
abbrev pub EachIsTyped : Source → List TypeTerm → List TypedClause → Type 0
EachIsTyped P declared [] = Unit {0}
EachIsTyped P declared (c ∷ cs) = GoalIsTyped P declared (c ∷ []) × EachIsTyped P declared cs

abbrev pub TypedGoalsJoin : Type 0
TypedGoalsJoin =
    (P : Source) (declared : List TypeTerm) (cs : List TypedClause)
    → HeadsHave (length declared) (forms_of cs)
    → EachIsTyped P declared cs → GoalIsTyped P declared cs

abbrev pub GoalsAreTyped : Type 0
GoalsAreTyped =
    (P : Source) (D : Parameters) (declared : List TypeTerm) (cs : List TypedClause)
    → HeadsHave (length declared) (forms_of cs)
    → EachMostGeneral P D declared cs → GoalIsTyped P declared cs

-- a clause with its scopes written out, its variables and their types as they are
abbrev pub with_scopes : TypedClause → TypedClause
with_scopes c =
    record {
      clause = clause_scoped c.clause;
      variables = c.variables;
      types = c.types;
      names = c.names;
    }

-- most general types stay so where scopes are written out
abbrev pub ScopesKeepTypes : Type 0
ScopesKeepTypes =
    (P : Source) (D : Parameters) (declared : List TypeTerm) (c : TypedClause)
    → MostGeneral P D declared c → MostGeneral P D declared (with_scopes c)
