-- Systems that fit: what is asked of a program's insts, types, builtins and procedures besides that
-- each procedure is accepted. (Mercury Language Reference Manual: Types; Modes; this project's
-- certificates.)
use Rattle.std.specs.Prelude.{◌≡◌, ◌≢◌, ℕ, suc, ◌<◌, List, [], ◌∷◌, map, length, get_or, Some, None}
use Rattle.mc_program.specs.Programs.{TypeTerm, variable_type, ClauseForm, Source}
use Rattle.mc_model.specs.Lists.{In}
use Rattle.mc_model.specs.Insts.{Listed, free, ground, unique, dead, bound, Graph}
use Rattle.mc_model.specs.Scheduled.{Procedure}
use Rattle.mc_model.specs.Good.{System}
use Rattle.mc_accepted.specs.Proper.{ProperGraph}
use Rattle.mc_accepted.specs.ProperTypes.{Parameters, ProperType, EachProper, EachBelow}
use Rattle.mc_accepted.specs.Tidy.{EachTidy}
use Rattle.mc_accepted.specs.BuiltinFits.{FitsBuiltins}
use Rattle.mc_accepted.specs.BuiltinTypes.{Library_types}
use Rattle.mc_accepted.specs.IoFits.{FitsIo}
use Rattle.mc_accepted.specs.Scope.{ClauseHasScopes}
use Rattle.mc_accepted.specs.Normal.{Normal_goal, normal_goal}
use Rattle.mc_accepted.specs.Typing.{TypedGoal}

abbrev pub NoneFree : List ℕ → Type 0
NoneFree [] = Unit {0}
NoneFree (i ∷ is) = (i ≢ 0) × NoneFree is

abbrev pub NoArgumentFree : List Listed → Type 0
NoArgumentFree [] = Unit {0}
NoArgumentFree (l ∷ ls) = NoneFree l.args × NoArgumentFree ls

-- The first four insts are the builtin ones; those after them are bound, list a constructor once at
-- most, and are free nowhere inside.
pub record FitsInsts (G : Graph) : Type 0 where
  pub is_free : G 0 ≡ free
  pub is_ground : G 1 ≡ ground
  pub is_unique : G 2 ≡ unique
  pub is_dead : G 3 ≡ dead
  pub are_bound :
      (i : ℕ)
      → (ls : List Listed)
      × (G (suc (suc (suc (suc i)))) ≡ bound ls)
      × NoArgumentFree ls
  pub proper : ProperGraph G

-- A constructor has as many arguments as its name says; the arguments of one that its type lists are
-- well formed, and their type variables are that type's parameters.
pub record FitsTypes (P : Source) (D : Parameters) : Type 0 where
  pub arities : (s : ℕ) → (P.symbols s).name.arity ≡ length (P.symbols s).args
  pub parameters :
      (s k : ℕ)
      → D (P.symbols s).of_type ≡ Some k → In s (P.symbols_of (P.symbols s).of_type)
      → EachBelow k (P.symbols s).args
  pub arguments :
      (s k : ℕ)
      → D (P.symbols s).of_type ≡ Some k → In s (P.symbols_of (P.symbols s).of_type)
      → EachProper D (P.symbols s).args

abbrev pub EachClauseHasScopes : List ClauseForm → Type 0
EachClauseHasScopes [] = Unit {0}
EachClauseHasScopes (c ∷ cs) = ClauseHasScopes c × EachClauseHasScopes cs

-- each clause's head has that many arguments
abbrev pub HeadsHave : ℕ → List ClauseForm → Type 0
HeadsHave arity [] = Unit {0}
HeadsHave arity (c ∷ cs) = (length c.head ≡ arity) × HeadsHave arity cs

-- the normal goal of the procedure's predicate
abbrev pub goal_of : System → Procedure → Normal_goal
goal_of S p =
    normal_goal (length (S.world.source.preds p.pred).types) (S.world.source.preds p.pred).clauses

-- the type of a variable of the procedure
abbrev pub type_of : System → Procedure → ℕ → TypeTerm
type_of S p x = get_or p.var_types x (variable_type x)

pub record FitsProcedure (S : System) (D : Parameters) (p : Procedure) : Type 0 where
  -- the clauses' heads have the predicate's arity, and their scopes are written out
  pub heads :
      HeadsHave (length (S.world.source.preds p.pred).types)
      (S.world.source.preds p.pred).clauses
  pub scopes : EachClauseHasScopes (S.world.source.preds p.pred).clauses
  -- the variables' types are well formed, and the head variables have the predicate's
  pub types : (x : ℕ) → ProperType D (type_of S p x)
  pub head_types : map (type_of S p) p.head ≡ (S.world.source.preds p.pred).types
  -- the atoms of the predicate's one goal are typed
  pub typed : TypedGoal S.world.source (type_of S p) (goal_of S p).body
  -- `unique` and `dead` stand at io's state alone
  pub tidy :
      EachTidy S.world.source S.insts p.first (S.world.source.preds p.pred).types
      × EachTidy S.world.source S.insts p.last (S.world.source.preds p.pred).types
  -- a predicate with a builtin has no procedure
  pub no_builtin : (S.world.source.preds p.pred).builtin ≡ None

pub record Fits (S : System) (D : Parameters) : Type 0 where
  pub insts : FitsInsts S.insts
  pub types : FitsTypes S.world.source D
  pub builtins : FitsBuiltins S.world
  pub io : (K : Library_types) × FitsIo S.world K
  pub procedures : (k : ℕ) → k < S.count → FitsProcedure S D (S.procs k)
