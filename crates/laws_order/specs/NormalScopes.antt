-- The scopes of predicates' normal goals, and the number from which variables are in none: what the
-- order of goals asks of them follows from the clauses. (Mercury Language Reference Manual: Syntax,
-- implicit quantification; this project's normal form.)
use Rattle.std.specs.Prelude.{◌≡◌, ℕ, List, [], ◌∷◌, ◌++◌, length, Option, None}
use Rattle.mc_program.specs.Programs.{expressions, Formula, Equal, Call, And, Or, If, Not, Exists, Formulas, no_formulas, formula_then, ClauseForm}
use Rattle.mc_model.specs.Flat.{variables_of}
use Rattle.mc_model.specs.Lists.{Apart, from, without}
use Rattle.mc_model.specs.Good.{System}
use Rattle.mc_model.specs.Scheduled.{Node, Procedure}
use Rattle.mc_accepted.specs.Scope.{variables_in_all, occurring, occurring_all, free_of, clause_scoped}
use Rattle.mc_accepted.specs.Normal.{named_by_quantifiers, named_by_quantifiers_of_all, normal_goal}
use Rattle.mc_accepted.specs.Fits.{HeadsHave, goal_of, type_of}
use Rattle.mc_accepted.specs.Ordered.{Insts}
use Rattle.mc_accepted.specs.Accepted.{entered, FinalAfter}
use Rattle.mc_accepted.specs.Arranged.{Declared, in_order, arrange}
use Rattle.mc_accepted.specs.NodeOracle.{NodeOracle, of_nodes}
use Rattle.mc_accepted.specs.FreshTests.{TestsAlike}
use Rattle.mc_accepted.specs.Typing.{TypedGoal}
use Rattle.mc_accepted.specs.code.Truthful.{Truthful, AllDeclared}
use Rattle.laws_order.specs.OrderLaws.{Below, FlatScopes, IsOrderOf}
use Rattle.laws_order.specs.Tidying.{EndsTidily, TidyPoint}

-- the variables that occur in a goal, or that a quantifier of it names
abbrev pub mentioned : Formula → List ℕ
mentioned g = occurring g ++ named_by_quantifiers g

abbrev pub all_mentioned : Formulas → List ℕ
all_mentioned gs = occurring_all gs ++ named_by_quantifiers_of_all gs

-- Quantifiers are named apart, where the first list is what is outside: a variable that a quantifier
-- names is not mentioned outside its scope, but in parallel goals. The variables that are free in a
-- negation, and those free in a condition that it doesn't quantify, count as outside its parts.
abbrev mutual
  pub NamedApart : (outside : List ℕ) → Formula → Type 0
  NamedApart O (Equal a b) = Unit {0}
  NamedApart O (Call p ts) = Unit {0}
  NamedApart O (And gs) = PartsNamedApart O gs
  NamedApart O (Or gs) = DisjunctsNamedApart O gs
  NamedApart O (If vs c t e) =
      Apart vs O
      × NamedApart (O ++ (without (free_of c) vs ++ mentioned t)) c
      × NamedApart (O ++ mentioned c) t
      × NamedApart O e
  NamedApart O (Not g) = NamedApart (O ++ free_of g) g
  NamedApart O (Exists vs g) = Apart vs O × NamedApart O g

  pub PartsNamedApart : (outside : List ℕ) → Formulas → Type 0
  PartsNamedApart O no_formulas = Unit {0}
  PartsNamedApart O (formula_then g gs) =
      NamedApart (O ++ all_mentioned gs) g × PartsNamedApart (O ++ mentioned g) gs

  pub DisjunctsNamedApart : (outside : List ℕ) → Formulas → Type 0
  DisjunctsNamedApart O no_formulas = Unit {0}
  DisjunctsNamedApart O (formula_then g gs) = NamedApart O g × DisjunctsNamedApart O gs

abbrev pub ClauseNamedApart : ClauseForm → Type 0
ClauseNamedApart c = NamedApart (variables_in_all (expressions c.head)) c.body

abbrev pub EachNamedApart : List ClauseForm → Type 0
EachNamedApart [] = Unit {0}
EachNamedApart (c ∷ cs) = ClauseNamedApart c × EachNamedApart cs

-- A goal's own quantifiers name variables of their own, where the first list is what is outside and
-- what quantifiers around name: a variable that one names is mentioned outside its scope in parallel
-- goals at most, and no quantifier around names it.
abbrev mutual
  pub OwnNames : (around : List ℕ) → Formula → Type 0
  OwnNames X (Equal a b) = Unit {0}
  OwnNames X (Call p ts) = Unit {0}
  OwnNames X (And gs) = PartsOwnNames X gs
  OwnNames X (Or gs) = DisjunctsOwnNames X gs
  OwnNames X (If vs c t e) =
      Apart vs X
      × OwnNames (X ++ (vs ++ mentioned t)) c
      × OwnNames (X ++ (vs ++ mentioned c)) t
      × OwnNames X e
  OwnNames X (Not g) = OwnNames X g
  OwnNames X (Exists vs g) = Apart vs X × OwnNames (X ++ vs) g

  pub PartsOwnNames : (around : List ℕ) → Formulas → Type 0
  PartsOwnNames X no_formulas = Unit {0}
  PartsOwnNames X (formula_then g gs) =
      OwnNames (X ++ all_mentioned gs) g × PartsOwnNames (X ++ mentioned g) gs

  pub DisjunctsOwnNames : (around : List ℕ) → Formulas → Type 0
  DisjunctsOwnNames X no_formulas = Unit {0}
  DisjunctsOwnNames X (formula_then g gs) = OwnNames X g × DisjunctsOwnNames X gs

-- Where a clause's own quantifiers do so, those of the clause with its scopes written out are named
-- apart.
abbrev pub ScopedNamedApart : Type 0
ScopedNamedApart =
    (c : ClauseForm)
    → OwnNames (variables_in_all (expressions c.head)) c.body
    → ClauseNamedApart (clause_scoped c)

-- the scopes of a predicate's normal goal are written out, where its head variables are outside
abbrev pub NormalGoalsScoped : Type 0
NormalGoalsScoped =
    (arity : ℕ) (cls : List ClauseForm) → HeadsHave arity cls → EachNamedApart cls
    → FlatScopes (from 0 arity) (normal_goal arity cls).body

-- the number of its variables is above all of them, and above the head variables
abbrev pub NormalGoalsBelow : Type 0
NormalGoalsBelow =
    (arity : ℕ) (cls : List ClauseForm) → HeadsHave arity cls
    → Below (normal_goal arity cls).variables (from 0 arity)
    × Below (normal_goal arity cls).variables (variables_of (normal_goal arity cls).body)

-- What is asked of a procedure: its clauses' heads have the predicate's arity and their quantifiers
-- are named apart, its head variables and their final insts are as many, its goal is typed, and it is
-- entered with tidy insts.
pub record HasClauses (S : System) (p : Procedure) : Type 0 where
  pub heads : HeadsHave (goal_of S p).arity (S.world.source.preds p.pred).clauses
  pub apart : EachNamedApart (S.world.source.preds p.pred).clauses
  pub head : p.head ≡ from 0 (goal_of S p).arity
  pub last : length p.last ≡ (goal_of S p).arity
  pub typed : TypedGoal S.world.source (type_of S p) (goal_of S p).body
  pub tidy : TidyPoint S (type_of S p) (entered p.head p.first)

-- Where a predicate's normal goal is in order over nodes of the graph, variables being numbered on
-- from its own, and those that stand for implied outputs are typed like them, that is the order of
-- an ordered goal, and its end meets the final insts.
abbrev pub NormalOrderIsOrdered : Type 0
NormalOrderIsOrdered =
    (S : System) (p : Procedure) (C : NodeOracle) (declared : ℕ → List Declared)
    → Truthful S (type_of S p) C
    → ((q : ℕ)
    → (S.world.source.preds q).builtin ≡ None → AllDeclared S (type_of S p) q (declared q))
    → EndsTidily S
    → HasClauses S p
    → (x : Node)
    → arrange (of_nodes C) S.world.source declared (type_of S p) (goal_of S p).variables p.head
    p.first p.last (goal_of S p).body
    ≡ in_order x
    → TestsAlike (type_of S p) (goal_of S p).variables x
    → (o : Option Insts)
    × IsOrderOf S (type_of S p) p.head p.head (entered p.head p.first) (goal_of S p).body x o
    × FinalAfter S p o
