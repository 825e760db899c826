-- Orders keep insts tidy: where `unique` and `dead` stand at io's state alone before a goal, they do
-- so at each point in its order and after it. (Mercury Language Reference Manual: Modes, unique
-- modes; this project's profile of uniqueness.)
use Rattle.std.specs.Prelude.{◌≡◌, ℕ, ◌<◌, List, [], ◌∷◌, Option, Some, None}
use Rattle.mc_program.specs.Programs.{TypeTerm, Source}
use Rattle.mc_model.specs.Flat.{Flat_goal}
use Rattle.mc_model.specs.Insts.{free, ground, Graph}
use Rattle.mc_model.specs.Lists.{In}
use Rattle.mc_model.specs.Scheduled.{Node, node, Scheduled, Conj, Disj, Switch, Ite, Not, Exists, Assign, Test, Build, Take, Const, TestConst, Call, Apply, Nodes, no_nodes, node_then, Arms, no_arms, arm_then, Procedure}
use Rattle.mc_model.specs.Types.{instance_of}
use Rattle.mc_model.specs.Good.{System}
use Rattle.mc_accepted.specs.Accepted.{entered}
use Rattle.mc_accepted.specs.Arranged.{Declared, runs, trial}
use Rattle.mc_accepted.specs.BuiltinTypes.{Library_types, HasBuiltins}
use Rattle.mc_accepted.specs.NodeOracle.{NodeOracle, of_nodes}
use Rattle.mc_accepted.specs.Fits.{FitsInsts, FitsProcedure, type_of}
use Rattle.mc_accepted.specs.FreshTests.{AllAlike}
use Rattle.mc_accepted.specs.Ordered.{Insts}
use Rattle.mc_accepted.specs.ProperTypes.{Parameters}
use Rattle.mc_accepted.specs.Tidy.{Tidy, EachTidy}
use Rattle.mc_accepted.specs.Typing.{TypedGoal}
use Rattle.mc_accepted.specs.code.Truthful.{Truthful, AllDeclared}

-- a tidy inst is tidy at each instance of the type
abbrev pub TidyAtInstances : Type 0
TidyAtInstances =
    (P : Source) (G : Graph) (σ : ℕ → TypeTerm) (i : ℕ) (t : TypeTerm) → Tidy P G i t
    → Tidy P G i (instance_of σ t)

-- a type lists a constructor's name, with its number of arguments, once
abbrev pub NamesOnce : Source → Type 0
NamesOnce P =
    (u s r : ℕ) → In s (P.symbols_of u) → In r (P.symbols_of u)
    → (P.symbols s).name.bytes ≡ (P.symbols r).name.bytes
    → (P.symbols s).name.arity ≡ (P.symbols r).name.arity → s ≡ r

-- What keeps insts tidy from one goal to the next: the first two nodes are `free` and `ground`, types
-- list names once, builtins have their types, and each procedure's final insts are tidy.
pub record EndsTidily (S : System) : Type 0 where
  pub is_free : S.insts 0 ≡ free
  pub is_ground : S.insts 1 ≡ ground
  pub names : NamesOnce S.world.source
  pub builtins : (K : Library_types) × HasBuiltins S.world.source K
  pub procedures :
      (k : ℕ)
      → k < S.count
      → EachTidy S.world.source S.insts (S.procs k).last
      (S.world.source.preds (S.procs k).pred).types

module _ (S : System) (T : ℕ → TypeTerm) where
  -- each variable's inst is tidy at its type
  abbrev pub TidyPoint : Insts → Type 0
  TidyPoint b = (x : ℕ) → Tidy S.world.source S.insts (b x) (T x)

  abbrev pub TidyEnd : Option Insts → Type 0
  TidyEnd None = Unit {0}
  TidyEnd (Some c) = TidyPoint c

  abbrev pub EachChangeTidy : List (ℕ × ℕ) → Type 0
  EachChangeTidy [] = Unit {0}
  EachChangeTidy (change ∷ changes) =
      Tidy S.world.source S.insts change.1 (T change.0) × EachChangeTidy changes

  -- so is each inst to which a goal, or a part of it, changes one
  abbrev mutual
    pub ChangesTidy : Node → Type 0
    ChangesTidy (node s changes d pruned) = EachChangeTidy changes × ChangesTidyIn s

    pub ChangesTidyIn : Scheduled → Type 0
    ChangesTidyIn (Conj ns) = AllChangeTidy ns
    ChangesTidyIn (Disj ns) = AllChangeTidy ns
    ChangesTidyIn (Switch v arms) = ArmsChangeTidy arms
    ChangesTidyIn (Ite vs c t e) = ChangesTidy c × ChangesTidy t × ChangesTidy e
    ChangesTidyIn (Not n) = ChangesTidy n
    ChangesTidyIn (Exists vs n) = ChangesTidy n
    ChangesTidyIn (Assign v w) = Unit {0}
    ChangesTidyIn (Test v w) = Unit {0}
    ChangesTidyIn (Build v s ys) = Unit {0}
    ChangesTidyIn (Take v s ys) = Unit {0}
    ChangesTidyIn (Const v c) = Unit {0}
    ChangesTidyIn (TestConst v c) = Unit {0}
    ChangesTidyIn (Call p xs implied last) = Unit {0}
    ChangesTidyIn (Apply op xs ys) = Unit {0}

    pub AllChangeTidy : Nodes → Type 0
    AllChangeTidy no_nodes = Unit {0}
    AllChangeTidy (node_then n ns) = ChangesTidy n × AllChangeTidy ns

    pub ArmsChangeTidy : Arms → Type 0
    ArmsChangeTidy no_arms = Unit {0}
    ArmsChangeTidy (arm_then l n arms) = ChangesTidy n × ArmsChangeTidy arms

-- A typed goal that is arranged over nodes from a tidy point has tidy insts at each point in its
-- order, and after it, where fresh variables in it are typed like those for which they stand.
abbrev pub OrdersStayTidy : Type 0
OrdersStayTidy =
    (S : System) (T : ℕ → TypeTerm) (C : NodeOracle) (declared : ℕ → List Declared) → Truthful S T C
    → ((p : ℕ) → (S.world.source.preds p).builtin ≡ None → AllDeclared S T p (declared p))
    → EndsTidily S
    → (g : Flat_goal) (O : List ℕ) (n : ℕ) (b : Insts) (gs : Nodes) (o : Option Insts) (m : ℕ)
    (zs : List ℕ) → TypedGoal S.world.source T g → TidyPoint S T b
    → trial (of_nodes C) S.world.source declared T g O n b ≡ runs gs o m zs → AllAlike T n gs
    → AllChangeTidy S T gs × TidyEnd S T o

-- A procedure that fits is entered with tidy insts.
abbrev pub EntriesAreTidy : Type 0
EntriesAreTidy =
    (S : System) (D : Parameters) (p : Procedure) → FitsInsts S.insts → FitsProcedure S D p
    → TidyPoint S (type_of S p) (entered p.head p.first)
