-- What a procedure's phases have to tell, so that it is accepted. (Mercury Language Reference Manual:
-- Modes; Determinism; this project's certificates.)
use Rattle.std.specs.Prelude.{◌≡◌, ℕ, ◌<◌, List, length, Option, None, true}
use Rattle.mc_source.specs.declared.det.Det.{Det}
use Rattle.mc_source.specs.declared.det.Most.TheVariants.{Many}
use Rattle.mc_model.specs.Flat.{Flat_goal, variables_of}
use Rattle.mc_model.specs.Lists.{from}
use Rattle.mc_model.specs.Good.{System, GoodProcedures}
use Rattle.mc_model.specs.Scheduled.{Node, Procedure}
use Rattle.mc_accepted.specs.Ordered.{Insts, OrderedNode}
use Rattle.mc_accepted.specs.Determined.{Known, nothing_known}
use Rattle.mc_accepted.specs.MergedArms.{ArmsMerge}
use Rattle.mc_accepted.specs.Switched.{Kept, formed}
use Rattle.mc_accepted.specs.ProperTypes.{Parameters}
use Rattle.mc_accepted.specs.Fits.{FitsInsts, Fits, goal_of, type_of}
use Rattle.mc_accepted.specs.Unmarked.{changed_node}
use Rattle.mc_accepted.specs.Arranged.{Declared, in_order, arrange}
use Rattle.mc_accepted.specs.FreshTests.{TestsAlike}
use Rattle.mc_accepted.specs.Typing.{TypedGoal}
use Rattle.mc_accepted.specs.NodeOracle.{NodeOracle, of_nodes}
use Rattle.mc_accepted.specs.code.Truthful.{Truthful, AllDeclared}
use Rattle.mc_accepted.specs.Accepted.{entered, FinalAfter, KeepsDeterminism, AcceptedProcedure, Accepted}
use Rattle.mc_accepted.specs.Inferred.{DeclaredProcedure, DeclaredSystem, system_of, Closed}
use Rattle.mc_accepted.specs.DeterminismFaults.{procedure_fault}
use Rattle.mc_accepted.specs.PrunedMarks.{KeepsMarks}
use Rattle.laws_order.specs.OrderLaws.{Below, FlatScopes}
use Rattle.laws_order.specs.Tidying.{EndsTidily, TidyPoint}
use Rattle.laws_accepted.specs.Told.{Retold}

-- An ordered goal stays ordered where its determinisms are told by the table and its marks by the
-- insts after its goals.
abbrev pub ToldStaysOrdered : Type 0
ToldStaysOrdered =
    (S : System) (p : Procedure) (O Q : List ℕ) (b : Insts) (known : Known) (g : Flat_goal)
    (n m : Node) (o : Option Insts) → OrderedNode S (type_of S p) O Q b g n o → Retold n m
    → KeepsMarks S (type_of S p) Q b m → KeepsDeterminism S p b known m
    → OrderedNode S (type_of S p) O Q b g m o

-- What is told of a procedure: its head variables and their insts are as many as its predicate's
-- arguments, each of its goals has the determinism of the table, and a committed determinism has
-- many answers.
pub record IsTold (S : System) (p : Procedure) : Type 0 where
  pub head : p.head ≡ from 0 (goal_of S p).arity
  pub first : length p.first ≡ (goal_of S p).arity
  pub last : length p.last ≡ (goal_of S p).arity
  pub determinisms : KeepsDeterminism S p (entered p.head p.first) nothing_known p.body
  pub committed : p.det.committed ≡ true → p.det.most ≡ Many

-- the body is the predicate's goal in an order of the relation, whose end meets the final insts
abbrev pub BodyIsOrdered : System → Procedure → (body : Node) → Option Insts → Type 0
BodyIsOrdered S p n o =
    OrderedNode S (type_of S p) p.head p.head (entered p.head p.first) (goal_of S p).body n o
    × FinalAfter S p o

-- A procedure without a fault of determinism is accepted, where determinisms are closed and its
-- body is ordered.
abbrev pub FaultlessIsAccepted : Type 0
FaultlessIsAccepted =
    (D : DeclaredSystem) (ds : ℕ → Det) (k : ℕ) (o : Option Insts) → Closed D ds → k < D.count
    → procedure_fault (system_of D ds) (D.procs k) ((system_of D ds).procs k) ≡ None
    → IsTold (system_of D ds) ((system_of D ds).procs k)
    → BodyIsOrdered (system_of D ds) ((system_of D ds).procs k)
    ((system_of D ds).procs k).body o
    → AcceptedProcedure (system_of D ds) ((system_of D ds).procs k)

-- The body is the switch form of a goal, with any determinisms and marks before, and those of the
-- table and of its insts in the end: the kept insts of arms merge the ends of their disjuncts.
pub record IsFormed (S : System) (p : Procedure) (n : Node) : Type 0 where
  pub goal : Node
  pub same : Retold n goal
  pub kept : (before after : Insts) → Kept
  pub merge :
      ArmsMerge S (type_of S p) (entered p.head p.first)
      (formed S (type_of S p) kept (entered p.head p.first) goal)
  pub told : Retold (formed S (type_of S p) kept (entered p.head p.first) goal) p.body
  pub marks : KeepsMarks S (type_of S p) p.head (entered p.head p.first) p.body

-- A procedure without a fault of determinism is accepted, where determinisms are closed and its body
-- is the switch form of a goal that is ordered, told.
abbrev pub FormIsAccepted : Type 0
FormIsAccepted =
    (D : DeclaredSystem) (ds : ℕ → Det) (k : ℕ) (n : Node) (o : Option Insts) → Closed D ds
    → k < D.count → FitsInsts D.insts
    → procedure_fault (system_of D ds) (D.procs k) ((system_of D ds).procs k) ≡ None
    → IsTold (system_of D ds) ((system_of D ds).procs k)
    → BodyIsOrdered (system_of D ds) ((system_of D ds).procs k) n o
    → IsFormed (system_of D ds) ((system_of D ds).procs k) n
    → AcceptedProcedure (system_of D ds) ((system_of D ds).procs k)

-- The procedure's goal is in order over nodes of the graph, where the functions that look for nodes
-- tell its truth, the modes are those of the procedures, variables from the next number on are in
-- no goal, those of them that stand for implied outputs are typed like them, and the goal's scopes
-- are written out. The goal is typed, and insts are tidy: where it is entered, and where each
-- procedure ends.
pub record IsInOrder (S : System) (p : Procedure) (x : Node) : Type 0 where
  pub choice : NodeOracle
  pub modes : ℕ → List Declared
  pub next : ℕ
  pub truthful : Truthful S (type_of S p) choice
  pub declared :
      (q : ℕ) → (S.world.source.preds q).builtin ≡ None → AllDeclared S (type_of S p) q (modes q)
  pub ends : EndsTidily S
  pub typed : TypedGoal S.world.source (type_of S p) (goal_of S p).body
  pub enters : TidyPoint S (type_of S p) (entered p.head p.first)
  pub head_below : Below next p.head
  pub goal_below : Below next (variables_of (goal_of S p).body)
  pub scopes : FlatScopes p.head (goal_of S p).body
  pub order :
      arrange (of_nodes choice) S.world.source modes (type_of S p) next p.head p.first p.last
      (goal_of S p).body
      ≡ in_order x
  pub alike : TestsAlike (type_of S p) next x

-- Such an order is that of an ordered goal. A procedure without a fault of determinism is accepted
-- where its body has that order, or is the switch form, told, of a goal that has it.
abbrev pub InOrderIsAccepted : Type 0
InOrderIsAccepted =
    (D : DeclaredSystem) (ds : ℕ → Det) (k : ℕ) (x : Node) → Closed D ds → k < D.count
    → procedure_fault (system_of D ds) (D.procs k) ((system_of D ds).procs k) ≡ None
    → IsTold (system_of D ds) ((system_of D ds).procs k)
    → IsInOrder (system_of D ds) ((system_of D ds).procs k) x
    → ((n : Node)
    × (changed_node n ≡ x)
    × ((o : Option Insts) × BodyIsOrdered (system_of D ds) ((system_of D ds).procs k) n o))
    × (changed_node ((system_of D ds).procs k).body ≡ x
    → KeepsMarks (system_of D ds) (type_of (system_of D ds) ((system_of D ds).procs k))
    ((system_of D ds).procs k).head
    (entered ((system_of D ds).procs k).head ((system_of D ds).procs k).first)
    ((system_of D ds).procs k).body
    → AcceptedProcedure (system_of D ds) ((system_of D ds).procs k))
    × ((n : Node)
    → changed_node n ≡ x
    → FitsInsts D.insts
    → IsFormed (system_of D ds) ((system_of D ds).procs k) n
    → AcceptedProcedure (system_of D ds) ((system_of D ds).procs k))

-- A procedure as its phases make it: a goal that is its predicate's normal goal in an order of the
-- relation, as scheduling gives it; the switch form of that goal as its body, told; and no fault of
-- determinism.
pub record IsComputed (S : System) (d : DeclaredProcedure) (p : Procedure) : Type 0 where
  pub goal : Node
  pub after : Option Insts
  pub ordered : BodyIsOrdered S p goal after
  pub form : IsFormed S p goal
  pub told : IsTold S p
  pub faultless : procedure_fault S d p ≡ None

-- So procedures are accepted, where each is computed, determinisms are closed and insts fit.
abbrev pub ComputedAreAccepted : Type 0
ComputedAreAccepted =
    (D : DeclaredSystem) (ds : ℕ → Det) → FitsInsts D.insts → Closed D ds
    → ((k : ℕ)
    → k < D.count
    → IsComputed (system_of D ds) (D.procs k) ((system_of D ds).procs k))
    → Accepted (system_of D ds)

-- And those of a system that fits are good.
abbrev pub ComputedAreGood : Type 0
ComputedAreGood =
    (D : DeclaredSystem) (ds : ℕ → Det) (E : Parameters) → Fits (system_of D ds) E → Closed D ds
    → ((k : ℕ)
    → k < D.count
    → IsComputed (system_of D ds) (D.procs k) ((system_of D ds).procs k))
    → GoodProcedures (system_of D ds)
