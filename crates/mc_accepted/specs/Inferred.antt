-- The determinisms of procedures: declared ones are as they are declared, the others the least that
-- their bodies allow. (Mercury Language Reference Manual: Determinism, inference.)
use Rattle.std.specs.Prelude.{◌≡◌, ℕ, ◌<◌, ◌≤◌, Bool, false, nat_eq, ◌||◌, Option, Some, None}
use Rattle.mc_source.specs.Determinism.{Determinism, det, row_of, greater, Allows}
use Rattle.mc_source.specs.declared.det.Det.{Det}
use Rattle.mc_source.specs.declared.place.Place.{Place}
use Rattle.mc_model.specs.Truth.{World}
use Rattle.mc_model.specs.Insts.{Graph}
use Rattle.mc_model.specs.Scheduled.{Node, node, Scheduled, Conj, Disj, Switch, Ite, Not, Exists, Assign, Test, Build, Take, Const, TestConst, Call, Apply, Nodes, no_nodes, node_then, Arms, no_arms, arm_then, Procedure}
use Rattle.mc_model.specs.Good.{System}
use Rattle.mc_accepted.specs.Fits.{type_of}
use Rattle.mc_accepted.specs.Accepted.{entered}
use Rattle.mc_accepted.specs.Determined.{nothing_known, determined}

-- the least determinism that allows both
abbrev pub join : Determinism → Determinism → Determinism
join a b = record { can_fail = a.can_fail || b.can_fail; most = greater a.most b.most }

-- the same procedures with other determinisms
abbrev pub with_determinisms : System → (ℕ → Det) → System
with_determinisms S ds = record S { procs = λ k. record (S.procs k) { det = ds k } }

-- A procedure as its mode is declared: the determinism where one is given, whether it is exported,
-- and where it is declared.
pub record DeclaredProcedure : Type 0 where
  pub procedure : Procedure
  pub declared : Option Det
  pub exported : Bool
  pub at : Place

-- a program's procedures as they are declared, with its builtins and insts
pub record DeclaredSystem : Type 0 where
  pub world : World
  pub count : ℕ
  pub procs : ℕ → DeclaredProcedure
  pub insts : Graph

-- the system where the procedures have these determinisms
abbrev pub system_of : DeclaredSystem → (ℕ → Det) → System
system_of D ds =
    with_determinisms
    (record {
      world = D.world;
      count = D.count;
      procs = λ k. (D.procs k).procedure;
      insts = D.insts;
    }) ds

-- the determinism of a procedure's body by the table
abbrev pub body_determinism : System → Procedure → Determinism
body_determinism S p =
    determined S (type_of S p) (entered p.head p.first) nothing_known p.body

-- Determinisms are closed: a declared one is as it is declared, and any other is at or above `det`,
-- isn't committed, and allows its body's. Numbers from the count on are no procedures.
pub record Closed (D : DeclaredSystem) (ds : ℕ → Det) : Type 0 where
  pub declared : (k : ℕ) (d : Det) → k < D.count → (D.procs k).declared ≡ Some d → ds k ≡ d
  pub at_least_det :
      (k : ℕ) → k < D.count → (D.procs k).declared ≡ None → Allows (row_of (ds k)) det
  pub uncommitted :
      (k : ℕ) → k < D.count → (D.procs k).declared ≡ None → (ds k).committed ≡ false
  pub allows :
      (k : ℕ)
      → k < D.count → (D.procs k).declared ≡ None →
      Allows (row_of (ds k)) (body_determinism (system_of D ds) (D.procs k).procedure)
  pub others : (k : ℕ) → D.count ≤ k → ds k ≡ (D.procs k).procedure.det

-- The least closed ones: those of any others allow them.
pub record LeastClosed (D : DeclaredSystem) (ds : ℕ → Det) : Type 0 where
  pub closed : Closed D ds
  pub least :
      (es : ℕ → Det)
      → Closed D es → (k : ℕ) → k < D.count → Allows (row_of (es k)) (row_of (ds k))

-- whether a goal calls a procedure
abbrev mutual
  pub calls_it : ℕ → Node → Bool
  calls_it q (node s changes d is_pruned) = calls_in q s

  pub calls_in : ℕ → Scheduled → Bool
  calls_in q (Conj ns) = one_calls q ns
  calls_in q (Disj ns) = one_calls q ns
  calls_in q (Switch x arms) = arm_calls q arms
  calls_in q (Ite vs c t e) = calls_it q c || (calls_it q t || calls_it q e)
  calls_in q (Not n) = calls_it q n
  calls_in q (Exists vs n) = calls_it q n
  calls_in q (Assign x y) = false
  calls_in q (Test x y) = false
  calls_in q (Build x s ys) = false
  calls_in q (Take x s ys) = false
  calls_in q (Const x v) = false
  calls_in q (TestConst x v) = false
  calls_in q (Call p xs implied last) = nat_eq p q
  calls_in q (Apply op xs ys) = false

  pub one_calls : ℕ → Nodes → Bool
  one_calls q no_nodes = false
  one_calls q (node_then n ns) = calls_it q n || one_calls q ns

  pub arm_calls : ℕ → Arms → Bool
  arm_calls q no_arms = false
  arm_calls q (arm_then l n arms) = calls_it q n || arm_calls q arms
