-- Accepted procedures: what a compiler's answer has to meet, so that its runs are good. (Mercury
-- Language Reference Manual: Modes; Determinism; this project's certificates.)
use Rattle.std.specs.Prelude.{◌≡◌, ℕ, ◌<◌, List, [], ◌∷◌, length, Option, Some, None, nat_eq, true, if◌then◌else◌}
use Rattle.mc_model.specs.Lists.{from}
use Rattle.mc_accepted.specs.Inclusion.{Included}
use Rattle.mc_source.specs.Determinism.{Allows, inferred, row_of}
use Rattle.mc_model.specs.Scheduled.{Node, node, Scheduled, Conj, Disj, Switch, Ite, Not, Exists, Assign, Test, Build, Take, Const, TestConst, Call, Apply, Nodes, no_nodes, node_then, Arms, no_arms, arm_then, Procedure}
use Rattle.mc_accepted.specs.Ordered.{Insts, OrderedNode}
use Rattle.mc_accepted.specs.Determined.{Known, nothing_known, learned, insts_after, determined, Placed, IoPlaced}
use Rattle.mc_model.specs.Good.{System}
use Rattle.mc_accepted.specs.Fits.{goal_of, type_of}
use Rattle.mc_source.specs.declared.det.Most.TheVariants.{Many}

-- the insts at the call: those of the head variables, every other variable free
abbrev pub entered : List ℕ → List ℕ → Insts
entered [] is = λ x. 0
entered (y ∷ ys) [] = λ x. 0
entered (y ∷ ys) (i ∷ is) = λ x. if nat_eq x y then i else entered ys is x

module _ (S : System) (p : Procedure) where
  -- each argument is at the end included in its final inst, where the end is reachable
  abbrev pub Final : List ℕ → List ℕ → Insts → Type 0
  Final [] [] c = Unit {0}
  Final (x ∷ xs) (l ∷ ls) c = Included S.world.source S.insts (c x) l (type_of S p x) × Final xs ls c
  Final _ _ c = ⊥

  abbrev pub FinalAfter : Option Insts → Type 0
  FinalAfter None = Unit {0}
  FinalAfter (Some c) = Final p.head p.last c

  -- each goal keeps the determinism that the table gives it
  abbrev mutual
    pub KeepsDeterminism : Insts → Known → Node → Type 0
    KeepsDeterminism b known (node s changes d is_pruned) =
        (d ≡ inferred (determined S (type_of S p) b known (node s changes d is_pruned)))
        × KeepsInside b known s

    pub KeepsInside : Insts → Known → Scheduled → Type 0
    KeepsInside b known (Conj ns) = AllKeep b known ns
    KeepsInside b known (Disj ns) = EachKeeps b known ns
    KeepsInside b known (Switch x arms) = ArmsKeep b known x arms
    KeepsInside b known (Ite vs c t e) =
        KeepsDeterminism b known c
        × KeepsDeterminism (insts_after c b) known t
        × KeepsDeterminism b known e
    KeepsInside b known (Not n) = KeepsDeterminism b known n
    KeepsInside b known (Exists vs n) = KeepsDeterminism b known n
    KeepsInside b known (Assign x y) = Unit {0}
    KeepsInside b known (Test x y) = Unit {0}
    KeepsInside b known (Build x s ys) = Unit {0}
    KeepsInside b known (Take x s ys) = Unit {0}
    KeepsInside b known (Const x v) = Unit {0}
    KeepsInside b known (TestConst x v) = Unit {0}
    KeepsInside b known (Call q xs implied last) = Unit {0}
    KeepsInside b known (Apply op xs ys) = Unit {0}

    pub AllKeep : Insts → Known → Nodes → Type 0
    AllKeep b known no_nodes = Unit {0}
    AllKeep b known (node_then n ns) =
        KeepsDeterminism b known n × AllKeep (insts_after n b) known ns

    pub EachKeeps : Insts → Known → Nodes → Type 0
    EachKeeps b known no_nodes = Unit {0}
    EachKeeps b known (node_then n ns) = KeepsDeterminism b known n × EachKeeps b known ns

    pub ArmsKeep : Insts → Known → ℕ → Arms → Type 0
    ArmsKeep b known x no_arms = Unit {0}
    ArmsKeep b known x (arm_then l n arms) =
        KeepsDeterminism b (learned x l known) n × ArmsKeep b known x arms

pub record AcceptedProcedure (S : System) (p : Procedure) : Type 0 where
  -- the head is that of the predicate's one goal, and the body is that goal in a mode-correct order,
  -- where a disjunction may be a switch
  pub head : p.head ≡ from 0 (goal_of S p).arity
  pub lengths : (length p.first ≡ (goal_of S p).arity) × (length p.last ≡ (goal_of S p).arity)
  pub after : Option Insts
  pub ordered :
      OrderedNode S (type_of S p) p.head p.head (entered p.head p.first) (goal_of S p).body p.body
      after
  pub final : FinalAfter S p after
  -- the determinisms are those of the table, and the procedure's allows its body's; a committed one
  -- has many answers in the tables
  pub kept : KeepsDeterminism S p (entered p.head p.first) nothing_known p.body
  pub allowed :
      Allows (row_of p.det)
      (determined S (type_of S p) (entered p.head p.first) nothing_known p.body)
  pub declared : p.det.committed ≡ true → p.det.most ≡ Many
  -- committed calls and io goals stand where they may
  pub placed : Placed S (type_of S p) (entered p.head p.first) nothing_known p.det.committed p.body
  pub io : IoPlaced S (type_of S p) (entered p.head p.first) nothing_known p.det.committed p.body

-- every procedure is accepted
abbrev pub Accepted : System → Type 0
Accepted S = (k : ℕ) → k < S.count → AcceptedProcedure S (S.procs k)
