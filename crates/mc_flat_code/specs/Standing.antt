-- Which code stands for a goal, and for a procedure: it does the goal from a place on, and goes on
-- at another after each answer.
use Rattle.std.specs.Prelude.{◌≡◌, ◌⊎◌, ℕ, true, false, List, [], ◌∷◌, Some, map, length, get_or}
use Rattle.mc_program.specs.Values.{Val}
use Rattle.mc_program.specs.declared.builtin.Builtin.{Builtin}
use Rattle.mc_source.specs.Determinism.{inferred, det}
use Rattle.mc_model.specs.Scheduled.{Label, for_symbol, for_constant, Node, node, Scheduled, Conj, Disj, Switch, Ite, Not, Exists, Assign, Test, Build, Take, Const, TestConst, Call, Apply, Nodes, no_nodes, node_then, Arms, no_arms, arm_then, Procedure}
use Rattle.mc_model.specs.Outcomes.{Outcome}
use Rattle.mc_model.specs.EventList.{first}
use Rattle.mc_model.specs.Stream.{Bindings, Calls, stream_of}
use Rattle.mc_model.specs.PlainGoals.{plain_proc}
use Rattle.mc_model.specs.declared.sched.Proc.{Proc}
use Rattle.mc_flat_code.specs.Running.{IsWithin, part_of, instr_at, value_at, label_of, body_at}
use Rattle.mc_flat_code.specs.declared.code.Span.{Span}
use Rattle.mc_flat_code.specs.declared.code.Instr.{Instr}
use Rattle.mc_flat_code.specs.declared.code.Instr.TheVariants as I
use Rattle.mc_flat_code.specs.declared.code.Branch.{Branch}
use Rattle.mc_flat_code.specs.declared.code.Code.{Code}
use Rattle.mc_flat_code.specs.declared.code.Body.{Body}
use Rattle.mc_flat_code.specs.declared.code.FlatProgram.{FlatProgram}

-- a goal of the code is in a place
abbrev pub At : Code → ℕ → Instr → Type 0
At code pc i = instr_at code pc ≡ Some i

-- a part of a list holds these elements
pub record Holds {A : Type 0} (xs : List A) (p : Span) (ys : List A) : Type 0 where
  pub within : IsWithin xs p
  pub elements : part_of xs p ≡ ys

-- the places of alternatives are tried one after another from a place on
abbrev pub Chain : Code → List ℕ → ℕ → Type 0
Chain code [] pc = At code pc I.Fail
Chain code (p ∷ ps) pc =
    ((pc ≡ p) × (ps ≡ [])) ⊎ ((r : ℕ) × (At code pc (I.Or p r) × Chain code ps r))

abbrev mutual
  -- each answer of a goal comes behind a test of this variable for this label
  pub Opens : Label → ℕ → Node → Type 0
  Opens l v (node s changes d pruned) = OpensIn l v s

  -- a conjunction begins with such a goal; alternatives are such goals, and there is one
  pub OpensIn : Label → ℕ → Scheduled → Type 0
  OpensIn l v (Conj ns) = FirstOpens l v ns
  OpensIn l v (Disj ns) = FirstOpens l v ns × EachOpens l v ns
  OpensIn l v (Switch x arms) = FirstArmOpens l v arms × EachArmOpens l v arms
  OpensIn l v (Ite vs c t f) = ⊥
  OpensIn l v (Not n) = ⊥
  OpensIn l v (Exists vs n) = Opens l v n
  OpensIn l v (Assign x y) = ⊥
  OpensIn l v (Test x y) = ⊥
  OpensIn l v (Build x f ys) = (x ≡ v) × (l ≡ for_symbol f)
  OpensIn l v (Take x f ys) = (x ≡ v) × (l ≡ for_symbol f)
  OpensIn l v (Const x c) = (x ≡ v) × (l ≡ for_constant c)
  OpensIn l v (TestConst x c) = (x ≡ v) × (l ≡ for_constant c)
  OpensIn l v (Call p xs implied last) = ⊥
  OpensIn l v (Apply op xs ys) = ⊥

  pub FirstOpens : Label → ℕ → Nodes → Type 0
  FirstOpens l v no_nodes = ⊥
  FirstOpens l v (node_then n ns) = Opens l v n

  pub EachOpens : Label → ℕ → Nodes → Type 0
  EachOpens l v no_nodes = Unit {0}
  EachOpens l v (node_then n ns) = Opens l v n × EachOpens l v ns

  pub FirstArmOpens : Label → ℕ → Arms → Type 0
  FirstArmOpens l v no_arms = ⊥
  FirstArmOpens l v (arm_then t n arms) = Opens l v n

  pub EachArmOpens : Label → ℕ → Arms → Type 0
  EachArmOpens l v no_arms = Unit {0}
  EachArmOpens l v (arm_then t n arms) = Opens l v n × EachArmOpens l v arms

-- a goal's events end behind its first answer, whatever calls and builtins do: it leaves nothing to
-- be tried
abbrev pub AnswersOnce : Scheduled → Type 0
AnswersOnce s =
    (outcome : Builtin → List Val → Outcome) (C : Calls) (h : ℕ) (e : Bindings)
    → first (stream_of outcome C h s e) ≡ stream_of outcome C h s e

-- branches are for the labels of arms that open with these, and go on where the arms stand
abbrev pub Keyed : Code → ℕ → Arms → List Branch → List ℕ → Type 0
Keyed code v no_arms [] [] = Unit {0}
Keyed code v (arm_then l n arms) (b ∷ bs) (p ∷ ps) =
    (Opens l v n × (label_of code b.key ≡ Some l) × (b.place ≡ p)) × Keyed code v arms bs ps
Keyed code v _ _ _ = ⊥

-- arms by a case of a variable
pub record Cased (code : Code) (v : ℕ) (arms : Arms) (ps : List ℕ) (pc : ℕ) : Type 0 where
  pub part : Span
  pub branches : List Branch
  pub other : ℕ
  pub at : At code pc (I.Case v part other)
  pub held : Holds code.branches.items part branches
  pub keyed : Keyed code v arms branches ps
  pub chain : Chain code ps other

abbrev mutual
  -- the code does a goal from the second place on, and goes on at the first; a pruned goal is left
  -- behind its first answer, and one that leaves nothing to be tried may run in place
  pub Stands : Code → Node → (to from : ℕ) → Type 0
  Stands code (node s changes d false) q pc = StandsOf code s q pc
  Stands code (node s changes d true) q pc =
      ((a : ℕ) × (At code pc (I.Once a q) × StandsOf code s 0 a))
      ⊎ (AnswersOnce s × StandsOf code s q pc)

  pub StandsOf : Code → Scheduled → (to from : ℕ) → Type 0
  StandsOf code (Conj ns) q pc = StandsAll code ns q pc
  StandsOf code (Disj ns) q pc = (ps : List ℕ) × (StandsEach code ns q ps × Chain code ps pc)
  StandsOf code (Switch v arms) q pc =
      (ps : List ℕ)
      × (StandsArms code arms q ps × (Chain code ps pc ⊎ Cased code v arms ps pc))
  StandsOf code (Ite vs c t f) q pc =
      (a b d : ℕ)
      × (At code pc (I.If a b d) × Stands code c 0 a × Stands code t q b × Stands code f q d)
  StandsOf code (Not n) q pc = (a : ℕ) × (At code pc (I.Not a q) × Stands code n 0 a)
  StandsOf code (Exists vs n) q pc = Stands code n q pc
  StandsOf code (Assign x y) q pc = At code pc (I.Same x y q)
  StandsOf code (Test x y) q pc = At code pc (I.Same x y q)
  StandsOf code (Build x f ys) q pc =
      (p : Span) × (At code pc (I.Made x f p q) × Holds code.variables.items p ys)
  StandsOf code (Take x f ys) q pc =
      (p : Span) × (At code pc (I.Made x f p q) × Holds code.variables.items p ys)
  StandsOf code (Const x v) q pc =
      (k : ℕ) × (At code pc (I.Constant x k q) × (value_at code k ≡ Some v))
  StandsOf code (TestConst x v) q pc =
      (k : ℕ) × (At code pc (I.Constant x k q) × (value_at code k ≡ Some v))
  StandsOf code (Call p xs implied last) q pc =
      (a : Span) × (At code pc (I.Call p a last q) × Holds code.variables.items a xs)
  StandsOf code (Apply op xs ys) q pc =
      (a b : Span)
      × (At code pc (I.Apply op a b q)
      × Holds code.variables.items a xs × Holds code.variables.items b ys)

  pub StandsAll : Code → Nodes → (to from : ℕ) → Type 0
  StandsAll code no_nodes q pc = pc ≡ q
  StandsAll code (node_then n ns) q pc = (m : ℕ) × (Stands code n m pc × StandsAll code ns q m)

  -- each goal stands in a place of its own
  pub StandsEach : Code → Nodes → (to : ℕ) → List ℕ → Type 0
  StandsEach code no_nodes q [] = Unit {0}
  StandsEach code no_nodes q (p ∷ ps) = ⊥
  StandsEach code (node_then n ns) q [] = ⊥
  StandsEach code (node_then n ns) q (p ∷ ps) = Stands code n q p × StandsEach code ns q ps

  pub StandsArms : Code → Arms → (to : ℕ) → List ℕ → Type 0
  StandsArms code no_arms q [] = Unit {0}
  StandsArms code no_arms q (p ∷ ps) = ⊥
  StandsArms code (arm_then l n arms) q [] = ⊥
  StandsArms code (arm_then l n arms) q (p ∷ ps) =
      Stands code n q p × StandsArms code arms q ps

-- a procedure's body, to its first answer alone where the procedure is committed
abbrev pub whole_body : Procedure → Node
whole_body p = node (Exists [] p.body) [] (inferred det) p.det.committed

-- a body of the code stands for a procedure, and has its number of variables
pub record StandsFor (code : Code) (b : Body) (p : Procedure) : Type 0 where
  pub body : Stands code (whole_body p) 0 b.entry
  pub head : Holds code.variables.items b.head p.head
  pub first : Holds code.variables.items b.first p.first
  pub last : Holds code.variables.items b.last p.last
  pub size : b.size ≡ length p.var_types

-- what stands at a number that no procedure has: one without arguments that does nothing
abbrev pub no_procedure : Procedure
no_procedure =
    record {
      pred = 0;
      head = [];
      first = [];
      last = [];
      body = node (Conj no_nodes) [] (inferred det) false;
      det = inferred det;
      var_types = [];
    }

-- procedures by their numbers
abbrev pub procedure_at : List Proc → ℕ → Procedure
procedure_at ps k = get_or (map plain_proc ps) k no_procedure

-- each body of the code stands for the procedure of its number
abbrev pub StandsForAll : FlatProgram → (ℕ → Procedure) → Type 0
StandsForAll f procs = (k : ℕ) → StandsFor f.code (body_at f k) (procs k)
