-- The laws that hold of truth by stages, of runs and of values. (Mercury Language Reference Manual:
-- Semantics; this project's profile of the budget.)
use Rattle.std.specs.Prelude.{◌≡◌, ◌↔◌, ℕ, suc, ◌≤◌, List, map, Option, None, true}
use Rattle.mc_program.specs.Values.{Val, same_value, plain_value}
use Rattle.mc_model.specs.EventList.{Items, End, Stuck, Stopped, Answer, Called, Wrote, Read, budget, too_deep, thrown, cut}
use Rattle.mc_model.specs.Outcomes.{Outcome}
use Rattle.mc_program.specs.Programs.{Formula}
use Rattle.mc_model.specs.Truth.{World, Assignment, Yes, No, stage}
use Rattle.mc_model.specs.Scheduled.{Node, Procedure}
use Rattle.mc_model.specs.Stream.{Bindings, calls, stream, body_items, below, run, run_call, run_query}
use Rattle.mc_program.specs.declared.builtin.Builtin.{Builtin}
use Rattle.mc_program.specs.PlainPrograms.{plain_type, plain_expression}
use Rattle.mc_program.specs.declared.value.Value.{Value}
use Rattle.mc_program.specs.declared.ty.Ty.{Ty}
use Rattle.mc_program.specs.declared.expr.Expr.{Expr}

-- what is true, or false, at a stage is so at every later one: of goals, and of calls
abbrev pub GoalsStay : Type 0
GoalsStay =
    (P : World) (m n : ℕ)
    → m ≤ n → (g : Formula) (s : Assignment)
    → (Yes (stage P m) g s → Yes (stage P n) g s) × (No (stage P m) g s → No (stage P n) g s)

abbrev pub CallsStay : Type 0
CallsStay =
    (P : World) (m n : ℕ)
    → m ≤ n → (p : ℕ) (ws : List Val)
    → ((stage P m).yes p ws → (stage P n).yes p ws) × ((stage P m).no p ws → (stage P n).no p ws)

-- nothing is true at one stage and false at another: no goal, and no call
abbrev pub NoGoalIsBoth : Type 0
NoGoalIsBoth =
    (P : World) (m n : ℕ) (g : Formula) (s : Assignment)
    → Yes (stage P m) g s → No (stage P n) g s → ⊥

abbrev pub NoCallIsBoth : Type 0
NoCallIsBoth =
    (P : World) (m n p : ℕ) (ws : List Val) → (stage P m).yes p ws → (stage P n).no p ws → ⊥

-- what a builtin does, and a program's procedures
abbrev pub Meaning : Type 0
Meaning = Builtin → List Val → Outcome

abbrev pub Procedures : Type 0
Procedures = ℕ → Procedure

-- a run with the budget n is the same with any number of levels of calls from n on: of a goal, a
-- call and a query
abbrev pub LevelsSuffice : Type 0
LevelsSuffice =
    (B : Meaning) (P : Procedures) (n m h : ℕ)
    → n ≤ m → (goal : Node) (e : Bindings)
    → cut n (stream B (calls B P m) h goal e) ≡ run B P n h goal e

abbrev pub LevelsSufficeForCalls : Type 0
LevelsSufficeForCalls =
    (B : Meaning) (P : Procedures) (n m h : ℕ)
    → n ≤ m → (k : ℕ) (vs : List (Option Val))
    → cut n (below h (λ j. calls B P m j k vs)) ≡ run_call B P n h k vs

abbrev pub LevelsSufficeForQueries : Type 0
LevelsSufficeForQueries =
    (B : Meaning) (P : Procedures) (n m h : ℕ)
    → n ≤ m → (q : Procedure)
    → cut n (body_items B (calls B P m) h q (map (λ x. None) q.head)) ≡ run_query B P n h q

-- one level more changes no run
abbrev pub OneLevelMore : Type 0
OneLevelMore =
    (B : Meaning) (P : Procedures) (n h : ℕ) (goal : Node) (e : Bindings)
    → cut n (stream B (calls B P (suc (suc n))) h goal e) ≡ run B P n h goal e

-- The events of one run are those of another up to the first one's stop at the budget. Without such
-- a stop they are the same.
abbrev pub IsPrefix : {A : Type 0} → Items A → Items A → Type 0
IsPrefix End ys = ys ≡ End
IsPrefix Stuck ys = ys ≡ Stuck
IsPrefix (Stopped budget) ys = Unit {0}
IsPrefix (Stopped too_deep) ys = ys ≡ Stopped too_deep
IsPrefix (Stopped (thrown e)) ys = ys ≡ Stopped (thrown e)
IsPrefix {A} (Answer a xs) ys = (zs : Items A) × (ys ≡ Answer a zs) × IsPrefix xs zs
IsPrefix {A} (Called c xs) ys = (zs : Items A) × (ys ≡ Called c zs) × IsPrefix xs zs
IsPrefix {A} (Wrote t xs) ys = (zs : Items A) × (ys ≡ Wrote t zs) × IsPrefix xs zs
IsPrefix {A} (Read k xs) ys = (zs : Items A) × (ys ≡ Read k zs) × IsPrefix xs zs

-- a larger budget goes on where a smaller one stops: the run of a goal, of a call and of a query
abbrev pub BudgetsExtend : Type 0
BudgetsExtend =
    (B : Meaning) (P : Procedures) (m n h : ℕ)
    → m ≤ n → (goal : Node) (e : Bindings) → IsPrefix (run B P m h goal e) (run B P n h goal e)

abbrev pub BudgetsExtendCalls : Type 0
BudgetsExtendCalls =
    (B : Meaning) (P : Procedures) (m n h : ℕ)
    → m ≤ n → (k : ℕ) (vs : List (Option Val))
    → IsPrefix (run_call B P m h k vs) (run_call B P n h k vs)

abbrev pub BudgetsExtendQueries : Type 0
BudgetsExtendQueries =
    (B : Meaning) (P : Procedures) (m n h : ℕ)
    → m ≤ n → (q : Procedure) → IsPrefix (run_query B P m h q) (run_query B P n h q)

-- the test of equality tells equality
abbrev pub SameIsEqual : Type 0
SameIsEqual = (v w : Val) → (same_value v w ≡ true) ↔ (v ≡ w)

-- values without their rows are equal exactly where the values are
abbrev pub PlainIsExact : Type 0
PlainIsExact = (v w : Value) → (plain_value v ≡ plain_value w) ↔ (v ≡ w)

-- so it is of types, and of terms
abbrev pub PlainTypesAreExact : Type 0
PlainTypesAreExact = (a b : Ty) → (plain_type a ≡ plain_type b) ↔ (a ≡ b)

abbrev pub PlainTermsAreExact : Type 0
PlainTermsAreExact = (a b : Expr) → (plain_expression a ≡ plain_expression b) ↔ (a ≡ b)
