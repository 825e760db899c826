-- Examples of determinisms and contexts of goals, and goals that have no order.
use Rattle.std.specs.Prelude.{◌≡◌, ◌≢◌, ℕ, List, [], ◌∷◌, Bool, true, false, nat_eq, Option, pos, if◌then◌else◌}
use Rattle.mc_program.specs.Values.{Val, int}
use Rattle.mc_program.specs.Programs.{TypeTerm, int_type}
use Rattle.mc_source.specs.Determinism.{Determinism, failure, det, semidet, multi, nondet}
use Rattle.mc_model.specs.Flat as F
use Rattle.mc_model.specs.Flat.{Flat_goal}
use Rattle.mc_model.specs.Scheduled.{for_symbol, for_constant, Node, Scheduled, Not, Take, TestConst, Call, Apply}
use Rattle.mc_model.specs.Good.{System}
use Rattle.mc_accepted.specs.Ordered.{Insts, also, Ordered}
use Rattle.mc_accepted.specs.Determined.{nothing_known, determined, Placed, IoPlaced}
use Rattle.laws_language.specs.code.Examples as example
use Rattle.laws_language.specs.code.Examples.{nil, cell, goal, once, all_of, one_of, switch_on}
use Rattle.laws_language.specs.code.ExamplesOfProcedures.{list_type, append_procedure, append_system}
use Rattle.mc_program.specs.declared.builtin.Builtin.TheVariants as B

-- variable 0 is a list of this inst, variable 1 a ground integer, and every other one free
abbrev pub list_at : (inst : ℕ) → Insts
list_at i = also 0 i (also 1 1 (λ x. 0))

abbrev pub type_of : ℕ → TypeTerm
type_of x = if nat_eq x 0 then list_type else int_type

-- the determinism of a goal where variable 0 is a list of this inst
abbrev pub found : (inst : ℕ) → Node → Determinism
found i n = determined append_system type_of (list_at i) nothing_known n

abbrev pub takes_cell : Node
takes_cell = goal (Take 0 cell (3 ∷ 4 ∷ []))

abbrev pub takes_nil : Node
takes_nil = goal (Take 0 nil [])

abbrev pub done : Node
done = goal (all_of [])

-- Taking a list apart can fail where its inst allows the other constructor too, and fails where it
-- allows the other alone. A switch with an arm for each constructor cannot; two disjuncts that are
-- no switch may both answer. A constant is never covered. A pruned goal has one answer at most.
abbrev pub Determinisms : Type 0
Determinisms =
    (found 1 takes_cell ≡ semidet)
    × (found 5 takes_cell ≡ det)
    × (found 4 takes_cell ≡ failure)
    × (found 1
    (goal (switch_on 0 ((for_symbol nil, takes_nil) ∷ (for_symbol cell, takes_cell) ∷ [])))
    ≡ det)
    × (found 1 (goal (switch_on 0 ((for_symbol cell, takes_cell) ∷ []))) ≡ semidet)
    × (found 5 (goal (switch_on 0 ((for_symbol cell, takes_cell) ∷ []))) ≡ det)
    × (found 1 (goal (one_of (takes_nil ∷ takes_cell ∷ []))) ≡ nondet)
    × (found 1 (goal (one_of (done ∷ done ∷ []))) ≡ multi)
    × (found 1 (once (one_of (done ∷ done ∷ []))) ≡ det)
    × (found 1
    (goal (switch_on 1 ((for_constant (int (pos 1)), goal (TestConst 1 (int (pos 1)))) ∷ [])))
    ≡ semidet)
    × (found 1 (goal (Not takes_cell)) ≡ semidet)
    × (found 1 takes_cell ≢ det)

-- every procedure is committed
abbrev pub committed_system : System
committed_system =
    record append_system { procs = λ k. append_procedure example.cc_nondet example.det }

abbrev pub StandsIn : (first : Bool) → Node → Type 0
StandsIn first n = Placed committed_system type_of (list_at 1) nothing_known first n

abbrev pub calls_it : List ℕ → Node
calls_it implied = goal (Call 0 (0 ∷ 1 ∷ 2 ∷ []) implied false)

-- A committed call stands where its first answer is enough: in a negation, in a pruned goal, and
-- before parts that cannot fail, but nowhere else, and without implied arguments.
abbrev pub CommittedCalls : Type 0
CommittedCalls =
    StandsIn true (calls_it [])
    × (StandsIn false (calls_it []) → ⊥)
    × (StandsIn true (calls_it (2 ∷ [])) → ⊥)
    × StandsIn false (goal (Not (calls_it [])))
    × StandsIn false (once (Call 0 (0 ∷ 1 ∷ 2 ∷ []) [] false))
    × StandsIn true (goal (all_of (calls_it [] ∷ done ∷ [])))
    × (StandsIn true (goal (all_of (calls_it [] ∷ takes_cell ∷ []))) → ⊥)

abbrev pub IoStandsIn : (first : Bool) → Node → Type 0
IoStandsIn first n = IoPlaced append_system type_of (list_at 1) nothing_known first n

abbrev pub writes_line : Scheduled
writes_line = Apply B.Nl (5 ∷ []) (6 ∷ [])

-- A goal that writes is not negated, pruned or in a condition, cannot fail, and succeeds at most
-- once where all answers are asked for.
abbrev pub IoGoals : Type 0
IoGoals =
    IoStandsIn false (goal writes_line)
    × (IoStandsIn false (once writes_line) → ⊥)
    × (IoStandsIn false (goal (Not (goal writes_line))) → ⊥)
    × (IoStandsIn false (goal (all_of (goal writes_line ∷ takes_cell ∷ []))) → ⊥)
    × (IoStandsIn false (goal (one_of (goal writes_line ∷ goal writes_line ∷ []))) → ⊥)
    × IoStandsIn true (goal (one_of (goal writes_line ∷ goal writes_line ∷ [])))

-- an equation of two free variables, a construction with a free argument, and a negation that binds
-- a variable that occurs outside have no order
abbrev pub HasNoOrder : Insts → Flat_goal → Type 0
HasNoOrder b g =
    (S : System) (T : ℕ → TypeTerm) (O Q : List ℕ) (s : Scheduled) (o : Option Insts)
    → Ordered S T O Q b g s o → ⊥

abbrev pub GoalsWithoutOrder : Type 0
GoalsWithoutOrder =
    ((b : Insts) (x y : ℕ) → b x ≡ 0 → b y ≡ 0 → HasNoOrder b (F.Same x y))
    × ((b : Insts) (x s y : ℕ) (ys : List ℕ) → b x ≡ 0 → b y ≡ 0
    → HasNoOrder b (F.Made x s (y ∷ ys)))
    × ((b : Insts) (x : ℕ) (v : Val) → b x ≡ 0 → HasNoOrder b (F.Not (F.Is x v)))
