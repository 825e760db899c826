-- Clauses whose goals have no order, each beside one that is in order.
use Rattle.std.specs.Prelude.{◌≡◌, ◌≢◌, ℕ, List, [], ◌∷◌}
use Rattle.mc_program.specs.Programs.{variable, Formula, Equal, If, Not}
use Rattle.mc_model.specs.Scheduled.{Node, Disj, Ite, Assign, nodes}
use Rattle.mc_model.specs.Scheduled as S
use Rattle.mc_accepted.specs.Unmarked.{unmarked}
use Rattle.mc_accepted.specs.Arranged.{Verdict, in_order, faulty, unmet, waits, negated_binds, branches_differ}
use Rattle.laws_order.specs.code.Examples.{step, greater, new_line, filled, order_of, order_with, in_out, both_ground, clause, over, all_of, one_of, holds, call_of, is, number, in_a_row, const, call, apply}
use Rattle.laws_order.specs.code.Examples as example
use Rattle.laws_order.specs.code.ExamplesOfOrder.{of_io}

-- a clause for two head variables, and for one
abbrev pub two : (first : List ℕ) → Formula → Verdict
two first g = order_of first both_ground (clause (over (0 ∷ 1 ∷ [])) g ∷ [])

abbrev pub single : (first : ℕ) → Formula → Verdict
single i g = order_of (i ∷ []) (1 ∷ []) (clause (over (0 ∷ [])) g ∷ [])

-- No goal can run. `A = B, B = C, Y = X` has two waiting goals, with three free variables.
-- `first(L, X) :- head(L, X).` waits for a list that isn't empty, and has one if its own is. A
-- negation whose goal waits is one waiting goal of the conjunction. A state is used once.
abbrev pub NoGoalRuns : Type 0
NoGoalRuns =
    (two in_out
    (all_of (Equal (variable 3) (variable 2) ∷ Equal (variable 4) (variable 3) ∷ is 1 (variable 0)
    ∷ []))
    ≡ faulty (waits 2 (2 ∷ 3 ∷ 4 ∷ [])))
    × (two in_out (call_of example.head (over (0 ∷ 1 ∷ []))) ≡ faulty (waits 1 (1 ∷ [])))
    × (order_of (filled ∷ 0 ∷ []) (filled ∷ 1 ∷ [])
    (clause (over (0 ∷ 1 ∷ [])) (call_of example.head (over (0 ∷ 1 ∷ []))) ∷ [])
    ≡ in_order (call example.head (0 ∷ 1 ∷ []) []))
    × (two in_out
    (all_of
    (Not (all_of (Equal (variable 2) (variable 3) ∷ Equal (variable 3) (variable 4) ∷ []))
    ∷ call_of step (over (0 ∷ 1 ∷ [])) ∷ []))
    ≡ faulty (waits 1 (2 ∷ 3 ∷ 4 ∷ [])))
    × (order_with of_io (2 ∷ 0 ∷ []) (3 ∷ 2 ∷ [])
    (clause (over (0 ∷ 1 ∷ []))
    (all_of (call_of new_line (over (0 ∷ 2 ∷ [])) ∷ call_of new_line (over (0 ∷ 1 ∷ [])) ∷ []))
    ∷ [])
    ≡ faulty (waits 1 (1 ∷ [])))

-- A negated goal, or a condition, binds a variable that occurs outside it: the least is told, and
-- told before a goal that waits. It does not where the variable is bound before.
abbrev pub NegatedGoalsBind : Type 0
NegatedGoalsBind =
    (single 0 (Not (call_of example.one (over (0 ∷ [])))) ≡ faulty (negated_binds 0))
    × (single 1 (Not (call_of example.one (over (0 ∷ []))))
    ≡ in_order (unmarked (S.Not (call example.one (0 ∷ []) (0 ∷ [])))))
    × (two (0 ∷ 0 ∷ [])
    (all_of
    (Equal (variable 2) (variable 3)
    ∷ Not (all_of (is 1 (number 1) ∷ is 0 (number 1) ∷ [])) ∷ []))
    ≡ faulty (negated_binds 0))
    × (two in_out (If [] (is 1 (number 1)) holds (is 1 (number 2))) ≡ faulty (negated_binds 1))
    × (two in_out (If [] (is 0 (number 1)) (is 1 (number 1)) (is 1 (number 2)))
    ≡ in_order
    (unmarked (Ite [] (example.test_const 0 1) (const 1 1) (const 1 2))))

-- Branches bind a variable differently: the least is told. They may leave variables of their own.
abbrev pub BranchesDiffer : Type 0
BranchesDiffer =
    (two in_out (If [] (call_of greater (variable 0 ∷ number 0 ∷ [])) (is 1 (number 1)) holds)
    ≡ faulty (branches_differ 1))
    × (two (0 ∷ 0 ∷ [])
    (one_of (all_of (is 1 (number 1) ∷ is 0 (number 1) ∷ []) ∷ holds ∷ []))
    ≡ faulty (branches_differ 0))
    × (two in_out
    (one_of
    (all_of (is 2 (number 1) ∷ is 1 (variable 2) ∷ []) ∷ is 1 (number 2) ∷ []))
    ≡ in_order
    (unmarked
    (Disj (nodes (in_a_row (const 2 1 ∷ unmarked (Assign 1 2) ∷ []) ∷ const 1 2 ∷ [])))))
    × (two in_out (one_of (is 1 (number 1) ∷ one_of [] ∷ []))
    ≡ in_order (unmarked (Disj (nodes (const 1 1 ∷ [])))))

-- The final inst of an argument isn't met, told by its place; it is where each is bound.
abbrev pub FinalInstsUnmet : Type 0
FinalInstsUnmet =
    (two in_out holds ≡ unmet 1)
    × (order_of (1 ∷ 0 ∷ []) (filled ∷ 1 ∷ []) (clause (over (0 ∷ 1 ∷ [])) (is 1 (variable 0)) ∷ [])
    ≡ unmet 0)
    × (two in_out (is 1 (variable 0)) ≡ in_order (unmarked (Assign 1 0)))
    × (two in_out (one_of []) ≡ in_order (unmarked (Disj (nodes []))))
    × (two (0 ∷ 0 ∷ []) holds ≢ unmet 1)
