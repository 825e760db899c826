-- Computed orders of clauses' goals. Each group has an equation that doesn't hold.
use Rattle.std.specs.Prelude.{◌≡◌, ◌≢◌, ℕ, List, [], ◌∷◌, nat_lt, if◌then◌else◌}
use Rattle.mc_program.specs.Programs.{TypeTerm, int_type, state_type, variable, made, expressions, Formula, Equal, If, Not, ClauseForm}
use Rattle.mc_model.specs.Scheduled.{Node, Disj, Ite, Assign, Test, nodes}
use Rattle.mc_model.specs.Scheduled as S
use Rattle.mc_accepted.specs.Unmarked.{unmarked}
use Rattle.mc_accepted.specs.Arranged.{Verdict, in_order}
use Rattle.laws_order.specs.code.Examples.{nil, cell, ann, append, parent, member, step, safe, greater, new_line, filled, order_of, order_with, in_out, both_ground, clause, over, all_of, one_of, holds, call_of, is, number, empty, pair, sum, difference, numbers, in_a_row, const, test_const, build, take, call, apply}
use Rattle.mc_program.specs.declared.builtin.Builtin.TheVariants as B

-- `p(X, Z) :- r(Y, Z), q(X, Y).`, where both calls are of `step`: the second runs first, since Y is
-- free before it
abbrev pub what_is_needed_comes_first : Verdict
what_is_needed_comes_first =
    order_of in_out both_ground
    (clause (over (0 ∷ 1 ∷ []))
    (all_of (call_of step (over (2 ∷ 1 ∷ [])) ∷ call_of step (over (0 ∷ 2 ∷ [])) ∷ []))
    ∷ [])

abbrev pub NeededFirst : Type 0
NeededFirst =
    (what_is_needed_comes_first
    ≡ in_order (in_a_row (call step (0 ∷ 2 ∷ []) [] ∷ call step (2 ∷ 1 ∷ []) [] ∷ [])))
    × (what_is_needed_comes_first
    ≢ in_order (in_a_row (call step (2 ∷ 1 ∷ []) [] ∷ call step (0 ∷ 2 ∷ []) [] ∷ [])))

-- `append(X, Y, [1, 2])` takes its list apart, and `append([1], [2 + 3], Z)` makes one.
-- `append([1], [2], [1, 2])` is called in the mode with the fewest implied arguments, and so the
-- list is compared; `parent(ann, Y)` compares the person.
abbrev pub ModesChosen : Type 0
ModesChosen =
    (order_of (0 ∷ 0 ∷ []) both_ground
    (clause (over (0 ∷ 1 ∷ []))
    (call_of append (variable 0 ∷ variable 1 ∷ numbers (1 ∷ 2 ∷ []) ∷ [])) ∷ [])
    ≡ in_order
    (in_a_row
    (const 2 1 ∷ const 3 2 ∷ build 4 nil [] ∷ build 5 cell (3 ∷ 4 ∷ [])
    ∷ build 6 cell (2 ∷ 5 ∷ []) ∷ call 11 (0 ∷ 1 ∷ 6 ∷ []) [] ∷ [])))
    × (order_of (0 ∷ []) (1 ∷ [])
    (clause (over (0 ∷ []))
    (call_of append
    (numbers (1 ∷ []) ∷ pair (sum (number 2) (number 3)) empty ∷ variable 0 ∷ [])) ∷ [])
    ≡ in_order
    (in_a_row
    (const 1 1 ∷ build 2 nil [] ∷ build 3 cell (1 ∷ 2 ∷ []) ∷ const 4 2 ∷ const 5 3
    ∷ apply B.IntPlus (4 ∷ 5 ∷ []) (6 ∷ []) ∷ build 7 nil [] ∷ build 8 cell (6 ∷ 7 ∷ [])
    ∷ call append (3 ∷ 8 ∷ 0 ∷ []) [] ∷ [])))
    × (order_of [] []
    (clause []
    (call_of append (numbers (1 ∷ []) ∷ numbers (2 ∷ []) ∷ numbers (1 ∷ 2 ∷ []) ∷ [])) ∷ [])
    ≡ in_order
    (in_a_row
    (const 0 1 ∷ build 1 nil [] ∷ build 2 cell (0 ∷ 1 ∷ []) ∷ const 3 2 ∷ build 4 nil []
    ∷ build 5 cell (3 ∷ 4 ∷ []) ∷ const 6 1 ∷ const 7 2 ∷ build 8 nil []
    ∷ build 9 cell (7 ∷ 8 ∷ []) ∷ build 10 cell (6 ∷ 9 ∷ [])
    ∷ call append (2 ∷ 5 ∷ 10 ∷ []) (2 ∷ []) ∷ [])))
    × (order_of (0 ∷ []) (1 ∷ [])
    (clause (over (0 ∷ [])) (call_of parent (made ann (expressions []) ∷ variable 0 ∷ [])) ∷ [])
    ≡ in_order (in_a_row (build 1 ann [] ∷ call parent (1 ∷ 0 ∷ []) (0 ∷ []) ∷ [])))
    × (order_of (1 ∷ []) (1 ∷ [])
    (clause (over (0 ∷ [])) (call_of parent (made ann (expressions []) ∷ variable 0 ∷ [])) ∷ [])
    ≢ in_order (in_a_row (build 1 ann [] ∷ call parent (1 ∷ 0 ∷ []) (0 ∷ []) ∷ [])))

-- `head([X | _], X).` takes apart a list that isn't empty. In `head([], 1).` its inst excludes the
-- empty list, so what would come after is dropped.
abbrev pub no_head : Verdict
no_head =
    order_of (filled ∷ 0 ∷ []) (filled ∷ 1 ∷ []) (clause (empty ∷ number 1 ∷ []) holds ∷ [])

abbrev pub ListsTakenApart : Type 0
ListsTakenApart =
    (order_of (filled ∷ 0 ∷ []) (filled ∷ 1 ∷ [])
    (clause (pair (variable 0) (variable 1) ∷ variable 0 ∷ []) holds ∷ [])
    ≡ in_order (in_a_row (take 0 cell (2 ∷ 3 ∷ []) ∷ unmarked (Assign 1 2) ∷ [])))
    × (no_head ≡ in_order (in_a_row (take 0 nil [] ∷ [])))
    × (no_head ≢ in_order (in_a_row (take 0 nil [] ∷ const 1 1 ∷ [])))

-- `( if X > 0 then Y = 1 else Y = 0 )`
abbrev pub sign : Formula
sign =
    If [] (call_of greater (variable 0 ∷ number 0 ∷ [])) (is 1 (number 1)) (is 1 (number 0))

-- `( if append([1], Z, [1, 2]), Z = [W] then R = W + 1 else R = 0 )`: the condition's variables
-- reach the then part
abbrev pub last_plus_one : Formula
last_plus_one =
    If []
    (all_of
    (call_of append (numbers (1 ∷ []) ∷ variable 1 ∷ numbers (1 ∷ 2 ∷ []) ∷ [])
    ∷ is 1 (pair (variable 2) empty) ∷ []))
    (is 0 (sum (variable 2) (number 1)))
    (is 0 (number 0))

-- `depth(N, D) :- ( if N = 0 then D = 0 else depth(N - 1, D0), D = D0 + 1 ).`, where the call is of
-- `step`
abbrev pub depth : Formula
depth =
    If [] (is 0 (number 0)) (is 1 (number 0))
    (all_of
    (call_of step (difference (variable 0) (number 1) ∷ variable 2 ∷ [])
    ∷ is 1 (sum (variable 2) (number 1)) ∷ []))

-- `( if ( step(X, Z), step(Z, W) ; true ) then Y = X else Y = X )`: Z and W are the condition's
-- own, so only one disjunct binds them
abbrev pub own_variables : Formula
own_variables =
    If []
    (one_of
    (all_of (call_of step (over (0 ∷ 2 ∷ [])) ∷ call_of step (over (2 ∷ 3 ∷ [])) ∷ [])
    ∷ holds ∷ []))
    (is 1 (variable 0)) (is 1 (variable 0))

abbrev pub Conditions : Type 0
Conditions =
    (order_of in_out both_ground (clause (over (0 ∷ 1 ∷ [])) sign ∷ [])
    ≡ in_order
    (unmarked
    (Ite []
    (unmarked
    (S.Exists (2 ∷ []) (in_a_row (const 2 0 ∷ apply B.IntGreater (0 ∷ 2 ∷ []) [] ∷ []))))
    (const 1 1) (const 1 0))))
    × (order_of (0 ∷ []) (1 ∷ []) (clause (over (0 ∷ [])) last_plus_one ∷ [])
    ≡ in_order
    (unmarked
    (Ite (1 ∷ 2 ∷ [])
    (unmarked
    (S.Exists (3 ∷ 4 ∷ 5 ∷ 6 ∷ 7 ∷ 8 ∷ 9 ∷ 10 ∷ 11 ∷ [])
    (in_a_row
    (const 3 1 ∷ build 4 nil [] ∷ build 5 cell (3 ∷ 4 ∷ []) ∷ const 6 1 ∷ const 7 2
    ∷ build 8 nil [] ∷ build 9 cell (7 ∷ 8 ∷ []) ∷ build 10 cell (6 ∷ 9 ∷ [])
    ∷ call 11 (5 ∷ 1 ∷ 10 ∷ []) (0 ∷ []) ∷ build 11 nil [] ∷ take 1 cell (2 ∷ 11 ∷ [])
    ∷ []))))
    (unmarked
    (S.Exists (12 ∷ []) (in_a_row (const 12 1 ∷ apply B.IntPlus (2 ∷ 12 ∷ []) (0 ∷ []) ∷ []))))
    (const 0 0))))
    × (order_of in_out both_ground (clause (over (0 ∷ 1 ∷ [])) depth ∷ [])
    ≡ in_order
    (unmarked
    (Ite [] (test_const 0 0) (const 1 0)
    (unmarked
    (S.Exists (3 ∷ 4 ∷ 5 ∷ [])
    (in_a_row
    (const 3 1 ∷ apply B.IntMinus (0 ∷ 3 ∷ []) (4 ∷ []) ∷ call step (4 ∷ 2 ∷ []) []
    ∷ const 5 1 ∷ apply B.IntPlus (2 ∷ 5 ∷ []) (1 ∷ []) ∷ [])))))))
    × (order_of in_out both_ground (clause (over (0 ∷ 1 ∷ [])) own_variables ∷ [])
    ≡ in_order
    (unmarked
    (Ite (2 ∷ 3 ∷ [])
    (unmarked
    (Disj
    (nodes
    (in_a_row (call step (0 ∷ 2 ∷ []) [] ∷ call step (2 ∷ 3 ∷ []) [] ∷ []) ∷ in_a_row [] ∷ []))))
    (unmarked (Assign 1 0)) (unmarked (Assign 1 0)))))
    × (order_of both_ground both_ground (clause (over (0 ∷ 1 ∷ [])) own_variables ∷ [])
    ≢ order_of in_out both_ground (clause (over (0 ∷ 1 ∷ [])) own_variables ∷ []))

-- `not member(X, [1, 2])` over variables of its own, and over an X that is bound before
abbrev pub no_member : Formula
no_member = Not (call_of member (variable 0 ∷ numbers (1 ∷ 2 ∷ []) ∷ []))

abbrev pub Negations : Type 0
Negations =
    (order_of [] [] (clause [] no_member ∷ [])
    ≡ in_order
    (unmarked
    (S.Not
    (unmarked
    (S.Exists (0 ∷ 1 ∷ 2 ∷ 3 ∷ 4 ∷ 5 ∷ [])
    (in_a_row
    (const 1 1 ∷ const 2 2 ∷ build 3 nil [] ∷ build 4 cell (2 ∷ 3 ∷ [])
    ∷ build 5 cell (1 ∷ 4 ∷ []) ∷ call 12 (0 ∷ 5 ∷ []) [] ∷ [])))))))
    × (order_of (0 ∷ []) (1 ∷ [])
    (clause (over (0 ∷ [])) (all_of (is 0 (number 3) ∷ no_member ∷ [])) ∷ [])
    ≡ in_order
    (in_a_row
    (const 0 3
    ∷ unmarked
    (S.Not
    (unmarked
    (S.Exists (1 ∷ 2 ∷ 3 ∷ 4 ∷ 5 ∷ [])
    (in_a_row
    (const 1 1 ∷ const 2 2 ∷ build 3 nil [] ∷ build 4 cell (2 ∷ 3 ∷ [])
    ∷ build 5 cell (1 ∷ 4 ∷ []) ∷ call member (0 ∷ 5 ∷ []) [] ∷ []))))) ∷ [])))
    × (order_of [] [] (clause [] no_member ∷ [])
    ≢ order_of [] [] (clause [] (Not no_member) ∷ []))

-- `safe(_, _, []).` and
-- `safe(Q, D, [P | Ps]) :- Q \= P + D, Q \= P - D, safe(Q, D + 1, Ps).`: the results of the sums
-- are there already, so a fresh variable stands in their place, which is tested directly behind
abbrev pub safe_clauses : List ClauseForm
safe_clauses =
    clause (variable 0 ∷ variable 1 ∷ empty ∷ []) holds
    ∷ clause (variable 0 ∷ variable 1 ∷ pair (variable 2) (variable 3) ∷ [])
    (all_of
    (Not (Equal (variable 0) (sum (variable 2) (variable 1)))
    ∷ Not (Equal (variable 0) (difference (variable 2) (variable 1)))
    ∷ call_of safe (variable 0 ∷ sum (variable 1) (number 1) ∷ variable 3 ∷ [])
    ∷ []))
    ∷ []

abbrev pub differs_from : (fresh : ℕ) → Node → Node
differs_from z g = unmarked (S.Not (in_a_row (g ∷ unmarked (Test z 0) ∷ [])))

abbrev pub ResultsCompared : Type 0
ResultsCompared =
    (order_of (1 ∷ 1 ∷ 1 ∷ []) (1 ∷ 1 ∷ 1 ∷ []) safe_clauses
    ≡ in_order
    (unmarked
    (Disj
    (nodes
    (take 2 nil []
    ∷ in_a_row
    (take 2 cell (3 ∷ 4 ∷ [])
    ∷ differs_from 7 (apply B.IntPlus (3 ∷ 1 ∷ []) (7 ∷ []))
    ∷ differs_from 8 (apply B.IntMinus (3 ∷ 1 ∷ []) (8 ∷ []))
    ∷ const 5 1
    ∷ apply B.IntPlus (1 ∷ 5 ∷ []) (6 ∷ [])
    ∷ call safe (0 ∷ 6 ∷ 4 ∷ []) []
    ∷ [])
    ∷ [])))))
    × (order_of (1 ∷ 0 ∷ 1 ∷ []) (1 ∷ 1 ∷ 1 ∷ []) safe_clauses
    ≢ order_of (1 ∷ 1 ∷ 1 ∷ []) (1 ∷ 1 ∷ 1 ∷ []) safe_clauses)

-- states of io are the first three variables
abbrev pub of_io : ℕ → TypeTerm
of_io x = if nat_lt x 3 then state_type else int_type

-- `main(IO0, IO) :- nl(IO1, IO), nl(IO0, IO1).`: what is written first goes by the states
abbrev pub StatesInTurn : Type 0
StatesInTurn =
    (order_with of_io (2 ∷ 0 ∷ []) (3 ∷ 2 ∷ [])
    (clause (over (0 ∷ 1 ∷ []))
    (all_of (call_of new_line (over (2 ∷ 1 ∷ [])) ∷ call_of new_line (over (0 ∷ 2 ∷ [])) ∷ []))
    ∷ [])
    ≡ in_order
    (in_a_row (apply B.Nl (0 ∷ []) (2 ∷ []) ∷ apply B.Nl (2 ∷ []) (1 ∷ []) ∷ [])))
    × (order_with of_io (2 ∷ 0 ∷ []) (3 ∷ 2 ∷ [])
    (clause (over (0 ∷ 1 ∷ []))
    (all_of (call_of new_line (over (0 ∷ 2 ∷ [])) ∷ call_of new_line (over (0 ∷ 1 ∷ [])) ∷ []))
    ∷ [])
    ≢ in_order
    (in_a_row (apply B.Nl (0 ∷ []) (2 ∷ []) ∷ apply B.Nl (0 ∷ []) (1 ∷ []) ∷ [])))

-- `q(A, C) :- nl(A, C).`, called with two states: the one that comes out is compared as any result
-- is, though an io goal that can fail is refused later
abbrev pub compared_state : (first last : List ℕ) → Verdict
compared_state first last =
    order_with of_io first last
    (clause (over (0 ∷ 1 ∷ [])) (call_of new_line (over (0 ∷ 1 ∷ []))) ∷ [])

abbrev pub StatesCompared : Type 0
StatesCompared =
    (compared_state (2 ∷ 1 ∷ []) (3 ∷ 1 ∷ [])
    ≡ in_order (in_a_row (apply B.Nl (0 ∷ []) (2 ∷ []) ∷ unmarked (Test 2 1) ∷ [])))
    × (compared_state (2 ∷ 0 ∷ []) (3 ∷ 2 ∷ []) ≡ in_order (apply B.Nl (0 ∷ []) (1 ∷ [])))
    × (compared_state (2 ∷ 1 ∷ []) (3 ∷ 1 ∷ []) ≢ in_order (apply B.Nl (0 ∷ []) (1 ∷ [])))
