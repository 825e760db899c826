-- Computed switch forms. Each group has an equation that doesn't hold.
use Rattle.std.specs.Prelude.{◌≡◌, ◌≢◌, ℕ, List, [], ◌∷◌, Option, Some, None, nat_eq, pos, if◌then◌else◌}
use Rattle.mc_program.specs.Values.{Val, int, con, no_vals}
use Rattle.mc_program.specs.Programs.{TypeTerm}
use Rattle.mc_model.specs.EventList.{Items, End, Stuck, Stopped, Answer, Called, Wrote, Read}
use Rattle.mc_model.specs.Outcomes.{fails}
use Rattle.mc_model.specs.Scheduled.{Label, for_symbol, for_constant, Node, Conj, Disj, Exists, Not, Assign, Test, Const, TestConst, nodes}
use Rattle.mc_model.specs.Stream.{Bindings, stream}
use Rattle.mc_accepted.specs.Unmarked.{unmarked}
use Rattle.mc_accepted.specs.Switched.{Disjunct, openings, grouped, formed}
use Rattle.mc_accepted.specs.MergedArms.{ArmsMerge}
use Rattle.laws_accepted.specs.code.Examples.{nil, cell, red, blue, in_a_row, one_of, switch_on, const, test, number, take, build, call, apply, changing, ground_are, typed, program, form_of}
use Rattle.mc_program.specs.declared.builtin.Builtin.TheVariants as B

-- `q(1, 3). q(1, 2).` and `r(2, 20). r(3, 30).`, whose first argument is given
abbrev pub fact : (x y : ℕ) → Node
fact x y = in_a_row (test 0 x ∷ const 1 y ∷ [])

abbrev pub integers : ℕ → TypeTerm
integers = typed [] []

-- The facts of one integer share an arm, which stays a disjunction, since no other variable is
-- taken apart. Where the first argument isn't given, nothing is.
abbrev pub FactsSwitched : Type 0
FactsSwitched =
    (form_of integers (ground_are (0 ∷ [])) (one_of (fact 1 3 ∷ fact 1 2 ∷ []))
    ≡ switch_on 0 ((number 1, one_of (fact 1 3 ∷ fact 1 2 ∷ [])) ∷ []))
    × (form_of integers (ground_are (0 ∷ [])) (one_of (fact 2 20 ∷ fact 3 30 ∷ []))
    ≡ switch_on 0 ((number 2, fact 2 20) ∷ (number 3, fact 3 30) ∷ []))
    × (form_of integers (ground_are []) (one_of (fact 2 20 ∷ fact 3 30 ∷ []))
    ≡ one_of (fact 2 20 ∷ fact 3 30 ∷ []))
    × (form_of integers (ground_are (0 ∷ [])) (one_of (fact 2 20 ∷ fact 3 30 ∷ []))
    ≢ switch_on 0 ((number 3, fact 3 30) ∷ (number 2, fact 2 20) ∷ []))

-- `append([], Ys, Ys).` and `append([X | Xs], Ys, [X | Zs]) :- append(Xs, Ys, Zs).`
abbrev pub append_empty : Node
append_empty = in_a_row (take 0 nil [] ∷ unmarked (Assign 2 1) ∷ [])

abbrev pub append_cell : Node
append_cell =
    in_a_row (take 0 cell (3 ∷ 4 ∷ []) ∷ call 0 (4 ∷ 1 ∷ 5 ∷ []) ∷ build 2 cell (3 ∷ 5 ∷ []) ∷ [])

-- `select(X, [X | Xs], Xs).` and `select(X, [Y | Ys], [Y | Zs]) :- select(X, Ys, Zs).`
abbrev pub select_first : Node
select_first =
    in_a_row
    (take 1 cell (3 ∷ 4 ∷ []) ∷ unmarked (Assign 0 3) ∷ unmarked (Assign 2 4) ∷ [])

abbrev pub select_later : Node
select_later =
    in_a_row (take 1 cell (5 ∷ 6 ∷ []) ∷ call 0 (0 ∷ 6 ∷ 7 ∷ []) ∷ build 2 cell (5 ∷ 7 ∷ []) ∷ [])

-- `safe(_, _, []).` and `safe(Q, D, [P | Ps]) :- Q \= P + D, safe(Q, D, Ps).`, where a fresh
-- variable stands for the result of the sum
abbrev pub safe_empty : Node
safe_empty = take 2 nil []

abbrev pub safe_cell : Node
safe_cell =
    in_a_row
    (take 2 cell (3 ∷ 4 ∷ [])
    ∷ unmarked
    (Not (in_a_row (apply B.IntPlus (3 ∷ 1 ∷ []) (5 ∷ []) ∷ unmarked (Test 5 0) ∷ [])))
    ∷ call 0 (0 ∷ 1 ∷ 4 ∷ [])
    ∷ [])

abbrev pub lists : ℕ → TypeTerm
lists = typed (0 ∷ 1 ∷ 2 ∷ 4 ∷ 6 ∷ []) []

abbrev pub ListsSwitched : Type 0
ListsSwitched =
    (form_of lists (ground_are (0 ∷ 1 ∷ [])) (one_of (append_empty ∷ append_cell ∷ []))
    ≡ switch_on 0 ((for_symbol nil, append_empty) ∷ (for_symbol cell, append_cell) ∷ []))
    × (form_of lists (ground_are (1 ∷ [])) (one_of (select_first ∷ select_later ∷ []))
    ≡ switch_on 1 ((for_symbol cell, one_of (select_first ∷ select_later ∷ [])) ∷ []))
    × (form_of lists (ground_are (0 ∷ 1 ∷ 2 ∷ [])) (one_of (safe_empty ∷ safe_cell ∷ []))
    ≡ switch_on 2 ((for_symbol nil, safe_empty) ∷ (for_symbol cell, safe_cell) ∷ []))
    × (form_of lists (ground_are (1 ∷ [])) (one_of (select_first ∷ select_later ∷ []))
    ≢ one_of (select_first ∷ select_later ∷ []))

-- `t(7).` and `t(X) :- X = 1 // 0.` take nothing apart
abbrev pub seven : Node
seven = const 0 7

abbrev pub by_zero : Node
by_zero =
    unmarked
    (Exists (1 ∷ 2 ∷ [])
    (in_a_row (const 1 1 ∷ const 2 0 ∷ apply B.IntDiv (1 ∷ 2 ∷ []) (0 ∷ []) ∷ [])))

-- a colour is taken apart in a quantified goal, and behind a call
abbrev pub quiet : (colour : ℕ) → Node
quiet c = unmarked (Exists (5 ∷ []) (in_a_row (take 1 c [] ∷ call 0 [] ∷ [])))

abbrev pub late : (colour : ℕ) → Node
late c = in_a_row (call 0 [] ∷ take 1 c [] ∷ [])

abbrev pub colours : ℕ → TypeTerm
colours = typed [] (1 ∷ [])

abbrev pub colour_form : Node → Node
colour_form n = form_of colours (ground_are (0 ∷ 1 ∷ [])) n

-- Equations and a quantifier around a disjunct are looked through, any other goal is not. `fail` is
-- no switch.
abbrev pub WhatIsLookedThrough : Type 0
WhatIsLookedThrough =
    (colour_form (one_of (quiet red ∷ quiet blue ∷ []))
    ≡ switch_on 1 ((for_symbol red, quiet red) ∷ (for_symbol blue, quiet blue) ∷ []))
    × (colour_form (one_of (late red ∷ late blue ∷ [])) ≡ one_of (late red ∷ late blue ∷ []))
    × (colour_form (one_of (take 1 red [] ∷ late blue ∷ []))
    ≡ one_of (take 1 red [] ∷ late blue ∷ []))
    × (form_of integers (ground_are []) (one_of (seven ∷ by_zero ∷ []))
    ≡ one_of (seven ∷ by_zero ∷ []))
    × (colour_form (one_of []) ≡ one_of [])
    × (colour_form (one_of (quiet red ∷ quiet blue ∷ []))
    ≢ one_of (quiet red ∷ quiet blue ∷ []))

-- an integer and a colour are taken apart
abbrev pub both : (n colour : ℕ) → Node
both n c = in_a_row (test 0 n ∷ take 1 c [] ∷ [])

-- Of several variables the least that misses no symbol is taken, and where there is none the least
-- of all. An arm of several disjuncts is looked at again, without the variables that were taken
-- before: also on a variable that the first disjunct doesn't open.
abbrev pub SeveralVariables : Type 0
SeveralVariables =
    (colour_form (one_of (both 1 red ∷ both 1 blue ∷ both 2 red ∷ []))
    ≡ switch_on 1
    ((
      for_symbol red,
      switch_on 0 ((number 1, both 1 red) ∷ (number 2, both 2 red) ∷ []),
    )
    ∷ (for_symbol blue, both 1 blue)
    ∷ []))
    × (colour_form (one_of (both 1 red ∷ both 1 red ∷ []))
    ≡ switch_on 0
    ((
      number 1,
      switch_on 1 ((for_symbol red, one_of (both 1 red ∷ both 1 red ∷ [])) ∷ []),
    )
    ∷ []))
    × (colour_form (one_of (take 1 red [] ∷ both 1 blue ∷ both 2 blue ∷ []))
    ≡ switch_on 1
    ((for_symbol red, take 1 red [])
    ∷ (
      for_symbol blue,
      switch_on 0 ((number 1, both 1 blue) ∷ (number 2, both 2 blue) ∷ []),
    )
    ∷ []))
    × (colour_form (one_of (take 1 red [] ∷ both 1 blue ∷ both 2 blue ∷ []))
    ≢ switch_on 1
    ((for_symbol red, take 1 red [])
    ∷ (for_symbol blue, one_of (both 1 blue ∷ both 2 blue ∷ []))
    ∷ []))

-- `q(1, 3). q(1, 2).` with the insts that are kept, where the arm of both keeps these
abbrev pub kept_fact : (y : ℕ) → Node
kept_fact y =
    changing
    (Conj (nodes (test 0 1 ∷ changing (Const 1 (int (pos y))) ((1, 1) ∷ []) ∷ [])))
    ((1, 1) ∷ [])

abbrev pub kept_facts : List (ℕ × ℕ) → Node
kept_facts changes =
    formed (program []) integers (λ before after ds. changes) (ground_are (0 ∷ []))
    (changing (Disj (nodes (kept_fact 3 ∷ kept_fact 2 ∷ []))) ((1, 1) ∷ []))

-- the arm changes what both change, and not nothing
abbrev pub ArmsMerged : Type 0
ArmsMerged =
    ArmsMerge (program []) integers (ground_are (0 ∷ [])) (kept_facts ((1, 1) ∷ []))
    × (ArmsMerge (program []) integers (ground_are (0 ∷ [])) (kept_facts []) → ⊥)

-- `s(1, red, 3). s(1, red, 2).`, whose arm is a switch again, with one arm of both
abbrev pub kept_pair : (y : ℕ) → Node
kept_pair y =
    changing
    (Conj (nodes (test 0 1 ∷ take 1 red [] ∷ changing (Const 2 (int (pos y))) ((2, 1) ∷ []) ∷ [])))
    ((2, 1) ∷ [])

abbrev pub kept_pairs : List (ℕ × ℕ) → Node
kept_pairs changes =
    formed (program []) colours (λ before after ds. changes) (ground_are (0 ∷ 1 ∷ []))
    (changing (Disj (nodes (kept_pair 3 ∷ kept_pair 2 ∷ []))) ((2, 1) ∷ []))

-- the arms of an arm go by what the whole binds, so all of them may not change nothing either
abbrev pub NestedArmsMerged : Type 0
NestedArmsMerged =
    ArmsMerge (program []) colours (ground_are (0 ∷ 1 ∷ [])) (kept_pairs ((2, 1) ∷ []))
    × (ArmsMerge (program []) colours (ground_are (0 ∷ 1 ∷ [])) (kept_pairs []) → ⊥)

-- what variable 2 is in each answer
abbrev pub seconds : Items Bindings → List (Option Val)
seconds End = []
seconds Stuck = []
seconds (Stopped w) = []
seconds (Answer a xs) = a 2 ∷ seconds xs
seconds (Called c xs) = seconds xs
seconds (Wrote t xs) = seconds xs
seconds (Read k xs) = seconds xs

abbrev pub seconds_of : Node → List (Option Val)
seconds_of n =
    seconds
    (stream (λ op vs. fails) (λ h p vs. End) 0 n
    (λ x. if nat_eq x 1 then Some (con red no_vals) else None))

abbrev pub then_two : Node → ℕ → Node
then_two n k = in_a_row (n ∷ const 2 k ∷ [])

-- a constant that is a constructor's value, which no goal of a program tests
abbrev pub red_constant : Label
red_constant = for_constant (con red no_vals)

abbrev pub told : Label → Node → Disjunct
told l n = record { opens = (1, l) ∷ []; goal = n }

abbrev pub ones : List (Option Val)
ones = Some (int (pos 1)) ∷ Some (int (pos 2)) ∷ Some (int (pos 3)) ∷ []

abbrev pub overlapping : List Disjunct
overlapping =
    told (for_symbol red) (then_two (take 1 red []) 1)
    ∷ told red_constant (then_two (unmarked (TestConst 1 (con red no_vals))) 2)
    ∷ told (for_symbol red) (then_two (take 1 red []) 3)
    ∷ []

-- Such a constant is no label: if it were one, a switch could have its answers in another order
-- than its disjunction has.
abbrev pub LabelsDontOverlap : Type 0
LabelsDontOverlap =
    (openings (unmarked (TestConst 1 (con red no_vals))) ≡ [])
    × (seconds_of
    (one_of
    (then_two (take 1 red []) 1
    ∷ then_two (unmarked (TestConst 1 (con red no_vals))) 2
    ∷ then_two (take 1 red []) 3 ∷ []))
    ≡ ones)
    × (seconds_of
    (unmarked
    (grouped (program []) colours (λ ds. []) 1 (ground_are (0 ∷ 1 ∷ [])) [] overlapping))
    ≢ ones)
