-- Programs over numbers and io, and what their runs do with a budget and a depth.
use Rattle.std.specs.Prelude.{◌≡◌, ◌≢◌, ℕ, List, [], ◌∷◌, ◌++◌, map, Option, Some, None, pos, codes}
use Rattle.mc_program.specs.Values.{Val, int, str, state}
use Rattle.mc_model.specs.EventList.{zero_divide, budget, too_deep, thrown, written}
use Rattle.mc_model.specs.Events as E
use Rattle.mc_model.specs.Events.{events_of, bound_values, plain_item}
use Rattle.mc_model.specs.declared.run.Item.TheVariants as I
use Rattle.mc_model.specs.Scheduled.{Label, for_symbol, for_constant, Node, Ite, Exists, Assign, Build, Take, Const, TestConst, Procedure}
use Rattle.laws_language.specs.code.Examples.{det, semidet, multi, nondet, goal, once, all_of, one_of, switch_on, call, apply, number, free_inst, ground_inst, procedure, query, nil, cell, Shown, called, answered, wrote, at_end, at_stop, ending, answers_of, calls_of, Shows, asked, started, plenty}
use Rattle.mc_program.specs.declared.builtin.Builtin.TheVariants as B

-- Variables: the head's three, and others.
abbrev first : ℕ
first = 0

abbrev second : ℕ
second = 1

abbrev third : ℕ
third = 2

abbrev x : ℕ
x = 3

abbrev xs : ℕ
xs = 4

abbrev y : ℕ
y = 5

abbrev z : ℕ
z = 6

abbrev t1 : ℕ
t1 = 11

abbrev t2 : ℕ
t2 = 12

abbrev t3 : ℕ
t3 = 13

abbrev t4 : ℕ
t4 = 14

abbrev t5 : ℕ
t5 = 15

abbrev t6 : ℕ
t6 = 16

abbrev total_text : ℕ
total_text = 21

abbrev sum_text : ℕ
sum_text = 22

abbrev line_end_text : ℕ
line_end_text = 23

abbrev sum_line : ℕ
sum_line = 24

abbrev whole_line : ℕ
whole_line = 25

abbrev one : ℕ
one = 26

abbrev int_is : ℕ → Shown
int_is n = answered (int (pos n) ∷ [])

-- a fact of two integers, the first an input
abbrev row : ℕ → ℕ → Node
row n m = goal (all_of (goal (TestConst first (int (pos n))) ∷ number second m ∷ []))

abbrev constant : ℕ → Label
constant n = for_constant (int (pos n))

-- q(1, 3).  q(1, 2).  r(2, 20).  r(3, 30).  p(X, Z) :- r(Y, Z), q(X, Y).
-- In p the call of r waits for Y, so q runs before it.
abbrev order : List Procedure
order =
    procedure (first ∷ second ∷ []) (ground_inst ∷ free_inst ∷ []) (ground_inst ∷ ground_inst ∷ [])
    nondet
    (goal
    (Exists (y ∷ [])
    (goal (all_of (call 1 (first ∷ y ∷ []) ∷ call 2 (y ∷ second ∷ []) ∷ [])))))
    ∷ procedure (first ∷ second ∷ []) (ground_inst ∷ free_inst ∷ [])
    (ground_inst ∷ ground_inst ∷ []) nondet
    (goal (switch_on first ((constant 1, goal (one_of (row 1 3 ∷ row 1 2 ∷ []))) ∷ [])))
    ∷ procedure (first ∷ second ∷ []) (ground_inst ∷ free_inst ∷ [])
    (ground_inst ∷ ground_inst ∷ []) semidet
    (goal (switch_on first ((constant 2, row 2 20) ∷ (constant 3, row 3 30) ∷ [])))
    ∷ []

-- p(1, Z)
abbrev p_of_one : Procedure
p_of_one = query (first ∷ []) nondet (goal (all_of (number x 1 ∷ call 0 (x ∷ first ∷ []) ∷ [])))

abbrev pub Order : Type 0
Order =
    Shows (asked order plenty plenty p_of_one)
    (called 0 ∷ called 1 ∷ called 2 ∷ int_is 30 ∷ called 2 ∷ int_is 20 ∷ []) at_end
    × Shows (asked order 4 plenty p_of_one)
    (called 0 ∷ called 1 ∷ called 2 ∷ int_is 30 ∷ called 2 ∷ int_is 20 ∷ []) at_end
    × Shows (asked order 3 plenty p_of_one) (called 0 ∷ called 1 ∷ called 2 ∷ int_is 30 ∷ [])
    (at_stop budget)
    × (answers_of (asked order 3 plenty p_of_one) ≢ answers_of (asked order 4 plenty p_of_one))

-- The events of that run as a program keeps them: of an answer the values that are bound.
abbrev pub RunEvents : Type 0
RunEvents =
    (events_of (asked order 3 plenty p_of_one)
    ≡ E.called 0 ∷ E.called 1 ∷ E.called 2 ∷ E.answered (int (pos 30) ∷ []) ∷ [])
    × (bound_values (Some (int (pos 1)) ∷ None ∷ Some (int (pos 2)) ∷ [])
    ≡ int (pos 1) ∷ int (pos 2) ∷ [])
    × (map plain_item (I.Call 0 ∷ I.Call 1 ∷ I.Call 2 ∷ [])
    ≢ events_of (asked order 3 plenty p_of_one))

-- depth(N, D) :- ( if N = 0 then D = 0 else depth(N - 1, D0), D = D0 + 1 ).  loop :- loop.
abbrev deep : List Procedure
deep =
    procedure (first ∷ second ∷ []) (ground_inst ∷ free_inst ∷ []) (ground_inst ∷ ground_inst ∷ [])
    det
    (goal (Ite [] (once (TestConst first (int (pos 0)))) (number second 0)
    (goal (Exists (x ∷ []) (goal (all_of
    (number t1 1 ∷ apply B.IntMinus (first ∷ t1 ∷ []) (t2 ∷ []) ∷ call 0 (t2 ∷ x ∷ [])
    ∷ number t3 1 ∷ apply B.IntPlus (x ∷ t3 ∷ []) (second ∷ []) ∷ [])))))))
    ∷ procedure [] [] [] det (once (all_of (call 1 [] ∷ [])))
    ∷ []

-- depth(5, D)
abbrev depth_of_five : Procedure
depth_of_five =
    query (first ∷ []) nondet (goal (all_of (number x 5 ∷ call 0 (x ∷ first ∷ []) ∷ [])))

abbrev loops : Procedure
loops = query [] nondet (once (all_of (call 1 [] ∷ [])))

abbrev five_calls : ℕ → List Shown
five_calls k = called k ∷ called k ∷ called k ∷ called k ∷ called k ∷ []

abbrev pub Budgets : Type 0
Budgets =
    Shows (asked deep 6 plenty depth_of_five)
    (called 0 ∷ called 0 ∷ called 0 ∷ called 0 ∷ called 0 ∷ called 0 ∷ int_is 5 ∷ []) at_end
    × Shows (asked deep 5 plenty depth_of_five) (five_calls 0) (at_stop budget)
    × Shows (asked deep 5 plenty loops) (five_calls 1) (at_stop budget)
    × (ending (asked deep 5 plenty depth_of_five) ≢ at_end)

abbrev pub Depths : Type 0
Depths =
    Shows (asked deep plenty 6 depth_of_five)
    (called 0 ∷ called 0 ∷ called 0 ∷ called 0 ∷ called 0 ∷ called 0 ∷ int_is 5 ∷ []) at_end
    × Shows (asked deep plenty 5 depth_of_five) (five_calls 0) (at_stop too_deep)
    × (ending (asked deep plenty 5 depth_of_five) ≢ at_stop budget)

-- t(7).  t(X) :- X = 1 // 0.
abbrev throwing : List Procedure
throwing =
    procedure (first ∷ []) (free_inst ∷ []) (ground_inst ∷ []) multi
    (goal
    (one_of
    (number first 7
    ∷ goal
    (all_of
    (number t1 1 ∷ number t2 0 ∷ apply B.IntQuotient (t1 ∷ t2 ∷ []) (first ∷ [])
    ∷ [])) ∷ [])))
    ∷ []

abbrev all_t : Procedure
all_t = query (first ∷ []) nondet (call 0 (first ∷ []))

abbrev pub Throws : Type 0
Throws =
    Shows (asked throwing plenty plenty all_t) (called 0 ∷ int_is 7 ∷ [])
    (at_stop (thrown zero_divide))
    × (ending (asked throwing plenty plenty all_t) ≢ at_end)

abbrev text : ℕ → List ℕ → Node
text v s = goal (Const v (str s))

-- main(!IO) :- sum([3, 4, 5], 0, S), io.write_string("Total: " ++ int_to_string(S) ++ "\n", !IO),
-- squares(1, !IO).
abbrev main : Procedure
main =
    procedure (first ∷ second ∷ []) (ground_inst ∷ free_inst ∷ []) (ground_inst ∷ ground_inst ∷ [])
    det
    (goal (all_of
    (number t1 3 ∷ number t2 4 ∷ number t3 5 ∷ goal (Build t4 nil [])
    ∷ goal (Build t5 cell (t3 ∷ t4 ∷ [])) ∷ goal (Build t6 cell (t2 ∷ t5 ∷ []))
    ∷ goal (Build xs cell (t1 ∷ t6 ∷ []))
    ∷ number z 0 ∷ call 1 (xs ∷ z ∷ x ∷ [])
    ∷ text total_text (codes "Total: ") ∷ apply B.IntToString (x ∷ []) (sum_text ∷ [])
    ∷ text line_end_text (10 ∷ [])
    ∷ apply B.StringJoin (sum_text ∷ line_end_text ∷ []) (sum_line ∷ [])
    ∷ apply B.StringJoin (total_text ∷ sum_line ∷ []) (whole_line ∷ [])
    ∷ apply B.WriteString (whole_line ∷ first ∷ []) (y ∷ [])
    ∷ number one 1 ∷ call 2 (one ∷ y ∷ second ∷ []) ∷ [])))

-- sum([], S, S).  sum([X | Xs], S0, S) :- sum(Xs, S0 + X, S).
abbrev sum : Procedure
sum =
    procedure (first ∷ second ∷ third ∷ []) (ground_inst ∷ ground_inst ∷ free_inst ∷ [])
    (ground_inst ∷ ground_inst ∷ ground_inst ∷ []) det
    (goal (switch_on first
    ((for_symbol nil, goal (all_of (goal (Take first nil []) ∷ goal (Assign third second) ∷ [])))
    ∷ (
      for_symbol cell,
      goal (Exists (x ∷ xs ∷ []) (goal (all_of
          (goal (Take first cell (x ∷ xs ∷ [])) ∷ apply B.IntPlus (second ∷ x ∷ []) (t1 ∷ [])
          ∷ call 1 (xs ∷ t1 ∷ third ∷ []) ∷ [])))),
    )
    ∷ [])))

-- squares(N, !IO) :-
--     ( if N > 3 then true else io.write_int(N * N, !IO), io.nl(!IO), squares(N + 1, !IO) ).
abbrev squares : Procedure
squares =
    procedure (first ∷ second ∷ third ∷ []) (ground_inst ∷ ground_inst ∷ free_inst ∷ [])
    (ground_inst ∷ ground_inst ∷ ground_inst ∷ []) det
    (goal (Ite []
    (once (all_of (number t1 3 ∷ apply B.IntGreater (first ∷ t1 ∷ []) [] ∷ [])))
    (goal (all_of (goal (Assign third second) ∷ [])))
    (goal (all_of
    (apply B.IntTimes (first ∷ first ∷ []) (t2 ∷ []) ∷ apply B.WriteInt (t2 ∷ second ∷ []) (x ∷ [])
    ∷ apply B.Nl (x ∷ []) (y ∷ [])
    ∷ number t3 1 ∷ apply B.IntPlus (first ∷ t3 ∷ []) (t4 ∷ []) ∷ call 2 (t4 ∷ y ∷ third ∷ [])
    ∷ [])))))

abbrev total : List Procedure
total = main ∷ sum ∷ squares ∷ []

-- the first state of io, and a state that is asked for
abbrev main_arguments : List (Option Val)
main_arguments = Some (state [] 0) ∷ None ∷ []

abbrev lines : List ℕ
lines = codes "Total: 12" ++ (10 ∷ 49 ∷ 10 ∷ 52 ∷ 10 ∷ 57 ∷ 10 ∷ [])

abbrev line_end : Shown
line_end = wrote (10 ∷ [])

abbrev calls_and_texts : List Shown
calls_and_texts =
    called 0 ∷ called 1 ∷ called 1 ∷ called 1 ∷ called 1 ∷ wrote (codes "Total: 12" ++ (10 ∷ []))
    ∷ called 2 ∷ wrote (codes "1") ∷ line_end ∷ called 2 ∷ wrote (codes "4") ∷ line_end ∷ called 2
    ∷ wrote (codes "9") ∷ line_end ∷ []

abbrev and_then : List Shown → List Shown → List Shown
and_then [] us = us
and_then (s ∷ ss) us = s ∷ and_then ss us

-- nine calls are made, and with one less the same is written
abbrev pub Output : Type 0
Output =
    Shows (started total plenty plenty 0 main_arguments)
    (and_then calls_and_texts (called 2 ∷ answered (state [] 0 ∷ state lines 0 ∷ []) ∷ [])) at_end
    × Shows (started total 9 plenty 0 main_arguments)
    (and_then calls_and_texts (called 2 ∷ answered (state [] 0 ∷ state lines 0 ∷ []) ∷ []))
    at_end
    × Shows (started total 8 plenty 0 main_arguments) calls_and_texts (at_stop budget)
    × (calls_of (started total plenty plenty 0 main_arguments) ≡ 9)
    × (written (started total plenty plenty 0 main_arguments) ≡ lines)
    × (written (started total 8 plenty 0 main_arguments) ≡ lines)
    × (written (started total 5 plenty 0 main_arguments) ≢ lines)
