-- Programs over lists and facts, and what their queries answer.
use Rattle.std.specs.Prelude.{◌≢◌, ℕ, List, [], ◌∷◌, pos}
use Rattle.mc_program.specs.Values.{Val, int, con, no_vals}
use Rattle.mc_model.specs.Scheduled.{for_symbol, Node, Not, Exists, Assign, Build, Take, Procedure}
use Rattle.laws_language.specs.code.Examples.{det, semidet, nondet, cc_nondet, goal, once, all_of, one_of, switch_on, call, apply, number, free_inst, ground_inst, procedure, query, nil, cell, ints, Shown, called, answered, shown, at_end, answers_of, Shows, Answers, asked, plenty}
use Rattle.mc_program.specs.declared.builtin.Builtin.TheVariants as B

-- Variables: the head's three, those of clauses, and fresh ones.
abbrev first : ℕ
first = 0

abbrev second : ℕ
second = 1

abbrev third : ℕ
third = 2

abbrev x : ℕ
x = 3

abbrev xs : ℕ
xs = 4

abbrev y : ℕ
y = 5

abbrev ys : ℕ
ys = 6

abbrev z : ℕ
z = 7

abbrev zs : ℕ
zs = 8

abbrev rest : ℕ
rest = 9

abbrev t1 : ℕ
t1 = 11

abbrev t2 : ℕ
t2 = 12

abbrev t3 : ℕ
t3 = 13

abbrev t4 : ℕ
t4 = 14

abbrev t5 : ℕ
t5 = 15

abbrev t6 : ℕ
t6 = 16

abbrev t7 : ℕ
t7 = 17

-- a variable is built from, or taken apart into, others
abbrev build : ℕ → ℕ → List ℕ → Node
build v f ts = goal (Build v f ts)

abbrev take : ℕ → ℕ → List ℕ → Node
take v f ts = goal (Take v f ts)

-- the goals that make [1, 2]
abbrev one_two : List Node
one_two =
    number t1 1 ∷ number t2 2 ∷ build t3 nil [] ∷ build t4 cell (t2 ∷ t3 ∷ [])
    ∷ build t5 cell (t1 ∷ t4 ∷ []) ∷ []

abbrev and_then : List Node → List Node → List Node
and_then [] ms = ms
and_then (n ∷ ns) ms = n ∷ and_then ns ms

-- parent(ann, bob). parent(ann, cid). parent(bob, cid). parent(ann, bob).
abbrev ann : ℕ
ann = 10

abbrev bob : ℕ
bob = 11

abbrev cid : ℕ
cid = 12

abbrev person : ℕ → Val
person p = con p no_vals

abbrev fact : ℕ → ℕ → Node
fact p q = goal (all_of (build first p [] ∷ build second q [] ∷ []))

abbrev family : List Procedure
family =
    procedure (first ∷ second ∷ []) (free_inst ∷ free_inst ∷ []) (ground_inst ∷ ground_inst ∷ [])
    nondet (goal (one_of (fact ann bob ∷ fact ann cid ∷ fact bob cid ∷ fact ann bob ∷ []))) ∷ []

-- parent(X, Y)
abbrev parents : Procedure
parents = query (first ∷ second ∷ []) nondet (call 0 (first ∷ second ∷ []))

-- parent(X, _)
abbrev parents_of_some : Procedure
parents_of_some = query (first ∷ []) nondet (goal (Exists (x ∷ []) (call 0 (first ∷ x ∷ []))))

-- parent(_, _), which binds nothing that occurs outside it
abbrev some_parents : Procedure
some_parents = query [] semidet (once (Exists (x ∷ y ∷ []) (call 0 (x ∷ y ∷ []))))

-- parent(ann, Y): the first argument is tested after each answer
abbrev children_of_ann : Procedure
children_of_ann =
    query (first ∷ []) nondet
    (goal (Exists (x ∷ []) (goal (all_of (build x ann [] ∷ call 0 (x ∷ first ∷ []) ∷ [])))))

abbrev pair_of : ℕ → ℕ → Shown
pair_of p q = answered (person p ∷ person q ∷ [])

abbrev pub Facts : Type 0
Facts =
    Shows (asked family plenty plenty parents)
    (called 0 ∷ pair_of ann bob ∷ pair_of ann cid ∷ pair_of bob cid ∷ pair_of ann bob ∷ []) at_end
    × Answers (asked family plenty plenty parents_of_some)
    ((person ann ∷ []) ∷ (person ann ∷ []) ∷ (person bob ∷ []) ∷ (person ann ∷ []) ∷ [])
    × Shows (asked family plenty plenty some_parents) (called 0 ∷ answered [] ∷ []) at_end
    × Answers (asked family plenty plenty children_of_ann)
    ((person bob ∷ []) ∷ (person cid ∷ []) ∷ (person bob ∷ []) ∷ [])
    × (answers_of (asked family plenty plenty parents_of_some)
    ≢ answers_of (asked family plenty plenty children_of_ann))

-- append([], Ys, Ys).  append([X | Xs], Ys, [X | Zs]) :- append(Xs, Ys, Zs).
-- In the mode (out, out, in) the last argument is taken apart first.
abbrev append_backward : Procedure
append_backward =
    procedure (first ∷ second ∷ third ∷ []) (free_inst ∷ free_inst ∷ ground_inst ∷ [])
    (ground_inst ∷ ground_inst ∷ ground_inst ∷ []) nondet
    (goal (one_of
    (goal (all_of (build first nil [] ∷ goal (Assign second third) ∷ []))
    ∷ goal
    (Exists (x ∷ xs ∷ zs ∷ [])
    (goal
    (all_of
    (take third cell (x ∷ zs ∷ []) ∷ call 0 (xs ∷ second ∷ zs ∷ [])
    ∷ build first cell (x ∷ xs ∷ []) ∷ []))))
    ∷ [])))

-- in the mode (in, in, out) it is a switch on the first
abbrev append_forward : Procedure
append_forward =
    procedure (first ∷ second ∷ third ∷ []) (ground_inst ∷ ground_inst ∷ free_inst ∷ [])
    (ground_inst ∷ ground_inst ∷ ground_inst ∷ []) det
    (goal (switch_on first
    ((for_symbol nil, goal (all_of (take first nil [] ∷ goal (Assign third second) ∷ [])))
    ∷ (
      for_symbol cell,
      goal
          (Exists (x ∷ xs ∷ zs ∷ [])
          (goal
          (all_of
          (take first cell (x ∷ xs ∷ []) ∷ call 1 (xs ∷ second ∷ zs ∷ [])
          ∷ build third cell (x ∷ zs ∷ []) ∷ [])))),
    )
    ∷ [])))

abbrev appends : List Procedure
appends = append_backward ∷ append_forward ∷ []

-- append(X, Y, [1, 2])
abbrev splits : Procedure
splits =
    query (first ∷ second ∷ []) nondet
    (goal (all_of (and_then one_two (call 0 (first ∷ second ∷ t5 ∷ []) ∷ []))))

-- append([1], [2], Z), where the third argument is made before and compared after the call
abbrev appended : List Node → Procedure
appended third_made =
    query [] semidet
    (once
    (all_of
    (and_then third_made
    (number x 1 ∷ build y nil [] ∷ build xs cell (x ∷ y ∷ []) ∷ number z 2
    ∷ build zs nil [] ∷ build ys cell (z ∷ zs ∷ []) ∷ call 1 (xs ∷ ys ∷ t5 ∷ [])
    ∷ []))))

abbrev two_one : List Node
two_one =
    number t1 2 ∷ number t2 1 ∷ build t3 nil [] ∷ build t4 cell (t2 ∷ t3 ∷ [])
    ∷ build t5 cell (t1 ∷ t4 ∷ []) ∷ []

abbrev split : List ℕ → List ℕ → Shown
split ns ms = answered (ints ns ∷ ints ms ∷ [])

abbrev pub Appends : Type 0
Appends =
    Shows (asked appends plenty plenty splits)
    (called 0 ∷ split [] (1 ∷ 2 ∷ []) ∷ called 0 ∷ split (1 ∷ []) (2 ∷ []) ∷ called 0
    ∷ split (1 ∷ 2 ∷ []) [] ∷ []) at_end
    × Shows (asked appends plenty plenty (appended one_two))
    (called 1 ∷ called 1 ∷ answered [] ∷ []) at_end
    × Shows (asked appends plenty plenty (appended two_one)) (called 1 ∷ called 1 ∷ []) at_end
    × (shown (asked appends plenty plenty (appended one_two))
    ≢ shown (asked appends plenty plenty (appended two_one)))

-- member(X, [X | _]).  member(X, [_ | Xs]) :- member(X, Xs).
-- In the mode (out, in) it is nondet; in the mode (in, in) its body binds nothing and is pruned.
abbrev member_clauses : ℕ → List Node
member_clauses k =
    goal (Exists (y ∷ []) (take second cell (first ∷ y ∷ [])))
    ∷ goal
    (Exists (y ∷ xs ∷ [])
    (goal (all_of (take second cell (y ∷ xs ∷ []) ∷ call k (first ∷ xs ∷ []) ∷ []))))
    ∷ []

abbrev pub member_of : Procedure
member_of =
    procedure (first ∷ second ∷ []) (free_inst ∷ ground_inst ∷ []) (ground_inst ∷ ground_inst ∷ [])
    nondet
    (goal (switch_on second ((for_symbol cell, goal (one_of (member_clauses 0))) ∷ [])))

abbrev is_member : Procedure
is_member =
    procedure (first ∷ second ∷ []) (ground_inst ∷ ground_inst ∷ [])
    (ground_inst ∷ ground_inst ∷ []) semidet
    (once (switch_on second ((for_symbol cell, once (one_of (member_clauses 1))) ∷ [])))

-- pick(X) :- member(X, [3, 1, 2]), X < 3.
abbrev pick : Procedure
pick =
    procedure (first ∷ []) (free_inst ∷ []) (ground_inst ∷ []) cc_nondet
    (goal (all_of
    (number t1 3 ∷ number t2 1 ∷ number t3 2 ∷ build t4 nil [] ∷ build t5 cell (t3 ∷ t4 ∷ [])
    ∷ build t6 cell (t2 ∷ t5 ∷ []) ∷ build t7 cell (t1 ∷ t6 ∷ [])
    ∷ call 0 (first ∷ t7 ∷ []) ∷ number y 3 ∷ apply B.IntLess (first ∷ y ∷ []) [] ∷ [])))

abbrev members : List Procedure
members = member_of ∷ is_member ∷ pick ∷ []

-- not member(X, [1, 2]), where X is quantified inside
abbrev none_is_member : Procedure
none_is_member =
    query [] semidet
    (once
    (Not
    (once
    (Exists (x ∷ []) (goal (all_of (and_then one_two (call 0 (x ∷ t5 ∷ []) ∷ []))))))))

-- X = 3, not member(X, [1, 2])
abbrev three_is_no_member : Procedure
three_is_no_member =
    query (first ∷ []) semidet
    (goal
    (all_of
    (number first 3
    ∷ once (Not (once (all_of (and_then one_two (call 1 (first ∷ t5 ∷ []) ∷ []))))) ∷ [])))

-- all [X] (member(X, [1, 2]) => X > N): no X is a member and not above N
abbrev all_above : ℕ → Procedure
all_above n =
    query [] semidet
    (once (Not (once (Exists (x ∷ []) (goal (all_of (and_then one_two
    (call 0 (x ∷ t5 ∷ []) ∷ once (Not (once
    (all_of (number y n ∷ apply B.IntGreater (x ∷ y ∷ []) [] ∷ [])))) ∷ []))))))))

-- pick(X), asked for its first answer
abbrev picks : Procedure
picks = query (first ∷ []) cc_nondet (call 2 (first ∷ []))

abbrev pub Members : Type 0
Members =
    Shows (asked members plenty plenty none_is_member) (called 0 ∷ []) at_end
    × Shows (asked members plenty plenty three_is_no_member)
    (called 1 ∷ called 1 ∷ called 1 ∷ answered (int (pos 3) ∷ []) ∷ []) at_end
    × Shows (asked members plenty plenty picks)
    (called 2 ∷ called 0 ∷ called 0 ∷ answered (int (pos 1) ∷ []) ∷ []) at_end
    × Answers (asked members plenty plenty (all_above 0)) ([] ∷ [])
    × Answers (asked members plenty plenty (all_above 1)) []
    × (answers_of (asked members plenty plenty (all_above 1))
    ≢ answers_of (asked members plenty plenty (all_above 0)))

-- place([], _, []). place([C | Cs], Placed, [Q | Qs]) :- select(Q, [C | Cs], Rest), safe(Q, 1,
-- Placed), place(Rest, [Q | Placed], Qs).
abbrev place : Procedure
place =
    procedure (first ∷ second ∷ third ∷ []) (ground_inst ∷ ground_inst ∷ free_inst ∷ [])
    (ground_inst ∷ ground_inst ∷ ground_inst ∷ []) nondet
    (goal (switch_on first
    ((for_symbol nil, goal (all_of (take first nil [] ∷ build third nil [] ∷ [])))
    ∷ (
      for_symbol cell,
      goal (Exists (x ∷ xs ∷ y ∷ ys ∷ rest ∷ []) (goal (all_of
          (take first cell (x ∷ xs ∷ []) ∷ build t1 cell (x ∷ xs ∷ []) ∷ call 1 (y ∷ t1 ∷ rest ∷ [])
          ∷ number t2 1 ∷ call 2 (y ∷ t2 ∷ second ∷ [])
          ∷ build t3 cell (y ∷ second ∷ []) ∷ call 0 (rest ∷ t3 ∷ ys ∷ [])
          ∷ build third cell (y ∷ ys ∷ []) ∷ [])))),
    )
    ∷ [])))

-- select(X, [X | Xs], Xs).  select(X, [Y | Ys], [Y | Zs]) :- select(X, Ys, Zs).
abbrev select : Procedure
select =
    procedure (first ∷ second ∷ third ∷ []) (free_inst ∷ ground_inst ∷ free_inst ∷ [])
    (ground_inst ∷ ground_inst ∷ ground_inst ∷ []) nondet
    (goal (switch_on second
    ((
      for_symbol cell,
      goal (one_of
          (goal (Exists (xs ∷ []) (goal (all_of
          (take second cell (first ∷ xs ∷ []) ∷ goal (Assign third xs) ∷ []))))
          ∷ goal
          (Exists (y ∷ ys ∷ zs ∷ [])
          (goal
          (all_of
          (take second cell (y ∷ ys ∷ []) ∷ call 1 (first ∷ ys ∷ zs ∷ [])
          ∷ build third cell (y ∷ zs ∷ []) ∷ []))))
          ∷ [])),
    )
    ∷ [])))

-- safe(_, _, []).  safe(Q, D, [P | Ps]) :- Q \= P + D, Q \= P - D, safe(Q, D + 1, Ps).
abbrev safe : Procedure
safe =
    procedure (first ∷ second ∷ third ∷ []) (ground_inst ∷ ground_inst ∷ ground_inst ∷ [])
    (ground_inst ∷ ground_inst ∷ ground_inst ∷ []) semidet
    (once (switch_on third
    ((for_symbol nil, once (all_of (take third nil [] ∷ [])))
    ∷ (
      for_symbol cell,
      once (Exists (x ∷ xs ∷ []) (goal (all_of
          (take third cell (x ∷ xs ∷ [])
          ∷ once (Not (once (all_of (apply B.IntPlus (x ∷ second ∷ []) (first ∷ []) ∷ []))))
          ∷ once (Not (once (all_of (apply B.IntMinus (x ∷ second ∷ []) (first ∷ []) ∷ []))))
          ∷ number t1 1 ∷ apply B.IntPlus (second ∷ t1 ∷ []) (t2 ∷ [])
          ∷ call 2 (first ∷ t2 ∷ xs ∷ []) ∷ [])))),
    )
    ∷ [])))

-- queens(Qs) :- place([1, 2, 3, 4], [], Qs).
abbrev queens : Procedure
queens =
    procedure (first ∷ []) (free_inst ∷ []) (ground_inst ∷ []) nondet
    (goal (all_of
    (number x 1 ∷ number xs 2 ∷ number y 3 ∷ number ys 4 ∷ build t1 nil []
    ∷ build t2 cell (ys ∷ t1 ∷ []) ∷ build t3 cell (y ∷ t2 ∷ [])
    ∷ build t4 cell (xs ∷ t3 ∷ []) ∷ build t5 cell (x ∷ t4 ∷ [])
    ∷ build t6 nil [] ∷ call 0 (t5 ∷ t6 ∷ first ∷ []) ∷ [])))

abbrev boards : List Procedure
boards = place ∷ select ∷ safe ∷ queens ∷ []

abbrev all_boards : Procedure
all_boards = query (first ∷ []) nondet (call 3 (first ∷ []))

abbrev pub Queens : Type 0
Queens =
    Answers (asked boards plenty plenty all_boards)
    ((ints (2 ∷ 4 ∷ 1 ∷ 3 ∷ []) ∷ []) ∷ (ints (3 ∷ 1 ∷ 4 ∷ 2 ∷ []) ∷ []) ∷ [])
    × (answers_of (asked boards plenty plenty all_boards) ≢ [])
