-- Computed switch forms of clauses: their one goal in its one order, with its switches. The group
-- has an equation that doesn't hold.
use Rattle.std.specs.Prelude.{◌≡◌, ◌≢◌, ℕ, List, [], ◌∷◌, length, Option, Some, None, Bool, false, not, nat_eq, pos, if◌then◌else◌}
use Rattle.mc_program.specs.Values.{int}
use Rattle.mc_program.specs.Programs.{TypeTerm, Expression, variable, constant, made, expressions, Formula, And, Formulas, no_formulas, formula_then, ClauseForm}
use Rattle.mc_program.specs.Programs as P
use Rattle.mc_model.specs.Lists.{from}
use Rattle.mc_model.specs.Scheduled.{for_symbol, Node, Assign}
use Rattle.mc_accepted.specs.Scope.{clause_scoped}
use Rattle.mc_accepted.specs.Normal.{normal_goal}
use Rattle.mc_accepted.specs.Ordered.{in_mode, out_mode}
use Rattle.mc_accepted.specs.Unmarked.{unmarked}
use Rattle.mc_accepted.specs.Accepted.{entered}
use Rattle.mc_accepted.specs.Arranged.{Declared, Verdict, in_order, arrange}
use Rattle.mc_accepted.specs.Forms.{Form, is_bound_form, of_forms}
use Rattle.laws_accepted.specs.code.Examples.{nil, cell, source, graph, in_a_row, one_of, switch_on, const, test, number, take, build, call, typed, form_of}

abbrev pub clause : List Expression → Formula → ClauseForm
clause h g = clause_scoped (record { head = h; body = g })

abbrev pub holds : Formula
holds = And no_formulas

abbrev pub calls : (predicate : ℕ) → List Expression → Formula
calls p ts = P.Call p (expressions ts)

abbrev pub goals : List Formula → Formulas
goals [] = no_formulas
goals (g ∷ gs) = formula_then g (goals gs)

abbrev pub integer : ℕ → Expression
integer n = constant (int (pos n))

abbrev pub empty : Expression
empty = made nil (expressions [])

abbrev pub pair : Expression → Expression → Expression
pair t ts = made cell (expressions (t ∷ ts ∷ []))

-- whether an inst is free where the other is, for insts that are free or ground
abbrev pub fits : Form → ℕ → TypeTerm → Bool
fits i j t = if nat_eq j 0 then not (is_bound_form i) else is_bound_form i

-- `append(in, in, out)`, `select(out, in, out)`, `safe(in, in, in)` and `place(in, in, out)`
abbrev pub append : ℕ
append = 4

abbrev pub select : ℕ
select = 5

abbrev pub safe : ℕ
safe = 6

abbrev pub place : ℕ
place = 7

abbrev pub modes : ℕ → List Declared
modes k =
    record {
      proc = k;
      modes =
          (if nat_eq k select then out_mode else in_mode)
          ∷ in_mode
          ∷ (if nat_eq k safe then in_mode else out_mode)
          ∷ [];
      never = false;
    } ∷ []

abbrev pub in_order_of : Verdict → (Node → Node) → Option Node
in_order_of (in_order n) f = Some (f n)
in_order_of v f = None

-- the switch form of clauses whose head variables have these insts at a call, and are ground at an
-- answer
abbrev pub switched : (ℕ → TypeTerm) → (first last : List ℕ) → List ClauseForm → Option Node
switched T first last cs =
    let n = normal_goal (length first) cs in
    in_order_of
    (arrange (of_forms source graph fits) source modes T n.variables (from 0 (length first)) first
    last n.body)
    (form_of T (entered (from 0 (length first)) first))

-- `q(1, 3). q(1, 2).` and `r(2, 20). r(3, 30).`
abbrev pub fact : (x y : ℕ) → ClauseForm
fact x y = clause (integer x ∷ integer y ∷ []) holds

abbrev pub in_order_fact : (x y : ℕ) → Node
in_order_fact x y = in_a_row (test 0 x ∷ const 1 y ∷ [])

-- `append([], Ys, Ys).` and `append([X | Xs], Ys, [X | Zs]) :- append(Xs, Ys, Zs).`
abbrev pub append_clauses : List ClauseForm
append_clauses =
    clause (empty ∷ variable 0 ∷ variable 0 ∷ []) holds
    ∷ clause
    (pair (variable 0) (variable 1) ∷ variable 2 ∷ pair (variable 0) (variable 3) ∷ [])
    (calls append (variable 1 ∷ variable 2 ∷ variable 3 ∷ []))
    ∷ []

-- `select(X, [X | Xs], Xs).` and `select(X, [Y | Ys], [Y | Zs]) :- select(X, Ys, Zs).`
abbrev pub select_clauses : List ClauseForm
select_clauses =
    clause (variable 0 ∷ pair (variable 0) (variable 1) ∷ variable 1 ∷ []) holds
    ∷ clause
    (variable 0 ∷ pair (variable 1) (variable 2) ∷ pair (variable 1) (variable 3) ∷ [])
    (calls select (variable 0 ∷ variable 2 ∷ variable 3 ∷ []))
    ∷ []

-- `place([], _, []).` and `place([C | Cs], Placed, [Q | Qs]) :- select(Q, [C | Cs], Rest),
-- safe(Q, 1, Placed), place(Rest, [Q | Placed], Qs).`
abbrev pub place_clauses : List ClauseForm
place_clauses =
    clause (empty ∷ variable 0 ∷ empty ∷ []) holds
    ∷ clause
    (pair (variable 0) (variable 1) ∷ variable 2 ∷ pair (variable 3) (variable 4) ∷ [])
    (And
    (goals
    (calls select (variable 3 ∷ pair (variable 0) (variable 1) ∷ variable 5 ∷ [])
    ∷ calls safe (variable 3 ∷ integer 1 ∷ variable 2 ∷ [])
    ∷ calls place (variable 5 ∷ pair (variable 3) (variable 2) ∷ variable 4 ∷ [])
    ∷ [])))
    ∷ []

-- the arms of lists that aren't empty
abbrev pub append_cell : Node
append_cell =
    in_a_row
    (take 0 cell (3 ∷ 4 ∷ []) ∷ call append (4 ∷ 1 ∷ 5 ∷ []) ∷ build 2 cell (3 ∷ 5 ∷ []) ∷ [])

abbrev pub select_first : Node
select_first = in_a_row (take 1 cell (0 ∷ 3 ∷ []) ∷ unmarked (Assign 2 3) ∷ [])

abbrev pub select_later : Node
select_later =
    in_a_row
    (take 1 cell (4 ∷ 5 ∷ []) ∷ call select (0 ∷ 5 ∷ 6 ∷ []) ∷ build 2 cell (4 ∷ 6 ∷ []) ∷ [])

abbrev pub place_cell : Node
place_cell =
    in_a_row
    (take 0 cell (3 ∷ 4 ∷ []) ∷ build 8 cell (3 ∷ 4 ∷ []) ∷ call select (5 ∷ 8 ∷ 7 ∷ [])
    ∷ const 9 1 ∷ call safe (5 ∷ 9 ∷ 1 ∷ []) ∷ build 10 cell (5 ∷ 1 ∷ [])
    ∷ call place (7 ∷ 10 ∷ 6 ∷ []) ∷ build 2 cell (5 ∷ 6 ∷ []) ∷ [])

abbrev pub lists : ℕ → TypeTerm
lists = typed (0 ∷ 1 ∷ 2 ∷ []) []

abbrev pub ClausesSwitched : Type 0
ClausesSwitched =
    (switched (typed [] []) (1 ∷ 0 ∷ []) (1 ∷ 1 ∷ []) (fact 1 3 ∷ fact 1 2 ∷ [])
    ≡ Some (switch_on 0 ((number 1, one_of (in_order_fact 1 3 ∷ in_order_fact 1 2 ∷ [])) ∷ [])))
    × (switched (typed [] []) (1 ∷ 0 ∷ []) (1 ∷ 1 ∷ []) (fact 2 20 ∷ fact 3 30 ∷ [])
    ≡ Some
    (switch_on 0 ((number 2, in_order_fact 2 20) ∷ (number 3, in_order_fact 3 30) ∷ [])))
    × (switched lists (1 ∷ 1 ∷ 0 ∷ []) (1 ∷ 1 ∷ 1 ∷ []) append_clauses
    ≡ Some
    (switch_on 0
    ((for_symbol nil, in_a_row (take 0 nil [] ∷ unmarked (Assign 2 1) ∷ []))
    ∷ (for_symbol cell, append_cell)
    ∷ [])))
    × (switched lists (0 ∷ 1 ∷ 0 ∷ []) (1 ∷ 1 ∷ 1 ∷ []) select_clauses
    ≡ Some (switch_on 1 ((for_symbol cell, one_of (select_first ∷ select_later ∷ [])) ∷ [])))
    × (switched lists (1 ∷ 1 ∷ 0 ∷ []) (1 ∷ 1 ∷ 1 ∷ []) place_clauses
    ≡ Some
    (switch_on 0
    ((for_symbol nil, in_a_row (take 0 nil [] ∷ build 2 nil [] ∷ []))
    ∷ (for_symbol cell, place_cell)
    ∷ [])))
    × (switched (typed [] []) (1 ∷ 0 ∷ []) (1 ∷ 1 ∷ []) (fact 2 20 ∷ fact 3 30 ∷ [])
    ≢ Some (one_of (in_order_fact 2 20 ∷ in_order_fact 3 30 ∷ [])))
