-- Clauses before their names are resolved, computed by the definition: for each sentence on variables
-- and on goals one or two of them. There are no names to be looked up, so that a name's candidates
-- are none.
use Rattle.std.specs.Prelude.{◌≡◌, ℕ, List, [], ◌∷◌, codes}
use Rattle.mc_term_data.specs.Plain.{PlainTerm, PlainTerms, at, no_term, more_terms, Var, App, Items, Tailed}
use Rattle.mc_accepted.specs.Resolving.{Unresolved, any_variable, any_name, Unresolved_terms, no_terms, term_then, Unresolved_goal, equation, atom, all_of, one_of, choice, negation, exists, no_goals, goal_then}
use Rattle.mc_names.specs.Linked.{Linked}
use Rattle.mc_clause_syntax.specs.code.Written.{over, just, two, three, sign, conj, disj, quantify, rule}
use Rattle.mc_names.specs.Definitions.{nil_path}
use Rattle.mc_clauses.specs.Unresolved.{unresolved_clause, meanings, two_terms, two_goals}

abbrev pub no_names : Linked
no_names =
    record {
      types = [];
      symbols = [];
      preds = [];
      insts = [];
      modes = [];
      scopes = [];
      declared = [];
    }

abbrev pub named : List ℕ → PlainTerm
named x = at (Var x) 1

abbrev pub x : PlainTerm
x = named (codes "X")

abbrev pub y : PlainTerm
y = named (codes "Y")

abbrev pub blank : PlainTerm
blank = named (codes "_")

-- `p(X)`
abbrev pub p_x : PlainTerm
p_x = over (codes "pp") (just x)

-- `p(X, Y)`
abbrev pub p_xy : PlainTerm
p_xy = over (codes "pp") (two x y)

abbrev pub is : ℕ → Unresolved
is v = any_variable v

-- a name over variables, as a term and as a goal
abbrev pub over_one : ℕ → Unresolved_goal
over_one v = atom [] (term_then (is v) no_terms)

abbrev pub over_two : ℕ → ℕ → Unresolved_goal
over_two v w = atom [] (two_terms (is v) (is w))

-- a clause of a predicate, from its head and body: the arguments of its head, its body, and the names
-- of its variables
abbrev pub becomes :
    PlainTerm → Unresolved_terms → Unresolved_goal → (names : List (List ℕ)) → Type 0
becomes t head body names =
    unresolved_clause no_names 0 7 t
    ≡ record { clause = record { pred = 7; head = head; body = body }; names = names }

-- A variable has one number; each `_` is a variable of its own.
abbrev pub Variables : Type 0
Variables =
    becomes (over (codes "pp") (three x y x))
    (term_then (is 0) (two_terms (is 1) (is 0))) (all_of no_goals)
    (codes "X" ∷ codes "Y" ∷ [])
    × becomes (over (codes "pp") (three blank x blank))
    (term_then (is 0) (two_terms (is 1) (is 2))) (all_of no_goals)
    (codes "_" ∷ codes "X" ∷ codes "_" ∷ [])

-- A version of a state variable has no name. A function's result is the last argument.
abbrev pub Heads : Type 0
Heads =
    becomes (over (codes "pp") (two x (named (33 ∷ 48 ∷ []))))
    (two_terms (is 0) (is 1)) (all_of no_goals) (codes "X" ∷ [] ∷ [])
    × becomes (sign (codes "=") (over (codes "ff") (just x)) y)
    (two_terms (is 0) (is 1)) (all_of no_goals) (codes "X" ∷ codes "Y" ∷ [])

-- `pp(X) :- pp(Y), some [Y] pp(X, Y), pp(Y)`: the variable that the quantifier names is another one.
abbrev pub Quantifiers : Type 0
Quantifiers =
    becomes
    (rule p_x
    (conj
    (three (over (codes "pp") (just y)) (quantify (codes "some") (just y) p_xy)
    (over (codes "pp") (just y)))))
    (term_then (is 0) no_terms)
    (all_of
    (goal_then (over_one 1)
    (two_goals (exists (2 ∷ []) (over_two 0 2)) (over_one 1))))
    (codes "X" ∷ codes "Y" ∷ codes "Y" ∷ [])

-- `all [X] (pp(X) => pp(X, Y))`, and `all [X] pp(X)`
abbrev pub Universals : Type 0
Universals =
    becomes
    (rule (over (codes "qq") no_term)
    (quantify (codes "all") (just x) (sign (codes "=>") p_x p_xy)))
    no_terms
    (negation
    (exists (0 ∷ []) (all_of (two_goals (over_one 0) (negation (over_two 0 1))))))
    (codes "X" ∷ codes "Y" ∷ [])
    × becomes
    (rule (over (codes "qq") no_term) (quantify (codes "all") (just x) p_x))
    no_terms (negation (exists (0 ∷ []) (negation (over_one 0)))) (codes "X" ∷ [])

-- `( some [X] pp(X) -> pp(X, Y) ; pp(X) )`: the condition's quantifier reaches over the then part, and
-- not over the else part.
abbrev pub Conditionals : Type 0
Conditionals =
    becomes
    (rule (over (codes "qq") no_term)
    (disj (two (sign (codes "->") (quantify (codes "some") (just x) p_x) p_xy) p_x)))
    no_terms
    (choice (0 ∷ []) (over_one 0) (over_two 0 1) (over_one 2))
    (codes "X" ∷ codes "Y" ∷ codes "X" ∷ [])

-- `( X = Y ; not X \= Y ; pp(X) => pp(X, Y) ; fail )`
abbrev pub Goals : Type 0
Goals =
    becomes
    (rule p_xy
    (disj
    (more_terms (sign (codes "=") x y)
    (three
    (over (codes "not") (just (sign (92 ∷ 61 ∷ []) x y)))
    (sign (codes "=>") p_x p_xy)
    (over (codes "fail") no_term)))))
    (two_terms (is 0) (is 1))
    (one_of
    (goal_then (equation (is 0) (is 1))
    (goal_then (negation (negation (equation (is 0) (is 1))))
    (two_goals
    (negation (all_of (two_goals (over_one 0) (negation (over_two 0 1)))))
    (one_of no_goals)))))
    (codes "X" ∷ codes "Y" ∷ [])

-- `pp([X, Y | X])`, and `pp([X])`; `[]` might be a character by its form, so what it means is left as
-- it is
abbrev pub Lists : Type 0
Lists =
    becomes (over (codes "pp") (just (at (Tailed (two x y) x) 1)))
    (term_then (any_name [] (two_terms (is 0) (any_name [] (two_terms (is 1) (is 0))))) no_terms)
    (all_of no_goals) (codes "X" ∷ codes "Y" ∷ [])
    × becomes (over (codes "pp") (just (at (Items (just x)) 1)))
    (term_then
    (any_name []
    (two_terms (is 0) (any_name (meanings no_names 0 nil_path 0) no_terms)))
    no_terms)
    (all_of no_goals) (codes "X" ∷ [])

-- `pp((X, Y, X))`: a conjunction as a term
abbrev pub Conjunctions : Type 0
Conjunctions =
    becomes (over (codes "pp") (just (conj (three x y x))))
    (term_then (any_name [] (two_terms (is 0) (any_name [] (two_terms (is 1) (is 0))))) no_terms)
    (all_of no_goals) (codes "X" ∷ codes "Y" ∷ [])
