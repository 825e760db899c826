-- Computed examples of scopes and of normal goals.
use Rattle.std.specs.Prelude.{◌≡◌, ◌≢◌, ℕ, List, [], ◌∷◌, map, get_or, codes, pos}
use Rattle.mc_program.specs.Values.{int}
use Rattle.mc_program.specs.Programs.{char_type, int_type, string_type, Expression, variable, constant, made, applied, no_expressions, expressions, Formula, Equal, Call, And, Or, If, Not, Exists, ClauseForm}
use Rattle.mc_program.specs.PlainPrograms.{formulas}
use Rattle.mc_model.specs.Flat as F
use Rattle.mc_model.specs.Flat.{flats}
use Rattle.mc_accepted.specs.Normal.{normal_goal}
use Rattle.mc_accepted.specs.NormalTypes.{TypedClause, normal_types, normal_names, query_clause}
use Rattle.mc_accepted.specs.Scope.{scoped, HasScopes}
use Rattle.laws_language.specs.code.Examples.{nil, cell}

-- a call of variables; the predicates are p, q and append, the functions + and *
abbrev pub call_of : ℕ → List ℕ → Formula
call_of p vs = Call p (expressions (map variable vs))

abbrev pub p : List ℕ → Formula
p vs = call_of 0 vs

abbrev pub q : List ℕ → Formula
q vs = call_of 1 vs

abbrev pub append : ℕ
append = 2

abbrev pub plus : ℕ
plus = 3

abbrev pub times : ℕ
times = 4

abbrev pub both : Formula → Formula → Formula
both g h = And (formulas (g ∷ h ∷ []))

abbrev pub either : Formula → Formula → Formula
either g h = Or (formulas (g ∷ h ∷ []))

-- In `not p(X)` X is quantified inside, unless it occurs outside: in the head, or in a goal that
-- isn't parallel. In `( not p(X) ; q(X) )` the other occurrence is parallel.
abbrev pub NegationsQuantify : Type 0
NegationsQuantify =
    (scoped [] (Not (p (0 ∷ []))) ≡ Not (Exists (0 ∷ []) (p (0 ∷ []))))
    × (scoped (0 ∷ []) (Not (p (0 ∷ []))) ≡ Not (p (0 ∷ [])))
    × (scoped [] (both (q (0 ∷ [])) (Not (p (0 ∷ 1 ∷ []))))
    ≡ both (q (0 ∷ [])) (Not (Exists (1 ∷ []) (p (0 ∷ 1 ∷ [])))))
    × (scoped [] (either (Not (p (0 ∷ []))) (q (0 ∷ [])))
    ≡ either (Not (Exists (0 ∷ []) (p (0 ∷ [])))) (q (0 ∷ [])))
    × (scoped [] (Not (p (0 ∷ []))) ≢ Not (p (0 ∷ [])))

-- In `( if p(X) then q(X) else q(Y) )` X is quantified over condition and then part, and Y is not;
-- an X in the else part is parallel. A negation inside a condition takes no variable of the then
-- part.
abbrev pub ConditionsQuantify : Type 0
ConditionsQuantify =
    (scoped [] (If [] (p (0 ∷ [])) (q (0 ∷ [])) (q (1 ∷ [])))
    ≡ If (0 ∷ []) (p (0 ∷ [])) (q (0 ∷ [])) (q (1 ∷ [])))
    × (scoped [] (If [] (p (0 ∷ [])) (q (1 ∷ [])) (q (0 ∷ [])))
    ≡ If (0 ∷ []) (p (0 ∷ [])) (q (1 ∷ [])) (q (0 ∷ [])))
    × (scoped (0 ∷ []) (If [] (p (0 ∷ [])) (q (0 ∷ [])) (q (1 ∷ [])))
    ≡ If [] (p (0 ∷ [])) (q (0 ∷ [])) (q (1 ∷ [])))
    × (scoped [] (If [] (Not (p (0 ∷ []))) (q (0 ∷ [])) (q (1 ∷ [])))
    ≡ If (0 ∷ []) (Not (p (0 ∷ []))) (q (0 ∷ [])) (q (1 ∷ [])))
    × (scoped [] (If [] (p (0 ∷ [])) (q (1 ∷ [])) (q (1 ∷ [])))
    ≢ If (0 ∷ 1 ∷ []) (p (0 ∷ [])) (q (1 ∷ [])) (q (1 ∷ [])))

-- Scopes that are written out, and scopes that are not: a variable that is free in a negation or a
-- condition occurs outside it, and a quantified one does not, but in parallel goals.
abbrev pub ScopesAreWritten : Type 0
ScopesAreWritten =
    HasScopes [] [] (Not (Exists (0 ∷ []) (p (0 ∷ []))))
    × (HasScopes [] [] (Not (p (0 ∷ []))) → ⊥)
    × HasScopes (0 ∷ []) [] (Not (p (0 ∷ [])))
    × (HasScopes (0 ∷ []) [] (Not (Exists (0 ∷ []) (p (0 ∷ [])))) → ⊥)
    × HasScopes [] [] (either (Exists (0 ∷ []) (p (0 ∷ []))) (q (0 ∷ [])))
    × (HasScopes [] [] (both (Exists (0 ∷ []) (p (0 ∷ []))) (q (0 ∷ []))) → ⊥)
    × HasScopes [] [] (If (0 ∷ []) (p (0 ∷ [])) (q (0 ∷ [])) (q (0 ∷ [])))
    × (HasScopes [] [] (If [] (p (0 ∷ [])) (q (0 ∷ [])) (q (1 ∷ []))) → ⊥)

-- Legal goals with quantifiers inside quantifiers: X in the inner negation is its own, since the other
-- disjunct is parallel, and so it is where the disjunction is a condition.
abbrev pub ScopesInScopes : Type 0
ScopesInScopes =
    (scoped [] (Not (either (Not (p (0 ∷ []))) (q (0 ∷ []))))
    ≡ Not (Exists (0 ∷ []) (either (Not (Exists (0 ∷ []) (p (0 ∷ [])))) (q (0 ∷ [])))))
    × HasScopes [] []
    (Not (Exists (0 ∷ []) (either (Not (Exists (0 ∷ []) (p (0 ∷ [])))) (q (0 ∷ [])))))
    × (scoped [] (If [] (either (Not (p (0 ∷ []))) (q (0 ∷ []))) (q (1 ∷ [])) (q (1 ∷ [])))
    ≡ If (0 ∷ []) (either (Not (Exists (0 ∷ []) (p (0 ∷ [])))) (q (0 ∷ []))) (q (1 ∷ []))
    (q (1 ∷ [])))
    × HasScopes [] []
    (If (0 ∷ []) (either (Not (Exists (0 ∷ []) (p (0 ∷ [])))) (q (0 ∷ []))) (q (1 ∷ [])) (q (1 ∷ [])))
    × HasScopes [] [] (Exists (0 ∷ []) (Not (p (0 ∷ []))))
    × (HasScopes [] [] (Exists (1 ∷ []) (Not (p (0 ∷ [])))) → ⊥)

abbrev pub list_cell : Expression → Expression → Expression
list_cell head tail = made cell (expressions (head ∷ tail ∷ []))

-- `append([], Ys, Ys).` and `append([X | Xs], Ys, [X | Zs]) :- append(Xs, Ys, Zs).`
abbrev pub append_clauses : List ClauseForm
append_clauses =
    record {
      head = made nil no_expressions ∷ variable 0 ∷ variable 0 ∷ [];
      body = And (formulas []);
    }
    ∷ record {
      head =
          list_cell (variable 0) (variable 1) ∷ variable 2 ∷ list_cell (variable 0) (variable 3)
          ∷ [];
      body = call_of append (1 ∷ 2 ∷ 3 ∷ []);
    }
    ∷ []

-- The head variables are 0, 1 and 2. Ys is 1 itself in both clauses, and X, Xs and Zs are 3, 4 and
-- 5.
abbrev pub append_goal : F.Flat_goal
append_goal =
    F.Or (flats (
    F.And (flats (F.Made 0 nil [] ∷ F.Same 2 1 ∷ []))
    ∷ F.And
    (flats
    (F.Made 0 cell (3 ∷ 4 ∷ []) ∷ F.Made 2 cell (3 ∷ 5 ∷ []) ∷ F.Call append (4 ∷ 1 ∷ 5 ∷ [])
    ∷ []))
    ∷ []
    ))

-- one clause alone
abbrev pub only : List Expression → Formula → List ClauseForm
only head body = record { head = head; body = body } ∷ []

abbrev pub number : ℕ → Expression
number n = constant (int (pos n))

abbrev pub sum : Expression → Expression → Expression
sum a b = applied plus (expressions (a ∷ b ∷ []))

abbrev pub product : Expression → Expression → Expression
product a b = applied times (expressions (a ∷ b ∷ []))

abbrev pub NormalGoals : Type 0
NormalGoals =
    (normal_goal 3 append_clauses ≡ record { arity = 3; variables = 6; body = append_goal })
    -- `r(X, Y) :- Y = X + X * 2.`: the parts come before the atom, inner first
    × (normal_goal 2 (only (variable 0 ∷ variable 1 ∷ [])
    (Equal (variable 1) (sum (variable 0) (product (variable 0) (number 2)))))
    ≡ record {
      arity = 2;
      variables = 4;
      body = F.And (flats (F.Is 2 (int (pos 2)) ∷ F.Call times (0 ∷ 2 ∷ 3 ∷ [])
          ∷ F.Call plus (0 ∷ 3 ∷ 1 ∷ []) ∷ []));
    })
    -- `r(X) :- not p(X + 1), ( q(X) ; fail ).`: made variables are quantified around the
    -- conjunction that they stand in
    × (normal_goal 1 (only (variable 0 ∷ [])
    (both (Not (Call 0 (expressions (sum (variable 0) (number 1) ∷ []))))
    (either (q (0 ∷ [])) (Or (formulas [])))))
    ≡ record {
      arity = 1;
      variables = 3;
      body =
          F.And (flats (
          F.Not
          (F.Exists (1 ∷ 2 ∷ [])
          (F.And
          (flats
          (F.Is 1 (int (pos 1)) ∷ F.Call plus (0 ∷ 1 ∷ 2 ∷ []) ∷ F.Call 0 (2 ∷ [])
          ∷ []))))
          ∷ F.Or (flats (F.Call 1 (0 ∷ []) ∷ []))
          ∷ []
          ));
    })
    -- `r(X, X) :- true, ( if p(Y) then q(Y) else true ).`: a second X in the head is an equation,
    -- and `true` vanishes
    × (normal_goal 2 (only (variable 0 ∷ variable 0 ∷ [])
    (both (And (formulas [])) (If (1 ∷ []) (p (1 ∷ [])) (q (1 ∷ [])) (And (formulas [])))))
    ≡ record {
      arity = 2;
      variables = 3;
      body = F.And (flats (F.Same 1 0 ∷ F.If (2 ∷ []) (F.Call 0 (2 ∷ [])) (F.Call 1 (2 ∷ []))
          (F.And F.no_flat) ∷ []));
    })
    -- an equation of two terms that are no variables: the left one gets a variable
    × (normal_goal 0 (only [] (Equal (number 3) (sum (number 1) (number 2))))
    ≡ record {
      arity = 0;
      variables = 3;
      body = F.And (flats (F.Is 0 (int (pos 3)) ∷ F.Is 1 (int (pos 1)) ∷ F.Is 2 (int (pos 2))
          ∷ F.Call plus (1 ∷ 2 ∷ 0 ∷ []) ∷ []));
    })
    -- `r([X | Xs], X, Xs) :- true.`: X and Xs are met inside the first argument, so both others are
    -- equations
    × (normal_goal 3 (only
    (list_cell (variable 0) (variable 1) ∷ variable 0 ∷ variable 1 ∷ []) (And (formulas [])))
    ≡ record {
      arity = 3;
      variables = 5;
      body = F.And (flats (F.Made 0 cell (3 ∷ 4 ∷ []) ∷ F.Same 1 3 ∷ F.Same 2 4 ∷ []));
    })
    × ((normal_goal 2 (only (variable 0 ∷ variable 0 ∷ []) (p (0 ∷ [])))).body ≢ F.Call 0 (0 ∷ []))

-- the names of a query's variables
abbrev pub query_names : ℕ → List ℕ
query_names x = get_or (codes "X" ∷ codes "_Y" ∷ codes "Z" ∷ []) x []

-- A query's arguments: the free variables of its goal, once each, but for those whose names begin
-- with an underscore, which are quantified. In `p(X, _Y), q(X)` X is one; in `not p(X), q(Z)` Z
-- alone; in `( not p(X) ; q(X) )` X is one, since it is free in the second disjunct, and so the
-- negation doesn't quantify it; in `( not p(_Y) ; q(_Y) )` both are quantified.
abbrev pub QueriesAsk : Type 0
QueriesAsk =
    (query_clause query_names (both (p (0 ∷ 1 ∷ [])) (q (0 ∷ [])))
    ≡ record {
      head = variable 0 ∷ [];
      body = Exists (1 ∷ []) (both (p (0 ∷ 1 ∷ [])) (q (0 ∷ [])));
    })
    × (query_clause query_names (both (Not (p (0 ∷ []))) (q (2 ∷ [])))
    ≡ record {
      head = variable 2 ∷ [];
      body = both (Not (Exists (0 ∷ []) (p (0 ∷ [])))) (q (2 ∷ []));
    })
    × (query_clause query_names (either (Not (p (0 ∷ []))) (q (0 ∷ [])))
    ≡ record { head = variable 0 ∷ []; body = either (Not (p (0 ∷ []))) (q (0 ∷ [])) })
    × (query_clause query_names (either (Not (p (1 ∷ []))) (q (1 ∷ [])))
    ≡ record {
      head = [];
      body = Exists (1 ∷ []) (either (Not (Exists (1 ∷ []) (p (1 ∷ [])))) (q (1 ∷ [])));
    })
    × ((query_clause query_names (p (1 ∷ []))).head ≢ variable 1 ∷ [])

-- `r(A, 1) :- q(B).` with the types of A, B and of the variable that its goal makes for nothing:
-- head variables have the predicate's types and no names, B its own
abbrev pub typed_rule : TypedClause
typed_rule =
    record {
      clause = record { head = variable 0 ∷ constant (int (pos 1)) ∷ []; body = q (1 ∷ []) };
      variables = 2;
      types = char_type ∷ string_type ∷ [];
      names = codes "A" ∷ codes "B" ∷ [];
    }

abbrev pub NormalVariables : Type 0
NormalVariables =
    (normal_types (char_type ∷ int_type ∷ []) (typed_rule ∷ [])
    ≡ char_type ∷ int_type ∷ string_type ∷ [])
    × (normal_names (char_type ∷ int_type ∷ []) (typed_rule ∷ []) ≡ [] ∷ [] ∷ codes "B" ∷ [])
    × (normal_names (char_type ∷ int_type ∷ []) (typed_rule ∷ [])
    ≢ codes "A" ∷ [] ∷ codes "B" ∷ [])
