-- Clauses and their state variables written out, computed by the definition: for each sentence on the
-- versions one or two of them. `a(!S)` updates S, `b` doesn't; numbers are the versions.
use Rattle.std.specs.Prelude.{◌≡◌, ℕ, List, [], ◌∷◌, codes}
use Rattle.mc_term_data.specs.Plain.{PlainTerm, at, more_terms, Var}
use Rattle.mc_clause_syntax.specs.code.Written.{over, just, two, three, atom, sign, conj, disj, quantify, rule}
use Rattle.mc_state_variables.specs.Versions.{version}
use Rattle.mc_state_variables.specs.Numbered.{numbered_clause, numbered_goal}

-- `!S`, `!.S`, `!:S`
abbrev pub both : List ℕ → PlainTerm
both x = over (codes "!") (just (at (Var x) 1))

abbrev pub before : List ℕ → PlainTerm
before x = over (codes "!.") (just (at (Var x) 1))

abbrev pub after : List ℕ → PlainTerm
after x = over (codes "!:") (just (at (Var x) 1))

-- `a(!S)` and `a(!T)`, and `a` over two versions
abbrev pub updates_s : List ℕ → PlainTerm
updates_s w = over w (just (both (codes "S")))

abbrev pub updates_t : List ℕ → PlainTerm
updates_t w = over w (just (both (codes "T")))

abbrev pub step : List ℕ → ℕ → ℕ → PlainTerm
step w m n = over w (two (version m 1) (version n 1))

-- `a(!.S)`, and `a` over one version
abbrev pub reads_s : List ℕ → PlainTerm
reads_s w = over w (just (before (codes "S")))

abbrev pub look : List ℕ → ℕ → PlainTerm
look w n = over w (just (version n 1))

abbrev pub equation : ℕ → ℕ → PlainTerm
equation m n = sign (codes "=") (version m 1) (version n 1)

-- A body under the head `h(!S)`, and what it becomes: the first version is 0 and the last is 1.
abbrev pub becomes : PlainTerm → PlainTerm → Type 0
becomes b c =
    numbered_clause (rule (updates_s (codes "h")) b) ≡ rule (step (codes "h") 0 1) c

-- An atom: `!X` as an argument is the versions before and after; one of them in a term of it.
abbrev pub Atoms : Type 0
Atoms =
    becomes (updates_s (codes "a")) (step (codes "a") 0 1)
    × becomes
    (over (codes "a")
    (two (over (codes "f") (just (before (codes "S")))) (after (codes "S"))))
    (over (codes "a") (two (look (codes "f") 0) (version 1 1)))

-- A conjunction: the last goal that updates ends with the last version, an earlier one with a new one,
-- from which the next starts.
abbrev pub Conjunctions : Type 0
Conjunctions =
    becomes
    (conj (three (updates_s (codes "a")) (reads_s (codes "b")) (updates_s (codes "c"))))
    (conj (three (step (codes "a") 0 2) (look (codes "b") 2) (step (codes "c") 2 1)))
    × becomes
    (conj (three (updates_s (codes "a")) (updates_s (codes "b")) (reads_s (codes "c"))))
    (conj (three (step (codes "a") 0 2) (step (codes "b") 2 1) (look (codes "c") 1)))

-- A disjunction: each disjunct starts from the first and ends with the last version; one that doesn't
-- update ends with their equation, and so does an inner disjunction as a whole.
abbrev pub Disjunctions : Type 0
Disjunctions =
    becomes (disj (two (updates_s (codes "a")) (updates_s (codes "b"))))
    (disj (two (step (codes "a") 0 1) (step (codes "b") 0 1)))
    × becomes (disj (two (updates_s (codes "a")) (atom (codes "b"))))
    (disj (two (step (codes "a") 0 1) (conj (two (atom (codes "b")) (equation 1 0)))))
    × becomes
    (disj (two (updates_s (codes "a")) (disj (two (atom (codes "b")) (atom (codes "c"))))))
    (disj
    (two (step (codes "a") 0 1)
    (conj (two (disj (two (atom (codes "b")) (atom (codes "c")))) (equation 1 0)))))

-- `(C -> T ; E)` and `if C then T else E`
abbrev pub arrow : PlainTerm → PlainTerm → PlainTerm → PlainTerm
arrow c t e = disj (two (sign (codes "->") c t) e)

abbrev pub if_then_else : PlainTerm → PlainTerm → PlainTerm → PlainTerm
if_then_else c t e =
    sign (codes "else") (over (codes "if") (just (sign (codes "then") c t))) e

-- A conditional: the condition and the then part are one conjunction, and the else part starts from
-- the first version. Condition, then part and else part update; the condition alone; the else part
-- alone; a conditional behind a disjunct and before two.
abbrev pub Conditionals : Type 0
Conditionals =
    becomes (arrow (updates_s (codes "a")) (updates_s (codes "b")) (updates_s (codes "c")))
    (arrow (step (codes "a") 0 2) (step (codes "b") 2 1) (step (codes "c") 0 1))
    × becomes (if_then_else (updates_s (codes "a")) (atom (codes "b")) (atom (codes "c")))
    (arrow (step (codes "a") 0 2) (conj (two (atom (codes "b")) (equation 1 2)))
    (conj (two (atom (codes "c")) (equation 1 0))))
    × becomes (if_then_else (atom (codes "a")) (atom (codes "b")) (updates_s (codes "c")))
    (arrow (atom (codes "a")) (conj (two (atom (codes "b")) (equation 1 0)))
    (step (codes "c") 0 1))
    × becomes
    (disj
    (more_terms (updates_s (codes "a"))
    (three (sign (codes "->") (reads_s (codes "b")) (atom (codes "c"))) (reads_s (codes "d"))
    (updates_s (codes "e")))))
    (disj
    (two (step (codes "a") 0 1)
    (arrow (look (codes "b") 0) (conj (two (atom (codes "c")) (equation 1 0)))
    (disj (two (conj (two (look (codes "d") 0) (equation 1 0))) (step (codes "e") 0 1))))))

-- A condition that is quantified as a whole: T is the same in the then part, and ends there.
abbrev pub QuantifiedConditions : Type 0
QuantifiedConditions =
    becomes
    (arrow
    (quantify (codes "some") (just (both (codes "T")))
    (conj (two (updates_t (codes "a")) (updates_s (codes "b")))))
    (updates_t (codes "c")) (atom (codes "d")))
    (arrow
    (quantify (codes "some") (two (version 2 1) (version 3 1))
    (conj (two (step (codes "a") 2 5) (step (codes "b") 0 4))))
    (conj (two (step (codes "c") 5 3) (equation 1 4)))
    (conj (two (atom (codes "d")) (equation 1 0))))

-- A negation: what is updated in it ends with new versions, and isn't seen outside. A disequation is
-- the negation of an equation.
abbrev pub Negations : Type 0
Negations =
    becomes (conj (two (over (codes "not") (just (updates_s (codes "a")))) (updates_s (codes "b"))))
    (conj (two (over (codes "not") (just (step (codes "a") 0 2))) (step (codes "b") 0 1)))
    × becomes
    (over (codes "not") (just (conj (two (updates_s (codes "a")) (updates_s (codes "b"))))))
    (conj
    (two (over (codes "not") (just (conj (two (step (codes "a") 0 3) (step (codes "b") 3 2)))))
    (equation 1 0)))
    × becomes (sign (92 ∷ 61 ∷ []) (before (codes "S")) (after (codes "S")))
    (conj (two (sign (92 ∷ 61 ∷ []) (version 0 1) (version 2 1)) (equation 1 0)))

-- An implication `A => B` is the negation of `A, not B`; `A <= B` is `B => A`, and `A <=> B` is both.
abbrev pub Implications : Type 0
Implications =
    becomes (sign (codes "=>") (updates_s (codes "a")) (updates_s (codes "b")))
    (conj (two (sign (codes "=>") (step (codes "a") 0 2) (step (codes "b") 2 3)) (equation 1 0)))
    × becomes (sign (codes "<=") (updates_s (codes "a")) (updates_s (codes "b")))
    (conj (two (sign (codes "=>") (step (codes "b") 0 2) (step (codes "a") 2 3)) (equation 1 0)))
    × becomes (sign (codes "<=>") (updates_s (codes "a")) (updates_s (codes "b")))
    (conj
    (three (sign (codes "=>") (step (codes "a") 0 2) (step (codes "b") 2 3))
    (sign (codes "=>") (step (codes "b") 0 4) (step (codes "a") 4 5)) (equation 1 0)))

-- A head: its versions are the first and the last, and a body that doesn't update ends with their
-- equation. A fact gets the equations as its body; without state variables it stays as it is. The
-- head of a function's clause.
abbrev pub Heads : Type 0
Heads =
    becomes (atom (codes "b")) (conj (two (atom (codes "b")) (equation 1 0)))
    × (numbered_clause (rule (reads_s (codes "h")) (atom (codes "b")))
    ≡ rule (look (codes "h") 0) (conj (two (atom (codes "b")) (equation 1 0))))
    × (numbered_clause (updates_s (codes "h")) ≡ rule (step (codes "h") 0 1) (equation 1 0))
    × (numbered_clause (over (codes "h") (two (both (codes "T")) (both (codes "S"))))
    ≡ rule
    (over (codes "h")
    (more_terms (version 0 1) (three (version 1 1) (version 2 1) (version 3 1))))
    (conj (two (equation 1 0) (equation 3 2))))
    × (numbered_clause (look (codes "h") 7) ≡ look (codes "h") 7)
    × (numbered_clause (sign (codes "=") (reads_s (codes "f")) (after (codes "S")))
    ≡ rule (sign (codes "=") (look (codes "f") 0) (version 1 1)) (equation 1 0))

-- A quantifier begins a new state variable, also where one of its name is in scope; its list names the
-- version before, and that after where its goal updates it. Under `all` that is never seen. Of two
-- state variables the equation of the head's comes first.
abbrev pub Quantifiers : Type 0
Quantifiers =
    (numbered_goal
    (quantify (codes "some") (just (both (codes "T")))
    (conj (two (updates_t (codes "a")) (updates_t (codes "b")))))
    ≡ quantify (codes "some") (two (version 0 1) (version 1 1))
    (conj (two (step (codes "a") 0 2) (step (codes "b") 2 1))))
    × becomes (quantify (codes "some") (just (both (codes "S"))) (updates_s (codes "a")))
    (conj
    (two (quantify (codes "some") (two (version 2 1) (version 3 1)) (step (codes "a") 2 3))
    (equation 1 0)))
    × becomes (quantify (codes "some") (just (both (codes "T"))) (updates_s (codes "a")))
    (quantify (codes "some") (just (version 2 1)) (step (codes "a") 0 1))
    × becomes
    (quantify (codes "some") (just (both (codes "T")))
    (disj (two (atom (codes "b")) (conj (two (updates_t (codes "a")) (updates_s (codes "a")))))))
    (quantify (codes "some") (two (version 2 1) (version 3 1))
    (disj
    (two (conj (three (atom (codes "b")) (equation 1 0) (equation 3 2)))
    (conj (two (step (codes "a") 2 3) (step (codes "a") 0 1))))))
    × (numbered_goal (quantify (codes "all") (just (both (codes "T"))) (updates_t (codes "a")))
    ≡ quantify (codes "all") (just (version 0 1)) (step (codes "a") 0 2))
