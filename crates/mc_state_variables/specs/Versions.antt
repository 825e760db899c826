-- The versions of state variables. (Mercury Language Reference Manual: State variables.)
use Rattle.std.specs.Prelude.{ℕ, suc, not, ◌&&◌, List, [], ◌∷◌, ◌++◌, decimal, if◌then◌else◌}
use Rattle.std.specs.Str.{bytes_eq}
use Rattle.mc_term_data.specs.Plain.{PlainTerm, PlainTerms, at, no_term, more_terms, Var, App, Conj}
use Rattle.mc_clause_syntax.specs.States.{in_scope}
use Rattle.mc_state_variables.specs.Updates.{leave_out}

-- A state variable in scope: the numbers of the versions from which a goal starts and with which it
-- must end.
pub record Held : Type 0 where
  pub name : List ℕ
  pub before : ℕ
  pub after : ℕ

-- a version is a variable, whose name no token has: an exclamation mark and the version's number
abbrev pub version : (number line : ℕ) → PlainTerm
version n l = at (Var (33 ∷ decimal n)) l

abbrev pub before_of : List ℕ → List Held → ℕ
before_of x [] = 0
before_of x (h ∷ hs) = if bytes_eq h.name x then h.before else before_of x hs

abbrev pub after_of : List ℕ → List Held → ℕ
after_of x [] = 0
after_of x (h ∷ hs) = if bytes_eq h.name x then h.after else after_of x hs

-- those whose names aren't among these
abbrev pub unnamed : List (List ℕ) → List Held → List Held
unnamed xs [] = []
unnamed xs (h ∷ hs) = if in_scope xs h.name then unnamed xs hs else h ∷ unnamed xs hs

-- each name once
abbrev pub distinct : List (List ℕ) → List (List ℕ)
distinct [] = []
distinct (x ∷ xs) = x ∷ leave_out (x ∷ []) (distinct xs)

-- new state variables, with two numbers each from this one on
abbrev pub begun : ℕ → List (List ℕ) → List Held
begun n [] = []
begun n (x ∷ xs) = record { name = x; before = n; after = suc n } ∷ begun (suc (suc n)) xs

-- the first number behind those
abbrev pub behind : ℕ → List (List ℕ) → ℕ
behind n [] = n
behind n (x ∷ xs) = behind (suc (suc n)) xs

-- under a quantifier of these names, whose state variables begin anew and hide those of their names
abbrev pub entered : List (List ℕ) → ℕ → List Held → List Held
entered xs n hs = unnamed xs hs ++ begun n (distinct xs)

abbrev pub entered_behind : List (List ℕ) → ℕ → ℕ
entered_behind xs n = behind n (distinct xs)

-- a goal ends with new versions of these, from this number on
abbrev pub renewed : List (List ℕ) → ℕ → List Held → List Held
renewed xs n [] = []
renewed xs n (h ∷ hs) =
    if in_scope xs h.name
    then record { name = h.name; before = h.before; after = n } ∷ renewed xs (suc n) hs
    else h ∷ renewed xs n hs

-- the first number behind those
abbrev pub renewed_behind : List (List ℕ) → ℕ → List Held → ℕ
renewed_behind xs n [] = n
renewed_behind xs n (h ∷ hs) =
    if in_scope xs h.name then renewed_behind xs (suc n) hs else renewed_behind xs n hs

-- Behind a goal that updates these, what it was given being known, the next goal starts from the
-- versions with which that one ends; what the whole must end with stays.
abbrev pub handed : List (List ℕ) → (given whole : List Held) → List Held
handed xs [] hs = hs
handed xs (g ∷ gs) [] = []
handed xs (g ∷ gs) (h ∷ hs) =
    record {
      name = h.name;
      before = (if in_scope xs h.name then g.after else h.before);
      after = h.after;
    } ∷ handed xs gs hs

-- what is reached behind a condition, as seen outside what it quantifies
abbrev pub seen_outside : (hidden : List (List ℕ)) → (reached whole : List Held) → List Held
seen_outside xs rs [] = []
seen_outside xs rs (h ∷ hs) =
    record {
      name = h.name;
      before = (if in_scope xs h.name then h.before else before_of h.name rs);
      after = h.after;
    } ∷ seen_outside xs rs hs

-- the equation of the version after with that before
abbrev pub closing : (line : ℕ) → Held → PlainTerm
closing l h =
    at
    (App ((61 ∷ []) ∷ [])
    (more_terms (version h.after l) (more_terms (version h.before l) no_term)))
    l

-- the equations of these, as far as they aren't updated
abbrev pub closings : (wanted updated : List (List ℕ)) → (line : ℕ) → List Held → PlainTerms
closings xs us l [] = no_term
closings xs us l (h ∷ hs) =
    if in_scope xs h.name && not (in_scope us h.name)
    then more_terms (closing l h) (closings xs us l hs)
    else closings xs us l hs

abbrev pub followed_by : PlainTerms → PlainTerms → PlainTerms
followed_by no_term us = us
followed_by (more_terms t ts) us = more_terms t (followed_by ts us)

-- a goal with these behind it
abbrev pub and_then : PlainTerm → PlainTerms → PlainTerm
and_then t no_term = t
and_then (at (Conj ts) l) us = at (Conj (followed_by ts us)) l
and_then (at n l) us = at (Conj (more_terms (at n l) us)) l
