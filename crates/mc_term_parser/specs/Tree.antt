-- Terms as they are read: with their brackets, and with the line of each term's first token.
use Rattle.std.specs.Prelude.{ℕ, zero, suc, ℤ, pos, negsuc, ◌+◌, ◌^◌, max, nat_lt, nat_le, List, [], ◌∷◌, Option, Some, None, if◌then◌else◌}
use Rattle.mc_term_data.specs.Plain as P
use Rattle.mc_term_data.specs.Plain.{PlainTerm, PlainTerms, at, no_term, more_terms}

mutual
  pub data Tree : Type 0 where
    Var : (line : ℕ) → (name : List ℕ) → Tree
    Int : (line value : ℕ) → Tree
    -- a number directly behind a minus sign
    Neg : (line value : ℕ) → Tree
    Str : (line : ℕ) → (bytes : List ℕ) → Tree
    -- a name, by its parts, over arguments
    App : (line : ℕ) → (name : List (List ℕ)) → Trees → Tree
    Items : (line : ℕ) → Trees → Tree
    -- a list with what follows its bar
    Tailed : (line : ℕ) → Trees → Tree → Tree
    Conj : (line : ℕ) → Trees → Tree
    Disj : (line : ℕ) → Trees → Tree
    -- a term in brackets
    Inside : (line : ℕ) → Tree → Tree

  pub data Trees : Type 0 where
    no_tree : Trees
    more_trees : Tree → Trees → Trees

abbrev pub trees : List Tree → Trees
trees [] = no_tree
trees (t ∷ ts) = more_trees t (trees ts)

-- the line of a term's first token
abbrev pub line_of : Tree → ℕ
line_of (Var l w) = l
line_of (Int l n) = l
line_of (Neg l n) = l
line_of (Str l s) = l
line_of (App l w ts) = l
line_of (Items l ts) = l
line_of (Tailed l ts t) = l
line_of (Conj l ts) = l
line_of (Disj l ts) = l
line_of (Inside l t) = l

abbrev mutual
  -- How deep a term is: a leaf has 1, a term in brackets one more than its inside, and any other
  -- term one more than its deepest part; a whole conjunction and a whole disjunction are one term.
  pub depth : Tree → ℕ
  depth (Var l w) = 1
  depth (Int l n) = 1
  depth (Neg l n) = 1
  depth (Str l s) = 1
  depth (App l w ts) = 1 + deepest ts
  depth (Items l ts) = 1 + deepest ts
  depth (Tailed l ts t) = 1 + max (deepest ts) (depth t)
  depth (Conj l ts) = 1 + deepest ts
  depth (Disj l ts) = 1 + deepest ts
  depth (Inside l t) = 1 + depth t

  pub deepest : Trees → ℕ
  deepest no_tree = 0
  deepest (more_trees t ts) = max (depth t) (deepest ts)

abbrev pub or_else : Option ℕ → Option ℕ → Option ℕ
or_else None b = b
or_else (Some l) b = Some l

abbrev mutual
  -- The line of the first number that 64 bits don't hold: 2^63, where no minus sign stands before
  -- it. (A literal is at most 2^63.)
  pub too_large : Tree → Option ℕ
  too_large (Var l w) = None
  too_large (Int l n) = if nat_lt n (2 ^ 63) then None else Some l
  too_large (Neg l n) = if nat_le n (2 ^ 63) then None else Some l
  too_large (Str l s) = None
  too_large (App l w ts) = first_large ts
  too_large (Items l ts) = first_large ts
  too_large (Tailed l ts t) = or_else (first_large ts) (too_large t)
  too_large (Conj l ts) = first_large ts
  too_large (Disj l ts) = first_large ts
  too_large (Inside l t) = too_large t

  pub first_large : Trees → Option ℕ
  first_large no_tree = None
  first_large (more_trees t ts) = or_else (too_large t) (first_large ts)

abbrev pub minus : ℕ → ℤ
minus zero = pos 0
minus (suc n) = negsuc n

-- the same term at another line
abbrev pub moved : ℕ → PlainTerm → PlainTerm
moved l (at n k) = at n l

abbrev mutual
  -- the term, which keeps no brackets
  pub term : Tree → PlainTerm
  term (Var l w) = at (P.Var w) l
  term (Int l n) = at (P.Int (pos n)) l
  term (Neg l n) = at (P.Int (minus n)) l
  term (Str l s) = at (P.Str s) l
  term (App l w ts) = at (P.App w (terms ts)) l
  term (Items l ts) = at (P.Items (terms ts)) l
  term (Tailed l ts t) = at (P.Tailed (terms ts) (term t)) l
  term (Conj l ts) = at (P.Conj (terms ts)) l
  term (Disj l ts) = at (P.Disj (terms ts)) l
  term (Inside l t) = moved l (term t)

  pub terms : Trees → PlainTerms
  terms no_tree = no_term
  terms (more_trees t ts) = more_terms (term t) (terms ts)
