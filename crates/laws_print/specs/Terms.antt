-- The term that a value is written as. (Mercury Language Reference Manual, chapter Syntax: Terms;
-- this project's profile of printed text.)
use Rattle.std.specs.Prelude.{ℕ, ℤ, pos, negsuc, ◌+◌, ◌<◌, ◌^◌, ◌≡◌, max, true, nat_eq, List, [], ◌∷◌, codes, encode_utf8, IsUtf8, ⊤, if◌then◌else◌}
use Rattle.std.specs.Cmp.Lexicographic.{pointwise}
use lib.Utf8.{scalar}
use Rattle.mc_program.specs.Values.{Val, int, char, str, con, state, Vals, no_vals, val_then}
use Rattle.mc_program.specs.Printed.{name_at, is_nil}
use Rattle.mc_term_data.specs.Plain.{PlainTerm, PlainNode, PlainTerms, at, Var, Int, Str, App, Items, Tailed, Conj, Disj, no_term, more_terms}

-- A list from its first element and the term of its tail: a list goes on with its elements, and any
-- other term stands behind the bar.
abbrev pub cell : PlainTerm → PlainTerm → PlainNode
cell first (at (Items ts) line) = Items (more_terms first ts)
cell first (at (Tailed ts tail) line) = Tailed (more_terms first ts) tail
cell first tail = Tailed (more_terms first no_term) tail

-- A constructor over its arguments: `[]` alone and `[|]` over two are lists, and any other is its
-- name over them.
abbrev pub applied : List ℕ → PlainTerms → PlainNode
applied name no_term = if is_nil name then Items no_term else App (name ∷ []) no_term
applied name (more_terms first (more_terms tail no_term)) =
    if pointwise nat_eq name (codes "[|]") then cell first tail
    else App (name ∷ []) (more_terms first (more_terms tail no_term))
applied name ts = App (name ∷ []) ts

module _ (names : List (List ℕ)) (line : ℕ) where
  abbrev mutual
    -- The term of a value on a line, by the names of the symbols. A character is a name, that of
    -- its bytes in UTF-8. A state of io, which has no term of its own, is written as the name
    -- `state`.
    pub term_of : Val → PlainTerm
    term_of (int n) = at (Int n) line
    term_of (char c) = at (App (encode_utf8 c ∷ []) no_term) line
    term_of (str bytes) = at (Str bytes) line
    term_of (con symbol args) = at (applied (name_at names symbol) (terms_of args)) line
    term_of (state written taken) = at (App (codes "state" ∷ []) no_term) line

    pub terms_of : Vals → PlainTerms
    terms_of no_vals = no_term
    terms_of (val_then v vs) = more_terms (term_of v) (terms_of vs)

-- an integer of 64 bits
abbrev pub Is64 : ℤ → Type 0
Is64 (pos n) = n < 2 ^ 63
Is64 (negsuc n) = n < 2 ^ 63

abbrev mutual
  -- Integers are of 64 bits, characters are scalar values, and strings and the names of
  -- constructors are UTF-8.
  pub HasText : List (List ℕ) → Val → Type 0
  HasText names (int n) = Is64 n
  HasText names (char c) = scalar c ≡ true
  HasText names (str bytes) = IsUtf8 bytes
  HasText names (con symbol args) = IsUtf8 (name_at names symbol) × AllHaveText names args
  HasText names (state written taken) = ⊤

  pub AllHaveText : List (List ℕ) → Vals → Type 0
  AllHaveText names no_vals = ⊤
  AllHaveText names (val_then v vs) = HasText names v × AllHaveText names vs

abbrev mutual
  -- How deep a term is: a leaf has 1, and any other term one more than its deepest part.
  pub depth_of : PlainTerm → ℕ
  depth_of (at n line) = node_depth n

  pub node_depth : PlainNode → ℕ
  node_depth (Var w) = 1
  node_depth (Int n) = 1
  node_depth (Str s) = 1
  node_depth (App w ts) = 1 + deepest ts
  node_depth (Items ts) = 1 + deepest ts
  node_depth (Tailed ts t) = 1 + max (deepest ts) (depth_of t)
  node_depth (Conj ts) = 1 + deepest ts
  node_depth (Disj ts) = 1 + deepest ts

  pub deepest : PlainTerms → ℕ
  deepest no_term = 0
  deepest (more_terms t ts) = max (depth_of t) (deepest ts)

abbrev mutual
  -- How deep a value is: a value without arguments has 1, and any other one more than its deepest
  -- argument, so a list has one more than its tail.
  pub levels : Val → ℕ
  levels (int n) = 1
  levels (char c) = 1
  levels (str bytes) = 1
  levels (con symbol args) = 1 + most_levels args
  levels (state written taken) = 1

  pub most_levels : Vals → ℕ
  most_levels no_vals = 0
  most_levels (val_then v vs) = max (levels v) (most_levels vs)
