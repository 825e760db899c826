-- Look-ups by a name and the number of its parts.
use Rattle.std.specs.Prelude.{ℕ, nat_eq, ◌&&◌, ◌+◌, List, [], ◌∷◌, Option, Some, None, bytes_eq, if◌then◌else◌}
use Rattle.mc_term_data.specs.Plain.{PlainTerms, no_term, more_terms}

-- how many terms these are
abbrev pub count : PlainTerms → ℕ
count no_term = 0
count (more_terms t ts) = 1 + count ts

-- a row of a table: a name over a number of parts, and what the table says of it
pub record Row (A : Type 0) : Type 0 where
  pub name : List ℕ
  pub arity : ℕ
  pub entry : A

abbrev pub row : {A : Type 0} → List ℕ → ℕ → A → Row A
row w n x = record { name = w; arity = n; entry = x }

-- what a table says of a name over a number of parts
abbrev pub found : {A : Type 0} → List (Row A) → List ℕ → ℕ → Option A
found [] w n = None
found (r ∷ rs) w n = if nat_eq n r.arity && bytes_eq r.name w then Some r.entry else found rs w n
