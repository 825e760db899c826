-- How many arguments a name may have, and how many variables a clause (this project's profile).
use Rattle.std.specs.Prelude.{ℕ, ◌+◌, Bool, false, nat_lt, ◌&&◌, ◌||◌, List, [], ◌∷◌, ◌++◌, codes, if◌then◌else◌}
use Rattle.std.specs.Str.{bytes_eq}
use Rattle.std.specs.Set.{distinct_count}
use Rattle.mc_term_data.specs.Plain.{PlainTerm, PlainTerms, at, no_term, more_terms, Var, App, Items, Tailed, Conj, Disj}
use Rattle.mc_clause_syntax.specs.StateVariables.{state, both_versions}

abbrev pub greatest_arguments : ℕ
greatest_arguments = 255

abbrev pub greatest_variables : ℕ
greatest_variables = 4096

-- How many arguments a term counts as where it is one. In a clause both versions of a state
-- variable count as two.
abbrev pub width : (in_clause : Bool) → PlainTerm → ℕ
width in_clause (at (App w ts) l) = if in_clause && both_versions (state w ts) then 2 else 1
width in_clause _ = 1

abbrev pub argument_count : (in_clause : Bool) → PlainTerms → ℕ
argument_count in_clause no_term = 0
argument_count in_clause (more_terms t ts) = width in_clause t + argument_count in_clause ts

abbrev mutual
  -- whether a name in a term has too many arguments
  pub too_many_arguments : (in_clause : Bool) → PlainTerm → Bool
  too_many_arguments in_clause (at (App w ts) l) =
      nat_lt greatest_arguments (argument_count in_clause ts) || any_too_many in_clause ts
  too_many_arguments in_clause (at (Items ts) l) = any_too_many in_clause ts
  too_many_arguments in_clause (at (Tailed ts t) l) =
      any_too_many in_clause ts || too_many_arguments in_clause t
  too_many_arguments in_clause (at (Conj ts) l) = any_too_many in_clause ts
  too_many_arguments in_clause (at (Disj ts) l) = any_too_many in_clause ts
  too_many_arguments in_clause _ = false

  pub any_too_many : (in_clause : Bool) → PlainTerms → Bool
  any_too_many in_clause no_term = false
  any_too_many in_clause (more_terms t ts) =
      too_many_arguments in_clause t || any_too_many in_clause ts

abbrev mutual
  -- the names of the variables in a term, as often as they occur; a state variable's versions have
  -- one name
  pub variables : PlainTerm → List (List ℕ)
  variables (at (Var x) l) = x ∷ []
  variables (at (App w ts) l) = all_variables ts
  variables (at (Items ts) l) = all_variables ts
  variables (at (Tailed ts t) l) = all_variables ts ++ variables t
  variables (at (Conj ts) l) = all_variables ts
  variables (at (Disj ts) l) = all_variables ts
  variables _ = []

  pub all_variables : PlainTerms → List (List ℕ)
  all_variables no_term = []
  all_variables (more_terms t ts) = variables t ++ all_variables ts

abbrev pub is_anonymous : List ℕ → Bool
is_anonymous x = bytes_eq x (codes "_")

-- how many these are that have no name
abbrev pub anonymous : List (List ℕ) → ℕ
anonymous [] = 0
anonymous (x ∷ xs) = (if is_anonymous x then 1 else 0) + anonymous xs

-- those that have a name
abbrev pub with_name : List (List ℕ) → List (List ℕ)
with_name [] = []
with_name (x ∷ xs) = if is_anonymous x then with_name xs else x ∷ with_name xs

-- each `_` is a variable of its own
abbrev pub variable_count : PlainTerm → ℕ
variable_count t = anonymous (variables t) + distinct_count bytes_eq (with_name (variables t))

abbrev pub too_many_variables : PlainTerm → Bool
too_many_variables t = nat_lt greatest_variables (variable_count t)
