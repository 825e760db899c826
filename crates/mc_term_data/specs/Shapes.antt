-- What terms are asked for: names without qualifiers, how many parts there are, operands.
use Rattle.std.specs.Prelude.{Bool, ℕ, true, false, List, [], ◌∷◌, Option, Some, None, if◌then◌else◌}
use Rattle.std.specs.Str.{bytes_eq}
use Rattle.mc_term_data.specs.Plain.{PlainTerm, PlainTerms, at, no_term, more_terms, Var, App}

-- a name without qualifiers, by the parts of a name
abbrev pub word : List (List ℕ) → Option (List ℕ)
word (w ∷ []) = Some w
word _ = None

abbrev pub is_word : List (List ℕ) → Bool
is_word (w ∷ []) = true
is_word _ = false

-- this name, without qualifiers
abbrev pub is_the_word : List ℕ → List (List ℕ) → Bool
is_the_word name (w ∷ []) = bytes_eq w name
is_the_word name _ = false

-- no terms
abbrev pub has_none : PlainTerms → Bool
has_none no_term = true
has_none _ = false

-- one term
abbrev pub has_one : PlainTerms → Bool
has_one (more_terms t no_term) = true
has_one _ = false

-- the one term that these are
abbrev pub one : PlainTerms → Option PlainTerm
one (more_terms t no_term) = Some t
one _ = None

-- the two terms that these are
abbrev pub two : PlainTerms → Option (PlainTerm × PlainTerm)
two (more_terms a (more_terms b no_term)) = Some (a, b)
two _ = None

-- the name of a variable
abbrev pub variable : PlainTerm → Option (List ℕ)
variable (at (Var x) l) = Some x
variable _ = None

-- a name without qualifiers and arguments
abbrev pub constant : PlainTerm → Option (List ℕ)
constant (at (App w ts) l) = if has_none ts then word w else None
constant _ = None

-- The two parts of this name, which has no qualifiers: of an operator, the operands.
abbrev pub operands : List ℕ → PlainTerm → Option (PlainTerm × PlainTerm)
operands name (at (App w ts) l) = if is_the_word name w then two ts else None
operands name _ = None
