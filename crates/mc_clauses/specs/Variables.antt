-- The variables of a clause, numbered in the order in which they are met. (Mercury Language Reference
-- Manual: Syntax, variables; Goals, quantification.)
use Rattle.std.specs.Prelude.{ℕ, List, [], ◌∷◌, ◌++◌, length, Option, Some, None, if◌then◌else◌}
use Rattle.mc_term_data.specs.Plain.{PlainTerm, PlainTerms, at, no_term, more_terms, Var, Items}
use Rattle.mc_clause_syntax.specs.Limits.{is_anonymous}
use Rattle.mc_names.specs.Numbers.{number_of}

-- names with the numbers of the variables that they mean, the innermost first
abbrev pub Numbers : Type 0
Numbers = List (List ℕ × ℕ)

-- What was met of a clause: the variables that no quantifier names, and the names of all variables by
-- their numbers.
pub record Met : Type 0 where
  pub free : Numbers
  pub names : List (List ℕ)

abbrev pub nothing_met : Met
nothing_met = record { free = []; names = [] }

-- one variable more of this name
abbrev pub named : List ℕ → Met → Met
named x m = record { free = m.free; names = m.names ++ x ∷ [] }

-- one variable more, which the name means wherever no quantifier names it
abbrev pub named_freely : List ℕ → Met → Met
named_freely x m =
    record { free = (x, length m.names) ∷ m.free; names = m.names ++ x ∷ [] }

abbrev pub known_or_new : Option ℕ → List ℕ → Met → ℕ × Met
known_or_new (Some n) x m = (n, m)
known_or_new None x m = (length m.names, named_freely x m)

-- The variable that a name means under quantifiers. Each `_` is a variable of its own.
abbrev pub variable_of : (quantified : Numbers) → List ℕ → Met → ℕ × Met
variable_of q x m =
    if is_anonymous x then (length m.names, named x m)
    else known_or_new (number_of (q ++ m.free) x) x m

-- A QUANTIFIER names variables of its own: another one than that of the same name outside it.

-- the variables of a quantifier's list, what their names mean under it, and what was met then
pub record Quantified : Type 0 where
  pub vars : List ℕ
  pub numbers : Numbers
  pub met : Met

abbrev pub one_quantified : PlainTerm → Quantified → Quantified
one_quantified (at (Var x) line) q =
    record {
      vars = q.vars ++ length q.met.names ∷ [];
      numbers = (x, length q.met.names) ∷ q.numbers;
      met = named x q.met;
    }
one_quantified _ q = q

abbrev pub all_quantified : PlainTerms → Quantified → Quantified
all_quantified no_term q = q
all_quantified (more_terms t ts) q = all_quantified ts (one_quantified t q)

abbrev pub listed : PlainTerm → PlainTerms
listed (at (Items ts) line) = ts
listed _ = no_term

abbrev pub quantified_by : (list : PlainTerm) → Numbers → Met → Quantified
quantified_by list q m =
    all_quantified (listed list) (record { vars = []; numbers = q; met = m })
