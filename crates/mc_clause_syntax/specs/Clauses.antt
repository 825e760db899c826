-- The forms of clauses, and of the goal of a query (the Mercury manual: Clauses; State variables).
use Rattle.std.specs.Prelude.{ℕ, Bool, false, not, nat_le, ◌&&◌, List, [], ◌∷◌, Option, Some, None, codes}
use Rattle.mc_term_data.specs.Plain.{PlainTerm, at, App}
use Rattle.mc_term_data.specs.Shapes.{operands}
use Rattle.mc_clause_syntax.specs.declared.goal_form.GoalContext.TheVariants.{Whole}
use Rattle.mc_clause_syntax.specs.StateVariables.{is_state}
use Rattle.mc_clause_syntax.specs.Goals.{is_goal, equivalences}
use Rattle.mc_clause_syntax.specs.States.{states_of, placed, goal_placed}

-- at most eight equivalences stand inside one another
abbrev pub greatest_equivalences : ℕ
greatest_equivalences = 8

-- A body under a head, or the goal of a query: the names of state variables that the head gives are
-- in scope.
abbrev pub is_body : List (List ℕ) → PlainTerm → Bool
is_body scope t =
    is_goal Whole t && nat_le (equivalences t) greatest_equivalences && goal_placed scope t

-- a name without qualifiers, over any arguments
abbrev pub is_headed : PlainTerm → Bool
is_headed (at (App (w ∷ []) ts) l) = not (is_state (w ∷ []) ts)
is_headed _ = false

-- The head of a predicate's clause, `p(..)`, or of a function's, `f(..) = R`, by the sides of the
-- latter. Each state variable in it is in scope.
abbrev pub is_head_of : List (List ℕ) → PlainTerm → Option (PlainTerm × PlainTerm) → Bool
is_head_of scope t None = is_headed t && placed scope false t
is_head_of scope t (Some (f, r)) = is_headed f && placed scope false f && placed scope false r

abbrev pub is_head : List (List ℕ) → PlainTerm → Bool
is_head scope t = is_head_of scope t (operands (codes "=") t)

-- a clause without a body
abbrev pub is_fact : PlainTerm → Bool
is_fact h = is_head (states_of h) h

-- a clause with a body
abbrev pub is_rule : PlainTerm → PlainTerm → Bool
is_rule h b = is_head (states_of h) h && is_body (states_of h) b

-- a clause, by its head and its body where it has one
abbrev pub is_clause_of : PlainTerm → Option (PlainTerm × PlainTerm) → Bool
is_clause_of t None = is_fact t
is_clause_of t (Some (h, b)) = is_rule h b

abbrev pub is_clause : PlainTerm → Bool
is_clause t = is_clause_of t (operands (codes ":-") t)

-- the goal of a query
abbrev pub is_query : PlainTerm → Bool
is_query t = is_body [] t
