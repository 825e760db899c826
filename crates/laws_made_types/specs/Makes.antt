-- Which occurrences of names, numbers and texts in a clause have a variable of their own in its normal
-- goal: a flag for each, in the order of the walk. (This project's profile: the walk, and its normal
-- form.)
use Rattle.std.specs.Prelude.{Bool, true, false, List, [], ◌∷◌, ◌++◌}
use Rattle.mc_accepted.specs.Resolving.{Unresolved, any_variable, any_number, any_text, any_name, Unresolved_terms, no_terms, term_then, Unresolved_goal, equation, atom, all_of, one_of, choice, negation, exists, Unresolved_goals, no_goals, goal_then, Unresolved_clause}

-- each occurrence in a term that becomes a variable has one
abbrev mutual
  pub makes_term : Unresolved → List Bool
  makes_term (any_variable v) = []
  makes_term (any_number n) = true ∷ []
  makes_term (any_text bytes) = true ∷ []
  makes_term (any_name cs args) = makes_terms args ++ true ∷ []

  pub makes_terms : Unresolved_terms → List Bool
  makes_terms no_terms = []
  makes_terms (term_then e es) = makes_term e ++ makes_terms es

-- a term that is equated with a variable has none for the whole
abbrev pub makes_parts : Unresolved → List Bool
makes_parts (any_variable v) = []
makes_parts (any_number n) = false ∷ []
makes_parts (any_text bytes) = false ∷ []
makes_parts (any_name cs args) = makes_terms args ++ false ∷ []

-- where neither side of an equation is a variable, the left side has one
abbrev pub makes_equation : Unresolved → Unresolved → List Bool
makes_equation (any_variable v) b = makes_parts b
makes_equation a (any_variable v) = makes_parts a
makes_equation a b = makes_term a ++ makes_parts b

abbrev mutual
  pub makes_goal : Unresolved_goal → List Bool
  makes_goal (equation a b) = makes_equation a b
  makes_goal (atom cs args) = makes_terms args
  makes_goal (all_of gs) = makes_goals gs
  makes_goal (one_of gs) = makes_goals gs
  makes_goal (choice vs c t e) = makes_goal c ++ (makes_goal t ++ makes_goal e)
  makes_goal (negation g) = makes_goal g
  makes_goal (exists vs g) = makes_goal g

  pub makes_goals : Unresolved_goals → List Bool
  makes_goals no_goals = []
  makes_goals (goal_then g gs) = makes_goal g ++ makes_goals gs

-- the arguments of a head are equated with the head variables
abbrev pub makes_head : Unresolved_terms → List Bool
makes_head no_terms = []
makes_head (term_then e es) = makes_parts e ++ makes_head es

abbrev pub makes : Unresolved_clause → List Bool
makes clause = makes_head clause.head ++ makes_goal clause.body

-- those of some things whose flag is set
abbrev pub kept : {A : Type 0} → List Bool → List A → List A
kept [] xs = []
kept (b ∷ bs) [] = []
kept (true ∷ bs) (x ∷ xs) = x ∷ kept bs xs
kept (false ∷ bs) (x ∷ xs) = kept bs xs
