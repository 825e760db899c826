-- The variables of goals before names are resolved, and quantifiers that name variables of their
-- own. (Mercury Language Reference Manual: Syntax, variables; Goals, quantification.)
use Rattle.std.specs.Prelude.{ℕ, List, [], ◌∷◌, ◌++◌}
use Rattle.mc_model.specs.Lists.{Apart}
use Rattle.mc_accepted.specs.Resolving.{Unresolved, any_variable, any_number, any_text, any_name, Unresolved_terms, no_terms, term_then, Unresolved_goal, equation, atom, all_of, one_of, choice, negation, exists, Unresolved_goals, no_goals, goal_then, Unresolved_clause}

-- the variables of a term, in order
abbrev mutual
  pub variables_in : Unresolved → List ℕ
  variables_in (any_variable v) = v ∷ []
  variables_in (any_number n) = []
  variables_in (any_text bytes) = []
  variables_in (any_name cs args) = variables_in_all args

  pub variables_in_all : Unresolved_terms → List ℕ
  variables_in_all no_terms = []
  variables_in_all (term_then e es) = variables_in e ++ variables_in_all es

-- all variables that occur in a goal, those that are named by a quantifier alone left out
abbrev mutual
  pub occurring : Unresolved_goal → List ℕ
  occurring (equation a b) = variables_in a ++ variables_in b
  occurring (atom cs args) = variables_in_all args
  occurring (all_of gs) = occurring_all gs
  occurring (one_of gs) = occurring_all gs
  occurring (choice vs c t e) = occurring c ++ (occurring t ++ occurring e)
  occurring (negation g) = occurring g
  occurring (exists vs g) = occurring g

  pub occurring_all : Unresolved_goals → List ℕ
  occurring_all no_goals = []
  occurring_all (goal_then g gs) = occurring g ++ occurring_all gs

-- the variables that quantifiers name
abbrev mutual
  pub quantified : Unresolved_goal → List ℕ
  quantified (equation a b) = []
  quantified (atom cs args) = []
  quantified (all_of gs) = quantified_in_all gs
  quantified (one_of gs) = quantified_in_all gs
  quantified (choice vs c t e) = vs ++ (quantified c ++ (quantified t ++ quantified e))
  quantified (negation g) = quantified g
  quantified (exists vs g) = vs ++ quantified g

  pub quantified_in_all : Unresolved_goals → List ℕ
  quantified_in_all no_goals = []
  quantified_in_all (goal_then g gs) = quantified g ++ quantified_in_all gs

-- the variables that occur in a goal, or that a quantifier of it names
abbrev pub mentioned : Unresolved_goal → List ℕ
mentioned g = occurring g ++ quantified g

abbrev pub all_mentioned : Unresolved_goals → List ℕ
all_mentioned gs = occurring_all gs ++ quantified_in_all gs

-- The quantifiers of a goal name variables of their own, where the first list is what is outside
-- and what quantifiers around name: a variable that one names is mentioned outside its scope in
-- parallel goals at most, and no quantifier around names it.
abbrev mutual
  pub NamesItsOwn : (around : List ℕ) → Unresolved_goal → Type 0
  NamesItsOwn X (equation a b) = Unit {0}
  NamesItsOwn X (atom cs args) = Unit {0}
  NamesItsOwn X (all_of gs) = PartsNameTheirOwn X gs
  NamesItsOwn X (one_of gs) = DisjunctsNameTheirOwn X gs
  NamesItsOwn X (choice vs c t e) =
      Apart vs X
      × NamesItsOwn (X ++ (vs ++ mentioned t)) c
      × NamesItsOwn (X ++ (vs ++ mentioned c)) t
      × NamesItsOwn X e
  NamesItsOwn X (negation g) = NamesItsOwn X g
  NamesItsOwn X (exists vs g) = Apart vs X × NamesItsOwn (X ++ vs) g

  pub PartsNameTheirOwn : (around : List ℕ) → Unresolved_goals → Type 0
  PartsNameTheirOwn X no_goals = Unit {0}
  PartsNameTheirOwn X (goal_then g gs) =
      NamesItsOwn (X ++ all_mentioned gs) g × PartsNameTheirOwn (X ++ mentioned g) gs

  pub DisjunctsNameTheirOwn : (around : List ℕ) → Unresolved_goals → Type 0
  DisjunctsNameTheirOwn X no_goals = Unit {0}
  DisjunctsNameTheirOwn X (goal_then g gs) = NamesItsOwn X g × DisjunctsNameTheirOwn X gs

-- so do those of a clause, where its head is outside
abbrev pub ClauseNamesItsOwn : Unresolved_clause → Type 0
ClauseNamesItsOwn c = NamesItsOwn (variables_in_all c.head) c.body
