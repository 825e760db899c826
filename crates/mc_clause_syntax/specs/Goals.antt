-- What goals are (the Mercury manual: Goals; Syntax).
use Rattle.std.specs.Prelude.{ℕ, ◌+◌, max, Bool, true, false, not, ◌&&◌}
use Rattle.mc_term_data.specs.Plain.{PlainTerm, PlainTerms, at, no_term, more_terms, Var, App, Items, Conj, Disj}
use Rattle.mc_term_data.specs.Names.{count}
use Rattle.mc_clause_syntax.specs.declared.goal_form.GoalContext.{GoalContext}
use Rattle.mc_clause_syntax.specs.declared.goal_form.GoalContext.TheVariants.{Whole, Disjunct}
use Rattle.mc_clause_syntax.specs.declared.goal_form.Parts.{Parts}
use Rattle.mc_clause_syntax.specs.declared.goal_form.Parts.TheVariants.{Nothing, Goals, Quantified, Sides, Arguments}
use Rattle.mc_clause_syntax.specs.GoalForms.{goal_form, parts, admits, is_open, one_equivalence}
use Rattle.mc_clause_syntax.specs.StateVariables.{state, is_state, both_versions}

-- what a quantifier may name: variables and state variables, both versions
abbrev pub is_quantifiable : PlainTerm → Bool
is_quantifiable (at (Var x) l) = true
is_quantifiable (at (App w ts) l) = both_versions (state w ts)
is_quantifiable _ = false

abbrev pub all_quantifiable : PlainTerms → Bool
all_quantifiable no_term = true
all_quantifiable (more_terms t ts) = is_quantifiable t && all_quantifiable ts

abbrev pub is_quantified_list : PlainTerm → Bool
is_quantified_list (at (Items ts) l) = all_quantifiable ts
is_quantified_list _ = false

abbrev mutual
  -- whether a term is a goal that may stand there
  pub is_goal : GoalContext → PlainTerm → Bool
  is_goal s (at (Conj ts) l) = is_open s && are_goals Whole ts
  is_goal s (at (Disj ts) l) = is_open s && are_disjuncts ts
  is_goal s (at (App w ts) l) =
      not (is_state w ts)
      && admits (goal_form w (count ts)) s
      && have_form (parts (goal_form w (count ts))) ts
  is_goal s _ = false

  -- whether the parts of a goal are what they are to be; what the terms in it hold is asked below
  pub have_form : Parts → PlainTerms → Bool
  have_form (Goals a b) no_term = true
  have_form (Goals a b) (more_terms t ts) = is_goal a t && are_goals b ts
  have_form Quantified no_term = false
  have_form Quantified (more_terms t ts) = is_quantified_list t && are_goals Whole ts
  have_form Nothing ts = true
  have_form Sides ts = true
  have_form Arguments ts = true

  pub are_goals : GoalContext → PlainTerms → Bool
  are_goals s no_term = true
  are_goals s (more_terms t ts) = is_goal s t && are_goals s ts

  -- `C -> T` alone is no goal, nor is it at the end of a disjunction
  pub are_disjuncts : PlainTerms → Bool
  are_disjuncts no_term = true
  are_disjuncts (more_terms t no_term) = is_goal Whole t
  are_disjuncts (more_terms t (more_terms u us)) =
      is_goal Disjunct t && are_disjuncts (more_terms u us)

abbrev mutual
  -- how many equivalences stand inside one another in a goal, at most
  pub equivalences : PlainTerm → ℕ
  equivalences (at (Conj ts) l) = most_equivalences ts
  equivalences (at (Disj ts) l) = most_equivalences ts
  equivalences (at (App w ts) l) =
      one_equivalence (goal_form w (count ts))
      + equivalences_within (parts (goal_form w (count ts))) ts
  equivalences _ = 0

  pub equivalences_within : Parts → PlainTerms → ℕ
  equivalences_within Nothing ts = 0
  equivalences_within Sides ts = 0
  equivalences_within Arguments ts = 0
  equivalences_within p no_term = 0
  equivalences_within p (more_terms t ts) = max (equivalences t) (most_equivalences ts)

  pub most_equivalences : PlainTerms → ℕ
  most_equivalences no_term = 0
  most_equivalences (more_terms t ts) = max (equivalences t) (most_equivalences ts)
