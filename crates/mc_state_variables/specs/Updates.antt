-- Which state variables a goal updates. (Mercury Language Reference Manual: State variables.)
use Rattle.std.specs.Prelude.{ℕ, List, [], ◌∷◌, ◌++◌, if◌then◌else◌}
use Rattle.mc_term_data.specs.Plain.{PlainTerm, PlainTerms, at, no_term, more_terms, App, Conj, Disj}
use Rattle.mc_term_data.specs.Names.{count}
use Rattle.mc_clause_syntax.specs.declared.goal_form.GoalForm.{GoalForm}
use Rattle.mc_clause_syntax.specs.declared.goal_form.GoalForm.TheVariants as G
use Rattle.mc_clause_syntax.specs.declared.state_names.StatesWanted.TheVariants.{Updated}
use Rattle.mc_clause_syntax.specs.GoalForms.{goal_form}
use Rattle.mc_clause_syntax.specs.States.{in_scope, quantified, condition_names, states_in_all}

-- the names that aren't among those
abbrev pub leave_out : (those names : List (List ℕ)) → List (List ℕ)
leave_out those [] = []
leave_out those (x ∷ xs) =
    if in_scope those x then leave_out those xs else x ∷ leave_out those xs

-- those of the first that are among the second
abbrev pub common : List (List ℕ) → List (List ℕ) → List (List ℕ)
common [] ys = []
common (x ∷ xs) ys = if in_scope ys x then x ∷ common xs ys else common xs ys

-- those of each of these
abbrev pub joined : (each : List (List (List ℕ))) → List (List ℕ)
joined [] = []
joined (us ∷ each) = us ++ joined each

-- The names of the state variables that a goal updates, as far as that is seen outside it, by its
-- form, its parts, and what each of them updates as a goal: an atom updates those whose version after
-- it it holds, other goals those of their parts. Nothing is seen of what is updated in a negation, nor
-- of a state variable that a quantifier names; one that is a whole condition reaches over the then
-- part.
abbrev pub updated_by : GoalForm → PlainTerms → (each : List (List (List ℕ))) → List (List ℕ)
updated_by G.Conjunction ts each = joined each
updated_by G.Disjunction ts each = joined each
updated_by G.Else ts each = joined each
updated_by G.If ts each = joined each
updated_by G.Arrow (more_terms c ts) (us ∷ each) = us ++ leave_out (condition_names c) (joined each)
updated_by G.Then (more_terms c ts) (us ∷ each) = us ++ leave_out (condition_names c) (joined each)
updated_by G.Existential (more_terms q ts) each = leave_out (quantified q) (joined each)
updated_by G.Unification ts each = states_in_all Updated ts
updated_by G.Call ts each = states_in_all Updated ts
updated_by f ts each = []

abbrev mutual
  pub updated : PlainTerm → List (List ℕ)
  updated (at (Conj ts) l) = joined (updated_each ts)
  updated (at (Disj ts) l) = joined (updated_each ts)
  updated (at (App w ts) l) = updated_by (goal_form w (count ts)) ts (updated_each ts)
  updated _ = []

  pub updated_each : PlainTerms → List (List (List ℕ))
  updated_each no_term = []
  updated_each (more_terms t ts) = updated t ∷ updated_each ts
