-- Where state variables may stand (the Mercury manual: State variables).
use Rattle.std.specs.Prelude.{ℕ, Bool, true, false, ◌&&◌, List, [], ◌∷◌, ◌++◌, map, Option, Some, None}
use Rattle.std.specs.Borrow.{Bor}
use Rattle.std.specs.Str.{bytes_eq}
use Rattle.std.specs.Set.{is_member}
use Rattle.mc_term_data.specs.Plain.{PlainTerm, PlainTerms, at, no_term, more_terms, App, Items, Tailed, Conj, Disj}
use Rattle.mc_term_data.specs.Names.{count}
use Rattle.mc_clause_syntax.specs.declared.goal_form.GoalForm.{GoalForm}
use Rattle.mc_clause_syntax.specs.declared.goal_form.GoalForm.TheVariants as G
use Rattle.mc_clause_syntax.specs.declared.goal_form.Parts.{Parts}
use Rattle.mc_clause_syntax.specs.declared.goal_form.Parts.TheVariants.{Nothing, Goals, Quantified, Sides, Arguments}
use Rattle.mc_clause_syntax.specs.declared.state.StateForm.{StateForm}
use Rattle.mc_clause_syntax.specs.declared.state.StateForm.TheVariants.{Both, Before, After}
use Rattle.mc_clause_syntax.specs.declared.state_names.StatesWanted.{StatesWanted}
use Rattle.mc_clause_syntax.specs.declared.state_names.StatesWanted.TheVariants.{Every, Updated}
use Rattle.mc_clause_syntax.specs.GoalForms.{goal_form, parts}
use Rattle.mc_clause_syntax.specs.StateVariables.{state}

-- whether the names in scope have this one
abbrev pub in_scope : List (List ℕ) → List ℕ → Bool
in_scope scope x = is_member bytes_eq scope x

-- the names behind references
abbrev pub names_of : List (Bor (List ℕ)) → List (List ℕ)
names_of xs = map (λ x. x.now) xs

-- the name of a state variable, where it is wanted: every one is, or one whose version after it is
abbrev pub wanted_name : StatesWanted → Option (StateForm × List ℕ) → List (List ℕ)
wanted_name wanted None = []
wanted_name Every (Some s) = s.1 ∷ []
wanted_name Updated (Some (Before, x)) = []
wanted_name Updated (Some (After, x)) = x ∷ []
wanted_name Updated (Some (Both, x)) = x ∷ []

-- the name of the state variable that a term is
abbrev pub state_name : PlainTerm → List (List ℕ)
state_name (at (App w ts) l) = wanted_name Every (state w ts)
state_name _ = []

-- the names of the state variables in a list behind a quantifier
abbrev pub quantified_in : PlainTerms → List (List ℕ)
quantified_in no_term = []
quantified_in (more_terms t ts) = state_name t ++ quantified_in ts

abbrev pub quantified : PlainTerm → List (List ℕ)
quantified (at (Items ts) l) = quantified_in ts
quantified _ = []

abbrev pub condition_names_by : GoalForm → PlainTerms → List (List ℕ)
condition_names_by G.Existential (more_terms q ts) = quantified q
condition_names_by f ts = []

-- the names of the state variables that a condition quantifies as a whole
abbrev pub condition_names : PlainTerm → List (List ℕ)
condition_names (at (App w ts) l) = condition_names_by (goal_form w (count ts)) ts
condition_names _ = []

-- the same of the condition that is the first of these parts
abbrev pub first_names : PlainTerms → List (List ℕ)
first_names no_term = []
first_names (more_terms c ts) = condition_names c

-- the names that a goal gives its parts behind the first: a condition gives the then part its own
abbrev pub names_behind : GoalForm → PlainTerms → List (List ℕ)
names_behind G.Arrow ts = first_names ts
names_behind G.Then ts = first_names ts
names_behind f ts = []

abbrev mutual
  -- the names of the wanted state variables in a term
  pub states_in : StatesWanted → PlainTerm → List (List ℕ)
  states_in wanted (at (App w ts) l) = wanted_name wanted (state w ts) ++ states_in_all wanted ts
  states_in wanted (at (Items ts) l) = states_in_all wanted ts
  states_in wanted (at (Tailed ts t) l) = states_in_all wanted ts ++ states_in wanted t
  states_in wanted (at (Conj ts) l) = states_in_all wanted ts
  states_in wanted (at (Disj ts) l) = states_in_all wanted ts
  states_in wanted _ = []

  pub states_in_all : StatesWanted → PlainTerms → List (List ℕ)
  states_in_all wanted no_term = []
  states_in_all wanted (more_terms t ts) = states_in wanted t ++ states_in_all wanted ts

-- the names of the state variables in a term
abbrev pub states_of : PlainTerm → List (List ℕ)
states_of t = states_in Every t

-- One version of a state variable stands where a variable may, and both where an argument of a name
-- does; its name is in scope.
abbrev pub placed_state : List (List ℕ) → (is_argument : Bool) → Option (StateForm × List ℕ) → Bool
placed_state scope is_argument None = true
placed_state scope is_argument (Some (Both, x)) = is_argument && in_scope scope x
placed_state scope is_argument (Some (Before, x)) = in_scope scope x
placed_state scope is_argument (Some (After, x)) = in_scope scope x

abbrev mutual
  -- whether the state variables in a term stand where they may; the term is an argument of a name,
  -- or it isn't
  pub placed : List (List ℕ) → Bool → PlainTerm → Bool
  placed scope is_argument (at (App w ts) l) =
      placed_state scope is_argument (state w ts) && all_placed scope true ts
  placed scope is_argument (at (Items ts) l) = all_placed scope false ts
  placed scope is_argument (at (Tailed ts t) l) = all_placed scope false ts && placed scope false t
  placed scope is_argument (at (Conj ts) l) = all_placed scope false ts
  placed scope is_argument (at (Disj ts) l) = all_placed scope false ts
  placed scope is_argument _ = true

  pub all_placed : List (List ℕ) → Bool → PlainTerms → Bool
  all_placed scope is_argument no_term = true
  all_placed scope is_argument (more_terms t ts) =
      placed scope is_argument t && all_placed scope is_argument ts

abbrev mutual
  -- The same of the terms in a goal. What a quantifier names is in scope in its goal, and in the then
  -- part too where it is a whole condition.
  pub goal_placed : List (List ℕ) → PlainTerm → Bool
  goal_placed scope (at (Conj ts) l) = goals_placed scope ts
  goal_placed scope (at (Disj ts) l) = goals_placed scope ts
  goal_placed scope (at (App w ts) l) =
      parts_placed scope (names_behind (goal_form w (count ts)) ts ++ scope)
      (parts (goal_form w (count ts)))
      ts
  goal_placed scope _ = true

  -- the same of the parts of a goal, where the names behind are in scope in those behind the first
  pub parts_placed : (scope behind : List (List ℕ)) → Parts → PlainTerms → Bool
  parts_placed scope behind Nothing ts = true
  parts_placed scope behind (Goals a b) no_term = true
  parts_placed scope behind (Goals a b) (more_terms t ts) =
      goal_placed scope t && goals_placed behind ts
  parts_placed scope behind Quantified no_term = true
  parts_placed scope behind Quantified (more_terms t ts) = goals_placed (quantified t ++ scope) ts
  parts_placed scope behind Sides ts = all_placed scope false ts
  parts_placed scope behind Arguments ts = all_placed scope true ts

  pub goals_placed : List (List ℕ) → PlainTerms → Bool
  goals_placed scope no_term = true
  goals_placed scope (more_terms t ts) = goal_placed scope t && goals_placed scope ts
