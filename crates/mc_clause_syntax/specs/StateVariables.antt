-- State variables: `!X`, `!.X` and `!:X` (the Mercury manual: State variables).
use Rattle.std.specs.Prelude.{ℕ, Bool, true, false, List, [], ◌∷◌, Option, Some, None, codes}
use Rattle.mc_term_data.specs.Plain.{PlainTerms, no_term, more_terms}
use Rattle.mc_term_data.specs.Names.{Row, row, found}
use Rattle.mc_term_data.specs.Shapes.{variable}
use Rattle.mc_clause_syntax.specs.declared.state.StateForm.{StateForm}
use Rattle.mc_clause_syntax.specs.declared.state.StateForm.TheVariants.{Both, Before, After}

-- what stands for a state variable
unfoldable pub state_rows : List (Row StateForm)
state_rows = row (codes "!") 1 Both ∷ row (codes "!.") 1 Before ∷ row (codes "!:") 1 After ∷ []

-- the name of the variable that these are, where they are one
abbrev pub one_variable : PlainTerms → Option (List ℕ)
one_variable (more_terms t no_term) = variable t
one_variable _ = None

abbrev pub named : Option StateForm → Option (List ℕ) → Option (StateForm × List ℕ)
named (Some f) (Some x) = Some (f, x)
named _ _ = None

-- a state variable: which of its versions, and its name
abbrev pub state : List (List ℕ) → PlainTerms → Option (StateForm × List ℕ)
state (w ∷ []) ts = named (found state_rows w 1) (one_variable ts)
state _ ts = None

abbrev pub some_state : Option (StateForm × List ℕ) → Bool
some_state None = false
some_state (Some s) = true

abbrev pub is_state : List (List ℕ) → PlainTerms → Bool
is_state w ts = some_state (state w ts)

abbrev pub both_versions : Option (StateForm × List ℕ) → Bool
both_versions (Some (Both, x)) = true
both_versions _ = false
