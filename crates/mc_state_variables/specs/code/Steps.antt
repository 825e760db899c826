-- Goals one behind another, and what each does to the state variables in scope.
use Rattle.std.specs.Prelude.{ℕ, List, [], ◌∷◌, ◌++◌, map, reverse}
use Rattle.mc_base.specs.NameSets.{put_all}
use Rattle.mc_term_data.specs.Plain.{PlainTerm, PlainTerms, no_term, more_terms, plain_term}
use Rattle.mc_state_variables.specs.declared.steps.Step.{Step}
use Rattle.mc_state_variables.specs.declared.steps.Conjuncts.{Conjuncts}
use Rattle.mc_state_variables.specs.code.Helds.{plain_helds, listed}
use Rattle.mc_state_variables.specs.Updates.{common, updated}
use Rattle.mc_state_variables.specs.Versions.{Held, renewed, handed}
use Rattle.mc_state_variables.specs.Numbered.{Written, Part, written, on_text, with_rest, ended}

-- the names that goals update, as they are met from the last goal to the first
abbrev pub seen_in : PlainTerms → List (List ℕ)
seen_in no_term = []
seen_in (more_terms t ts) = put_all (seen_in ts) (updated t)

-- the same, of each goal with those behind it
abbrev pub wholes_of : PlainTerms → List (List (List ℕ))
wholes_of no_term = []
wholes_of (more_terms t ts) = put_all [] (seen_in (more_terms t ts)) ∷ wholes_of ts

abbrev pub step_of : (names behind : List (List ℕ)) → Step
step_of xs seen = record { updated = put_all [] xs; renewed = put_all [] (common xs seen) }

-- what each goal of a conjunction updates, and of which it ends with new versions
abbrev pub steps_of : PlainTerms → List Step
steps_of no_term = []
steps_of (more_terms t ts) = step_of (updated t) (seen_in ts) ∷ steps_of ts

-- goals by such steps
abbrev pub stepwise : List Step → List Part → List Held → ℕ → Written PlainTerms
stepwise (s ∷ ss) (p ∷ ps) hs n =
    with_rest (ended p s.renewed hs n)
    (stepwise ss ps (handed s.updated (renewed s.renewed n hs) hs))
stepwise _ _ hs n = written no_term n

-- those that are written and these behind them
abbrev pub gone_on : Conjuncts → List Part → ℕ → Written (List PlainTerm)
gone_on c ps n =
    on_text (λ ts. map plain_term c.texts.items ++ listed ts)
    (stepwise (reverse c.steps.items) ps (plain_helds c.current.items) n)
