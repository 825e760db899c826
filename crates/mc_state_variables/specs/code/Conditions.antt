-- Goals by their forms, and conditions by what they quantify.
use Rattle.std.specs.Prelude.{ℕ, ◌≡◌, ◌++◌, Bool, true, false, List, [], ◌∷◌, Option, Some, None, codes}
use Rattle.std.specs.Option.{option_map}
use Rattle.mc_term_data.specs.Plain.{PlainTerm, PlainTerms, at, App, no_term, more_terms, plain_term}
use Rattle.mc_clause_syntax.specs.declared.goal_form.GoalForm.{GoalForm}
use Rattle.mc_clause_syntax.specs.declared.goal_form.GoalForm.TheVariants as G
use Rattle.mc_clause_syntax.specs.States.{names_of, quantified}
use Rattle.mc_state_variables.specs.Updates.{leave_out, updated, updated_by, updated_each}
use Rattle.mc_state_variables.specs.Versions.{Held, entered, entered_behind, renewed, renewed_behind, handed, closings, seen_outside, and_then}
use Rattle.mc_state_variables.specs.declared.conditions.Tried.{Tried}
use Rattle.mc_state_variables.specs.code.Helds.{plain_helds}
use Rattle.mc_state_variables.specs.Numbered.{Goal, Condition, Writing, Written, on_text, goal_of, goals_of, goal_by, unquantified, quantified_condition}

-- a condition, by the list of what it quantifies as a whole and the goal under it
abbrev pub condition_by : (line : ℕ) → (list : Option PlainTerm) → PlainTerm → Condition
condition_by l None t = unquantified (goal_of t).part
condition_by l (Some q) t = quantified_condition l q (goal_of t).part

-- the names of the state variables that a condition quantifies as a whole, by that list
abbrev pub condition_names : (list : Option PlainTerm) → List (List ℕ)
condition_names None = []
condition_names (Some q) = quantified q

-- a name over parts as a goal, by its form
abbrev pub goal_in_form : GoalForm → (name : List (List ℕ)) → (line : ℕ) → PlainTerms → Goal
goal_in_form f w l ts = goal_by f (updated_by f ts (updated_each ts)) w l ts (goals_of ts)

abbrev pub written_goal : GoalForm → (name : List (List ℕ)) → (line : ℕ) → PlainTerms → Writing
written_goal f w l ts = (goal_in_form f w l ts).part.writing

-- whether a goal of this form is neither goals of a conjunction, a disjunction or a conditional, nor
-- one behind an `if`
abbrev pub is_apart : GoalForm → Bool
is_apart G.Conjunction = false
is_apart G.Disjunction = false
is_apart G.Else = false
is_apart G.Arrow = false
is_apart G.Then = false
is_apart G.If = false
is_apart _ = true

-- a condition that is tried
abbrev pub tried_goal : Tried → PlainTerm
tried_goal t = plain_term t.condition.goal.now

abbrev pub condition_of : Tried → Condition
condition_of t =
    condition_by t.condition.line (option_map (λ list. plain_term list.now) t.condition.list) (tried_goal t)

-- what is in scope in it and behind it, where these are in scope, from one number to another
pub record IsTried (t : Tried) (hs : List Held) (n m : ℕ) : Type 0 where
  pub names : names_of t.names.items ≡ (condition_of t).names
  pub inside : plain_helds t.inside.items ≡ entered (names_of t.names.items) n hs
  pub given :
      plain_helds t.around.given.items
      ≡ renewed (updated (tried_goal t)) (entered_behind (names_of t.names.items) n)
      (plain_helds t.inside.items)
  pub behind :
      plain_helds t.around.behind.items
      ≡ handed (updated (tried_goal t)) (plain_helds t.around.given.items)
      (plain_helds t.inside.items)
  pub next :
      m
      ≡ renewed_behind (updated (tried_goal t)) (entered_behind (names_of t.names.items) n)
      (plain_helds t.inside.items)

-- how it is written before a then part, how that is, and both
abbrev pub test_of : Tried → (then_part : PlainTerm) → ℕ → Written PlainTerm
test_of t u n =
    on_text
    ((condition_of t).quantify (plain_helds t.inside.items) (updated (tried_goal t) ++ updated u))
    ((goal_of (tried_goal t)).part.writing (plain_helds t.around.given.items) n)

abbrev pub then_of :
    Tried → (then_part : PlainTerm) → (wanted : List (List ℕ)) → List Held → (line : ℕ) → ℕ
    → Written PlainTerm
then_of t u xs hs l n =
    on_text
    (λ v.
    and_then v
    (closings xs (leave_out (names_of t.names.items) (updated u)) l
    (seen_outside (names_of t.names.items) (plain_helds t.around.behind.items) hs)))
    ((goal_of u).part.writing (plain_helds t.around.behind.items) n)

abbrev pub arrow_of :
    Tried → (then_part : PlainTerm) → (wanted : List (List ℕ)) → List Held → (line : ℕ) → ℕ
    → Written PlainTerm
arrow_of t u xs hs l n =
    on_text
    (λ v.
    at (App (codes "->" ∷ []) (more_terms (test_of t u n).text (more_terms v no_term))) l)
    (then_of t u xs hs l (test_of t u n).next)
