-- What terms are as goals, by their form and their parts.
use Rattle.std.proofs.Common.{◌≡◌, ℕ, List, [], ◌∷◌, map, length, suc, refl, ap, sym, ◌∙◌}
use Rattle.mc_term_data.specs.Plain.{plain_term, term_list}
use Rattle.mc_term_data.specs.declared.term.Term.{Term}
use Rattle.mc_clause_syntax.specs.declared.goal_form.GoalForm.{GoalForm}
use Rattle.mc_clause_syntax.specs.declared.goal_form.GoalForm.TheVariants as G
use Rattle.mc_decl_syntax.specs.Plain.{Path}
use Rattle.mc_names.specs.Linked.{Linked}
use Rattle.mc_clauses.specs.Unresolved.{true_goal, goal_by}
use Rattle.mc_clauses.specs.code.Views.{goal_over, goals_at}

module _ (l : Linked) (own : ℕ) where
  -- the forms that one part or two decide
  pub other_form :
      (form : GoalForm) (w : Path) (parts : List Term)
      → (form ≡ G.Fail → ⊥) → (form ≡ G.Conjunction → ⊥) → (form ≡ G.Disjunction → ⊥)
      → (form ≡ G.Call → ⊥)
      → goal_by l own form w (term_list (map plain_term parts)) (goals_at l own parts)
      ≡ goal_over l own form (term_list (map plain_term parts)) (goals_at l own parts)
  other_form G.Fail w parts a b c d = absurd (a refl)
  other_form G.Conjunction w parts a b c d = absurd (b refl)
  other_form G.Disjunction w parts a b c d = absurd (c refl)
  other_form G.Call w parts a b c d = absurd (d refl)
  other_form _ w parts a b c d = refl

  pub over_one_other :
      (form : GoalForm) (part : Term) → (form ≡ G.Negation → ⊥)
      → goal_over l own form (term_list (map plain_term (part ∷ []))) (goals_at l own (part ∷ [])) ≡ true_goal
  over_one_other G.Negation part h = absurd (h refl)
  over_one_other _ part h = refl

  pub over_two_other :
      (form : GoalForm) (a b : Term)
      → (form ≡ G.Arrow → ⊥) → (form ≡ G.Existential → ⊥) → (form ≡ G.Universal → ⊥) → (form ≡ G.Implication → ⊥)
      → (form ≡ G.Unification → ⊥) → (form ≡ G.Disunification → ⊥)
      → goal_over l own form (term_list (map plain_term (a ∷ b ∷ []))) (goals_at l own (a ∷ b ∷ [])) ≡ true_goal
  over_two_other G.Arrow a b h i j k m n = absurd (h refl)
  over_two_other G.Existential a b h i j k m n = absurd (i refl)
  over_two_other G.Universal a b h i j k m n = absurd (j refl)
  over_two_other G.Implication a b h i j k m n = absurd (k refl)
  over_two_other G.Unification a b h i j k m n = absurd (m refl)
  over_two_other G.Disunification a b h i j k m n = absurd (n refl)
  over_two_other _ a b h i j k m n = refl

  pub over_none : (form : GoalForm) → goal_over l own form (term_list (map plain_term [])) (goals_at l own []) ≡ true_goal
  over_none G.Arrow = refl
  over_none _ = refl

  pub over_more :
      (form : GoalForm) (a b c : Term) (rest : List Term)
      → goal_over l own form (term_list (map plain_term (a ∷ b ∷ c ∷ rest))) (goals_at l own (a ∷ b ∷ c ∷ rest)) ≡ true_goal
  over_more G.Arrow a b c rest = refl
  over_more _ a b c rest = refl

  -- neither one part nor two
  pub over_others :
      (form : GoalForm) (parts : List Term) → (length parts ≡ 1 → ⊥) → (length parts ≡ 2 → ⊥)
      → goal_over l own form (term_list (map plain_term parts)) (goals_at l own parts) ≡ true_goal
  over_others form [] h i = over_none form
  over_others form (a ∷ []) h i = absurd (h refl)
  over_others form (a ∷ b ∷ []) h i = absurd (i refl)
  over_others form (a ∷ b ∷ c ∷ rest) h i = over_more form a b c rest
