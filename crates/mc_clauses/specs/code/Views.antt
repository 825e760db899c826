-- What a term is as a goal, by the value that says it.
use Rattle.std.specs.Prelude.{◌≡◌, ℕ, ◌≤◌, ◌<◌, max, List, [], ◌∷◌, map}
use denote.Param.Weighed.{most}
use Rattle.mc_term_data.specs.Plain.{PlainTerms, plain_term, term_list}
use Rattle.mc_term_data.specs.Names.{count}
use Rattle.mc_term_data.specs.declared.term.Term.{Term, size-Term}
use Rattle.mc_clause_syntax.specs.declared.goal_form.GoalForm.{GoalForm}
use Rattle.mc_clause_syntax.specs.declared.goal_form.GoalForm.TheVariants as G
use Rattle.mc_accepted.specs.Resolving.{atom, all_of, one_of, negation, no_goals}
use Rattle.mc_decl_syntax.specs.Plain.{Path}
use Rattle.mc_names.specs.Linked.{Linked}
use Rattle.mc_clauses.specs.Unresolved.{Goal, made, on_made, plainly, true_goal, for_some, for_all, implied, conditional, conjuncts, either, equals, differs, of_one_part, of_two_parts, of_list_and_part, of_two_terms, in_turn, meanings, term_of, terms_of, goal_by, goal_of, goals_of}
use Rattle.mc_clauses.specs.declared.view.GoalView.{GoalView}
use Rattle.mc_clauses.specs.declared.view.GoalView.TheVariants as V

-- how deep the parts are
abbrev pub view_size : GoalView → ℕ
view_size V.True = 0
view_size V.Fail = 0
view_size (V.Conjunction parts) = most size-Term parts.now
view_size (V.Disjunction parts) = most size-Term parts.now
view_size (V.Conditional c t) = max (size-Term c.now) (size-Term t.now)
view_size (V.Negation g) = size-Term g.now
view_size (V.Existential list g) = max (size-Term list.now) (size-Term g.now)
view_size (V.Universal list g) = max (size-Term list.now) (size-Term g.now)
view_size (V.Implication a b) = max (size-Term a.now) (size-Term b.now)
view_size (V.Unification a b) = max (size-Term a.now) (size-Term b.now)
view_size (V.Disunification a b) = max (size-Term a.now) (size-Term b.now)
view_size (V.Call w parts) = most size-Term parts.now

module _ (l : Linked) (own : ℕ) where
  -- a form over one part or two
  abbrev pub goal_over : GoalForm → PlainTerms → List Goal → Goal
  goal_over G.Arrow ts gs = of_two_parts conditional gs
  goal_over G.Negation ts gs = of_one_part (λ g. plainly (on_made negation g.itself)) gs
  goal_over G.Existential ts gs = of_list_and_part for_some ts gs
  goal_over G.Universal ts gs = of_list_and_part for_all ts gs
  goal_over G.Implication ts gs = of_two_parts implied gs
  goal_over G.Unification ts gs = of_two_terms equals (terms_of l own ts)
  goal_over G.Disunification ts gs = of_two_terms differs (terms_of l own ts)
  goal_over _ ts gs = true_goal

  abbrev pub goal_at : Term → Goal
  goal_at t = goal_of l own (plain_term t)

  abbrev pub goals_at : List Term → List Goal
  goals_at ts = goals_of l own (term_list (map plain_term ts))

  abbrev pub viewed : GoalView → Goal
  viewed V.True = true_goal
  viewed V.Fail = plainly (made (one_of no_goals))
  viewed (V.Conjunction parts) = plainly (on_made all_of (conjuncts (goals_at parts.now)))
  viewed (V.Disjunction parts) = either (goals_at parts.now)
  viewed (V.Conditional c t) = conditional (goal_at c.now) (goal_at t.now)
  viewed (V.Negation g) = plainly (on_made negation (goal_at g.now).itself)
  viewed (V.Existential list g) = for_some (plain_term list.now) (goal_at g.now)
  viewed (V.Universal list g) = for_all (plain_term list.now) (goal_at g.now)
  viewed (V.Implication a b) = implied (goal_at a.now) (goal_at b.now)
  viewed (V.Unification a b) =
      equals (term_of l own (plain_term a.now)) (term_of l own (plain_term b.now))
  viewed (V.Disunification a b) =
      differs (term_of l own (plain_term a.now)) (term_of l own (plain_term b.now))
  viewed (V.Call w parts) =
      plainly
      (on_made (atom (meanings l own w.now (count (term_list (map plain_term parts.now)))))
      (in_turn (terms_of l own (term_list (map plain_term parts.now)))))

abbrev pub IsView : Term → GoalView → Type 0
IsView t v = (l : Linked) (own : ℕ) → goal_of l own (plain_term t) ≡ viewed l own v

abbrev pub IsViewBy : GoalForm → Path → (parts : List Term) → GoalView → Type 0
IsViewBy form w parts v =
    (l : Linked) (own : ℕ)
    → goal_by l own form w (term_list (map plain_term parts)) (goals_at l own parts)
    ≡ viewed l own v

abbrev pub IsViewOver : GoalForm → (parts : List Term) → GoalView → Type 0
IsViewOver form parts v =
    (l : Linked) (own : ℕ)
    → goal_over l own form (term_list (map plain_term parts)) (goals_at l own parts)
    ≡ viewed l own v

abbrev pub AreAsDeep : List Term → GoalView → Type 0
AreAsDeep parts v = view_size v ≤ most size-Term parts

abbrev pub IsDeeper : Term → GoalView → Type 0
IsDeeper t v = view_size v < size-Term t
