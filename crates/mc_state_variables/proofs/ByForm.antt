-- What a goal is as a branch and as a condition, by its form.
use Rattle.std.proofs.Common.{◌≡◌, ℕ, ◌<◌, Bool, true, false, List, [], ◌∷◌, length, map, refl, arith}
use Rattle.mc_term_data.specs.Plain.{PlainTerm, PlainTerms, at, no_term, more_terms, plain_term, term_list}
use Rattle.mc_term_data.specs.declared.term.Term.{Term}
use Rattle.mc_clause_syntax.specs.declared.goal_form.GoalForm.{GoalForm}
use Rattle.mc_clause_syntax.specs.declared.goal_form.GoalForm.TheVariants as G
use Rattle.mc_state_variables.specs.Numbered.{Goal, goal_by, goals_of, branch_of, unquantified}

pub plain_branch : (f : GoalForm) (us : List (List ℕ)) (w : List (List ℕ)) (l : ℕ) (ts : PlainTerms) (gs : List Goal) → (f ≡ G.Arrow → ⊥) → (f ≡ G.Then → ⊥) → (f ≡ G.If → ⊥) → (branch_of l (goal_by f us w l ts gs).part).writing ≡ (goal_by f us w l ts gs).branch.writing
plain_branch G.True us w l ts gs h0 h1 h2 = refl
plain_branch G.Fail us w l ts gs h0 h1 h2 = refl
plain_branch G.Conjunction us w l ts gs h0 h1 h2 = refl
plain_branch G.Disjunction us w l ts gs h0 h1 h2 = refl
plain_branch G.Arrow us w l ts gs h0 h1 h2 = absurd (h0 refl)
plain_branch G.If us w l ts gs h0 h1 h2 = absurd (h2 refl)
plain_branch G.Then us w l ts gs h0 h1 h2 = absurd (h1 refl)
plain_branch G.Else us w l ts gs h0 h1 h2 = refl
plain_branch G.Negation us w l ts gs h0 h1 h2 = refl
plain_branch G.Existential us w l no_term gs h0 h1 h2 = refl
plain_branch G.Existential us w l (more_terms q ts) [] h0 h1 h2 = refl
plain_branch G.Existential us w l (more_terms q ts) (p ∷ []) h0 h1 h2 = refl
plain_branch G.Existential us w l (more_terms q ts) (p ∷ g ∷ gs) h0 h1 h2 = refl
plain_branch G.Universal us w l ts gs h0 h1 h2 = refl
plain_branch G.Implication us w l ts gs h0 h1 h2 = refl
plain_branch G.ReverseImplication us w l ts gs h0 h1 h2 = refl
plain_branch G.Equivalence us w l ts gs h0 h1 h2 = refl
plain_branch G.Unification us w l ts gs h0 h1 h2 = refl
plain_branch G.Disunification us w l ts gs h0 h1 h2 = refl
plain_branch G.Call us w l ts gs h0 h1 h2 = refl

pub plain_condition : (f : GoalForm) (us : List (List ℕ)) (w : List (List ℕ)) (l : ℕ) (ts : PlainTerms) (gs : List Goal) → (f ≡ G.Existential → ⊥) → unquantified (goal_by f us w l ts gs).part ≡ (goal_by f us w l ts gs).condition
plain_condition G.True us w l ts gs h0 = refl
plain_condition G.Fail us w l ts gs h0 = refl
plain_condition G.Conjunction us w l ts gs h0 = refl
plain_condition G.Disjunction us w l ts gs h0 = refl
plain_condition G.Arrow us w l ts [] h0 = refl
plain_condition G.Arrow us w l ts (c ∷ []) h0 = refl
plain_condition G.Arrow us w l ts (c ∷ t ∷ gs) h0 = refl
plain_condition G.If us w l ts [] h0 = refl
plain_condition G.If us w l ts (g ∷ gs) h0 = refl
plain_condition G.Then us w l ts [] h0 = refl
plain_condition G.Then us w l ts (c ∷ []) h0 = refl
plain_condition G.Then us w l ts (c ∷ t ∷ gs) h0 = refl
plain_condition G.Else us w l ts gs h0 = refl
plain_condition G.Negation us w l ts gs h0 = refl
plain_condition G.Existential us w l ts gs h0 = absurd (h0 refl)
plain_condition G.Universal us w l ts gs h0 = refl
plain_condition G.Implication us w l ts gs h0 = refl
plain_condition G.ReverseImplication us w l ts gs h0 = refl
plain_condition G.Equivalence us w l ts gs h0 = refl
plain_condition G.Unification us w l ts gs h0 = refl
plain_condition G.Disunification us w l ts gs h0 = refl
plain_condition G.Call us w l ts gs h0 = refl

pub no_conditional_form : (f : GoalForm) (us : List (List ℕ)) (w : List (List ℕ)) (l : ℕ) (ts : PlainTerms) (gs : List Goal) → (f ≡ G.Arrow → ⊥) → (f ≡ G.Then → ⊥) → (f ≡ G.If → ⊥) → false ≡ (goal_by f us w l ts gs).is_conditional
no_conditional_form G.True us w l ts gs h0 h1 h2 = refl
no_conditional_form G.Fail us w l ts gs h0 h1 h2 = refl
no_conditional_form G.Conjunction us w l ts gs h0 h1 h2 = refl
no_conditional_form G.Disjunction us w l ts gs h0 h1 h2 = refl
no_conditional_form G.Arrow us w l ts gs h0 h1 h2 = absurd (h0 refl)
no_conditional_form G.If us w l ts gs h0 h1 h2 = absurd (h2 refl)
no_conditional_form G.Then us w l ts gs h0 h1 h2 = absurd (h1 refl)
no_conditional_form G.Else us w l ts gs h0 h1 h2 = refl
no_conditional_form G.Negation us w l ts gs h0 h1 h2 = refl
no_conditional_form G.Existential us w l no_term gs h0 h1 h2 = refl
no_conditional_form G.Existential us w l (more_terms q ts) [] h0 h1 h2 = refl
no_conditional_form G.Existential us w l (more_terms q ts) (p ∷ []) h0 h1 h2 = refl
no_conditional_form G.Existential us w l (more_terms q ts) (p ∷ g ∷ gs) h0 h1 h2 = refl
no_conditional_form G.Universal us w l ts gs h0 h1 h2 = refl
no_conditional_form G.Implication us w l ts gs h0 h1 h2 = refl
no_conditional_form G.ReverseImplication us w l ts gs h0 h1 h2 = refl
no_conditional_form G.Equivalence us w l ts gs h0 h1 h2 = refl
no_conditional_form G.Unification us w l ts gs h0 h1 h2 = refl
no_conditional_form G.Disunification us w l ts gs h0 h1 h2 = refl
no_conditional_form G.Call us w l ts gs h0 h1 h2 = refl

pub short_arrow_branch : (us : List (List ℕ)) (w : List (List ℕ)) (l : ℕ) (ts : List Term) → length ts < 2 → (branch_of l (goal_by G.Arrow us w l (term_list (map plain_term ts)) (goals_of (term_list (map plain_term ts)))).part).writing ≡ (goal_by G.Arrow us w l (term_list (map plain_term ts)) (goals_of (term_list (map plain_term ts)))).branch.writing
short_arrow_branch us w l [] h = refl
short_arrow_branch us w l (t ∷ []) h = refl
short_arrow_branch us w l (t ∷ u ∷ ts) h = absurd (omega arith)

pub short_arrow : (us : List (List ℕ)) (w : List (List ℕ)) (l : ℕ) (ts : List Term) → length ts < 2 → false ≡ (goal_by G.Arrow us w l (term_list (map plain_term ts)) (goals_of (term_list (map plain_term ts)))).is_conditional
short_arrow us w l [] h = refl
short_arrow us w l (t ∷ []) h = refl
short_arrow us w l (t ∷ u ∷ ts) h = absurd (omega arith)

pub short_then_branch : (us : List (List ℕ)) (w : List (List ℕ)) (l : ℕ) (ts : List Term) → length ts < 2 → (branch_of l (goal_by G.Then us w l (term_list (map plain_term ts)) (goals_of (term_list (map plain_term ts)))).part).writing ≡ (goal_by G.Then us w l (term_list (map plain_term ts)) (goals_of (term_list (map plain_term ts)))).branch.writing
short_then_branch us w l [] h = refl
short_then_branch us w l (t ∷ []) h = refl
short_then_branch us w l (t ∷ u ∷ ts) h = absurd (omega arith)

pub short_then : (us : List (List ℕ)) (w : List (List ℕ)) (l : ℕ) (ts : List Term) → length ts < 2 → false ≡ (goal_by G.Then us w l (term_list (map plain_term ts)) (goals_of (term_list (map plain_term ts)))).is_conditional
short_then us w l [] h = refl
short_then us w l (t ∷ []) h = refl
short_then us w l (t ∷ u ∷ ts) h = absurd (omega arith)

pub short_if_branch : (us : List (List ℕ)) (w : List (List ℕ)) (l : ℕ) (ts : List Term) → length ts < 1 → (branch_of l (goal_by G.If us w l (term_list (map plain_term ts)) (goals_of (term_list (map plain_term ts)))).part).writing ≡ (goal_by G.If us w l (term_list (map plain_term ts)) (goals_of (term_list (map plain_term ts)))).branch.writing
short_if_branch us w l [] h = refl
short_if_branch us w l (t ∷ ts) h = absurd (omega arith)

pub short_if : (us : List (List ℕ)) (w : List (List ℕ)) (l : ℕ) (ts : List Term) → length ts < 1 → false ≡ (goal_by G.If us w l (term_list (map plain_term ts)) (goals_of (term_list (map plain_term ts)))).is_conditional
short_if us w l [] h = refl
short_if us w l (t ∷ ts) h = absurd (omega arith)

pub short_condition : (us : List (List ℕ)) (w : List (List ℕ)) (l : ℕ) (ts : List Term) → length ts < 2 → unquantified (goal_by G.Existential us w l (term_list (map plain_term ts)) (goals_of (term_list (map plain_term ts)))).part ≡ (goal_by G.Existential us w l (term_list (map plain_term ts)) (goals_of (term_list (map plain_term ts)))).condition
short_condition us w l [] h = refl
short_condition us w l (t ∷ []) h = refl
short_condition us w l (t ∷ u ∷ ts) h = absurd (omega arith)

pub ruleset by_form = (plain_branch, plain_condition, no_conditional_form, short_arrow_branch, short_arrow, short_then_branch, short_then, short_if_branch, short_if, short_condition)
