-- Goals by their forms.
use Rattle.std.proofs.Common.{◌≡◌, ℕ, ◌≤◌, ◌<◌, Bool, true, false, List, [], ◌∷◌, ◌++◌, length, map, nat_lt, refl, ap, arith}
use Rattle.mc_term_data.specs.Plain.{PlainTerm, PlainTerms, at, no_term, more_terms, Var, Int, Str, App, Items, Tailed, Conj, Disj, plain_term, term_list}
use Rattle.mc_term_data.specs.declared.term.Term.{Term}
use Rattle.mc_term_data.specs.Names.{count}
use Rattle.mc_clause_syntax.specs.declared.goal_form.GoalForm.{GoalForm}
use Rattle.mc_clause_syntax.specs.declared.goal_form.GoalForm.TheVariants as G
use Rattle.mc_clause_syntax.specs.GoalForms.{goal_form}
use Rattle.mc_state_variables.specs.Updates.{updated, updated_by, updated_each}
use Rattle.mc_state_variables.specs.Versions.{Held, closings, and_then, entered_behind, seen_outside}
use Rattle.mc_state_variables.specs.Updates.{leave_out}
use Rattle.mc_state_variables.proofs.Sets.{HaveSame, closings-same}
use Rattle.mc_state_variables.specs.Numbered.{Goal, Part, Branch, Condition, Written, written, on_text, goal_of, goals_of, goal_by, branch_of, conditional, arrow, inside, behind_condition, ended}

form_updates : (f : GoalForm) (us : List (List ℕ)) (w : List (List ℕ)) (l : ℕ) (ts : PlainTerms) (gs : List Goal) → (goal_by f us w l ts gs).part.updates ≡ us
form_updates G.True us w l ts gs = refl
form_updates G.Fail us w l ts gs = refl
form_updates G.Conjunction us w l ts gs = refl
form_updates G.Disjunction us w l ts gs = refl
form_updates G.Arrow us w l ts [] = refl
form_updates G.Arrow us w l ts (c ∷ []) = refl
form_updates G.Arrow us w l ts (c ∷ t ∷ gs) = refl
form_updates G.If us w l ts [] = refl
form_updates G.If us w l ts (g ∷ gs) = refl
form_updates G.Then us w l ts [] = refl
form_updates G.Then us w l ts (c ∷ []) = refl
form_updates G.Then us w l ts (c ∷ t ∷ gs) = refl
form_updates G.Else us w l ts gs = refl
form_updates G.Negation us w l ts gs = refl
form_updates G.Existential us w l no_term gs = refl
form_updates G.Existential us w l (more_terms q ts) [] = refl
form_updates G.Existential us w l (more_terms q ts) (p ∷ []) = refl
form_updates G.Existential us w l (more_terms q ts) (p ∷ g ∷ gs) = refl
form_updates G.Universal us w l ts gs = refl
form_updates G.Implication us w l ts gs = refl
form_updates G.ReverseImplication us w l ts gs = refl
form_updates G.Equivalence us w l ts gs = refl
form_updates G.Unification us w l ts gs = refl
form_updates G.Disunification us w l ts gs = refl
form_updates G.Call us w l ts gs = refl

form_branch_updates : (f : GoalForm) (us : List (List ℕ)) (w : List (List ℕ)) (l : ℕ) (ts : PlainTerms) (gs : List Goal) → (goal_by f us w l ts gs).branch.updates ≡ us
form_branch_updates G.True us w l ts gs = refl
form_branch_updates G.Fail us w l ts gs = refl
form_branch_updates G.Conjunction us w l ts gs = refl
form_branch_updates G.Disjunction us w l ts gs = refl
form_branch_updates G.Arrow us w l ts [] = refl
form_branch_updates G.Arrow us w l ts (c ∷ []) = refl
form_branch_updates G.Arrow us w l ts (c ∷ t ∷ gs) = refl
form_branch_updates G.If us w l ts [] = refl
form_branch_updates G.If us w l ts (g ∷ gs) = refl
form_branch_updates G.Then us w l ts [] = refl
form_branch_updates G.Then us w l ts (c ∷ []) = refl
form_branch_updates G.Then us w l ts (c ∷ t ∷ gs) = refl
form_branch_updates G.Else us w l ts gs = refl
form_branch_updates G.Negation us w l ts gs = refl
form_branch_updates G.Existential us w l no_term gs = refl
form_branch_updates G.Existential us w l (more_terms q ts) [] = refl
form_branch_updates G.Existential us w l (more_terms q ts) (p ∷ []) = refl
form_branch_updates G.Existential us w l (more_terms q ts) (p ∷ g ∷ gs) = refl
form_branch_updates G.Universal us w l ts gs = refl
form_branch_updates G.Implication us w l ts gs = refl
form_branch_updates G.ReverseImplication us w l ts gs = refl
form_branch_updates G.Equivalence us w l ts gs = refl
form_branch_updates G.Unification us w l ts gs = refl
form_branch_updates G.Disunification us w l ts gs = refl
form_branch_updates G.Call us w l ts gs = refl

-- what a goal updates, as one among others and as a branch
pub part_updates : (t : PlainTerm) → (goal_of t).part.updates ≡ updated t
part_updates (at (Conj ts) l) = refl
part_updates (at (Disj ts) l) = refl
part_updates (at (Var x) l) = refl
part_updates (at (Int n) l) = refl
part_updates (at (Str s) l) = refl
part_updates (at (Items ts) l) = refl
part_updates (at (Tailed ts t) l) = refl
part_updates (at (App w ts) l) = form_updates (goal_form w (count ts)) (updated (at (App w ts) l)) w l ts (goals_of ts)

pub branch_updates : (t : PlainTerm) → (goal_of t).branch.updates ≡ updated t
branch_updates (at (Conj ts) l) = refl
branch_updates (at (Disj ts) l) = refl
branch_updates (at (Var x) l) = refl
branch_updates (at (Int n) l) = refl
branch_updates (at (Str s) l) = refl
branch_updates (at (Items ts) l) = refl
branch_updates (at (Tailed ts t) l) = refl
branch_updates (at (App w ts) l) = form_branch_updates (goal_form w (count ts)) (updated (at (App w ts) l)) w l ts (goals_of ts)

-- a branch that is written so too where other lists of the same names are wanted
abbrev pub IsSame : Branch → Type 0
IsSame b = (xs ys : List (List ℕ)) → HaveSame xs ys → (hs : List Held) (n : ℕ) → b.writing xs hs n ≡ b.writing ys hs n

pub branch_of-same : (l : ℕ) (p : Part) → IsSame (branch_of l p)
branch_of-same l p xs ys h hs n = ap (λ cs. on_text (λ t. and_then t cs) (p.writing hs n)) (closings-same xs ys p.updates p.updates h (λ x. refl) l hs)

conditional-same : (l : ℕ) (c : Condition) (p : Part) (us : List (List ℕ)) → IsSame (conditional l c p us)
conditional-same l c p us xs ys h hs n =
    let w : Written PlainTerm = ended c.goal c.goal.updates (inside l c p hs n) (entered_behind c.names n) in
    let hidden : List (List ℕ) = leave_out c.names p.updates in
    ap (λ cs.
    on_text (λ u. arrow l c p (c.quantify (inside l c p hs n) (c.goal.updates ++ p.updates) w.text) u)
    (on_text (λ t. and_then t cs) (p.writing (behind_condition l c p hs n) w.next)))
    (closings-same xs ys hidden hidden h (λ x. refl) l (seen_outside c.names (behind_condition l c p hs n) hs))

abbrev FirstIsSame : List Goal → Type 0
FirstIsSame [] = Unit {0}
FirstIsSame (g ∷ gs) = IsSame g.branch

form-same : (f : GoalForm) (us : List (List ℕ)) (w : List (List ℕ)) (l : ℕ) (ts : PlainTerms) (gs : List Goal) → FirstIsSame gs → IsSame (goal_by f us w l ts gs).branch
form-same G.True us w l ts gs h = branch_of-same l (goal_by G.True us w l ts gs).part
form-same G.Fail us w l ts gs h = branch_of-same l (goal_by G.Fail us w l ts gs).part
form-same G.Conjunction us w l ts gs h = branch_of-same l (goal_by G.Conjunction us w l ts gs).part
form-same G.Disjunction us w l ts gs h = branch_of-same l (goal_by G.Disjunction us w l ts gs).part
form-same G.Arrow us w l ts [] h = branch_of-same l (goal_by G.Arrow us w l ts []).part
form-same G.Arrow us w l ts (c ∷ []) h = branch_of-same l (goal_by G.Arrow us w l ts (c ∷ [])).part
form-same G.Arrow us w l ts (c ∷ t ∷ gs) h = conditional-same l c.condition t.part us
form-same G.If us w l ts [] h = branch_of-same l (goal_by G.If us w l ts []).part
form-same G.If us w l ts (g ∷ gs) h = h
form-same G.Then us w l ts [] h = branch_of-same l (goal_by G.Then us w l ts []).part
form-same G.Then us w l ts (c ∷ []) h = branch_of-same l (goal_by G.Then us w l ts (c ∷ [])).part
form-same G.Then us w l ts (c ∷ t ∷ gs) h = conditional-same l c.condition t.part us
form-same G.Else us w l ts gs h = branch_of-same l (goal_by G.Else us w l ts gs).part
form-same G.Negation us w l ts gs h = branch_of-same l (goal_by G.Negation us w l ts gs).part
form-same G.Existential us w l no_term gs h = branch_of-same l (goal_by G.Existential us w l no_term gs).part
form-same G.Existential us w l (more_terms q ts) [] h = branch_of-same l (goal_by G.Existential us w l (more_terms q ts) []).part
form-same G.Existential us w l (more_terms q ts) (p ∷ []) h = branch_of-same l (goal_by G.Existential us w l (more_terms q ts) (p ∷ [])).part
form-same G.Existential us w l (more_terms q ts) (p ∷ g ∷ gs) h = branch_of-same l (goal_by G.Existential us w l (more_terms q ts) (p ∷ g ∷ gs)).part
form-same G.Universal us w l ts gs h = branch_of-same l (goal_by G.Universal us w l ts gs).part
form-same G.Implication us w l ts gs h = branch_of-same l (goal_by G.Implication us w l ts gs).part
form-same G.ReverseImplication us w l ts gs h = branch_of-same l (goal_by G.ReverseImplication us w l ts gs).part
form-same G.Equivalence us w l ts gs h = branch_of-same l (goal_by G.Equivalence us w l ts gs).part
form-same G.Unification us w l ts gs h = branch_of-same l (goal_by G.Unification us w l ts gs).part
form-same G.Disunification us w l ts gs h = branch_of-same l (goal_by G.Disunification us w l ts gs).part
form-same G.Call us w l ts gs h = branch_of-same l (goal_by G.Call us w l ts gs).part

mutual
  pub branch-same : (t : PlainTerm) → IsSame (goal_of t).branch
  branch-same (at (App w ts) l) = form-same (goal_form w (count ts)) (updated (at (App w ts) l)) w l ts (goals_of ts) (first-same ts)
  branch-same (at (Conj ts) l) = branch_of-same l (goal_of (at (Conj ts) l)).part
  branch-same (at (Disj ts) l) = branch_of-same l (goal_of (at (Disj ts) l)).part
  branch-same (at (Var x) l) = branch_of-same l (goal_of (at (Var x) l)).part
  branch-same (at (Int n) l) = branch_of-same l (goal_of (at (Int n) l)).part
  branch-same (at (Str s) l) = branch_of-same l (goal_of (at (Str s) l)).part
  branch-same (at (Items ts) l) = branch_of-same l (goal_of (at (Items ts) l)).part
  branch-same (at (Tailed ts t) l) = branch_of-same l (goal_of (at (Tailed ts t) l)).part

  first-same : (ts : PlainTerms) → FirstIsSame (goals_of ts)
  first-same no_term = tt
  first-same (more_terms t ts) = branch-same t
