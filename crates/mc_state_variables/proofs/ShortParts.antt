-- Names over fewer parts than their forms have.
use Rattle.std.proofs.Common.{◌≡◌, ℕ, ◌<◌, Bool, true, false, List, [], ◌∷◌, length, map, refl, arith}
use Rattle.mc_term_data.specs.Plain.{PlainTerm, at, App, plain_term, term_list}
use Rattle.mc_term_data.specs.declared.term.Term.{Term}
use Rattle.mc_clause_syntax.specs.declared.goal_form.GoalForm.{GoalForm}
use Rattle.mc_clause_syntax.specs.declared.goal_form.GoalForm.TheVariants as G
use Rattle.mc_state_variables.specs.Versions.{Held}
use Rattle.mc_state_variables.specs.Numbered.{Written, written}
use Rattle.mc_state_variables.specs.code.Conditions.{written_goal}

abbrev pub has_two : GoalForm → Bool
has_two G.Arrow = true
has_two G.Then = true
has_two G.Existential = true
has_two G.Universal = true
has_two G.Implication = true
has_two G.ReverseImplication = true
has_two G.Equivalence = true
has_two _ = false

abbrev pub has_one : GoalForm → Bool
has_one G.If = true
has_one G.Negation = true
has_one _ = false

-- such a name stays what it is
pub short_of_two : (f : GoalForm) (w : List (List ℕ)) (l : ℕ) (ts : List Term) (hs : List Held) (n : ℕ) → has_two f ≡ true → length ts < 2
    → written (at (App w (term_list (map plain_term ts))) l) n ≡ written_goal f w l (term_list (map plain_term ts)) hs n
short_of_two G.True w l ts hs n e h = cc
short_of_two G.Fail w l ts hs n e h = cc
short_of_two G.Conjunction w l ts hs n e h = cc
short_of_two G.Disjunction w l ts hs n e h = cc
short_of_two G.Arrow w l [] hs n e h = refl
short_of_two G.Arrow w l (t ∷ []) hs n e h = refl
short_of_two G.Arrow w l (t ∷ u ∷ ts) hs n e h = absurd (omega arith)
short_of_two G.If w l ts hs n e h = cc
short_of_two G.Then w l [] hs n e h = refl
short_of_two G.Then w l (t ∷ []) hs n e h = refl
short_of_two G.Then w l (t ∷ u ∷ ts) hs n e h = absurd (omega arith)
short_of_two G.Else w l ts hs n e h = cc
short_of_two G.Negation w l ts hs n e h = cc
short_of_two G.Existential w l [] hs n e h = refl
short_of_two G.Existential w l (t ∷ []) hs n e h = refl
short_of_two G.Existential w l (t ∷ u ∷ ts) hs n e h = absurd (omega arith)
short_of_two G.Universal w l [] hs n e h = refl
short_of_two G.Universal w l (t ∷ []) hs n e h = refl
short_of_two G.Universal w l (t ∷ u ∷ ts) hs n e h = absurd (omega arith)
short_of_two G.Implication w l [] hs n e h = refl
short_of_two G.Implication w l (t ∷ []) hs n e h = refl
short_of_two G.Implication w l (t ∷ u ∷ ts) hs n e h = absurd (omega arith)
short_of_two G.ReverseImplication w l [] hs n e h = refl
short_of_two G.ReverseImplication w l (t ∷ []) hs n e h = refl
short_of_two G.ReverseImplication w l (t ∷ u ∷ ts) hs n e h = absurd (omega arith)
short_of_two G.Equivalence w l [] hs n e h = refl
short_of_two G.Equivalence w l (t ∷ []) hs n e h = refl
short_of_two G.Equivalence w l (t ∷ u ∷ ts) hs n e h = absurd (omega arith)
short_of_two G.Unification w l ts hs n e h = cc
short_of_two G.Disunification w l ts hs n e h = cc
short_of_two G.Call w l ts hs n e h = cc

pub short_of_one : (f : GoalForm) (w : List (List ℕ)) (l : ℕ) (ts : List Term) (hs : List Held) (n : ℕ) → has_one f ≡ true → length ts < 1
    → written (at (App w (term_list (map plain_term ts))) l) n ≡ written_goal f w l (term_list (map plain_term ts)) hs n
short_of_one G.True w l ts hs n e h = cc
short_of_one G.Fail w l ts hs n e h = cc
short_of_one G.Conjunction w l ts hs n e h = cc
short_of_one G.Disjunction w l ts hs n e h = cc
short_of_one G.Arrow w l ts hs n e h = cc
short_of_one G.If w l [] hs n e h = refl
short_of_one G.If w l (t ∷ ts) hs n e h = absurd (omega arith)
short_of_one G.Then w l ts hs n e h = cc
short_of_one G.Else w l ts hs n e h = cc
short_of_one G.Negation w l [] hs n e h = refl
short_of_one G.Negation w l (t ∷ ts) hs n e h = absurd (omega arith)
short_of_one G.Existential w l ts hs n e h = cc
short_of_one G.Universal w l ts hs n e h = cc
short_of_one G.Implication w l ts hs n e h = cc
short_of_one G.ReverseImplication w l ts hs n e h = cc
short_of_one G.Equivalence w l ts hs n e h = cc
short_of_one G.Unification w l ts hs n e h = cc
short_of_one G.Disunification w l ts hs n e h = cc
short_of_one G.Call w l ts hs n e h = cc
