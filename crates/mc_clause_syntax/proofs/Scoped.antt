-- Scopes that have the same names.
use Rattle.std.proofs.Common.{◌≡◌, ℕ, Bool, true, false, ◌&&◌, ◌||◌, List, [], ◌∷◌, ◌++◌, Option, Some, None, refl, ap, ap₂, sym, ◌∙◌, codes, nat_le}
use Rattle.std.specs.Str.{bytes_eq}
use Rattle.std.proofs.lemmas.List.Folds.{list_any-append}
use Rattle.std.proofs.Math.Bool.{or_assoc, or_comm, or-false}
use Rattle.mc_base.specs.NameSets.{put_all}
use Rattle.mc_base.proofs.NameSetLaws.{is_member-put_all}
use Rattle.mc_term_data.specs.Names.{count}
use Rattle.mc_term_data.specs.Plain.{PlainTerm, PlainTerms, at, no_term, more_terms, Var, Int, Str, App, Items, Tailed, Conj, Disj}
use Rattle.mc_clause_syntax.specs.declared.goal_form.GoalContext.{GoalContext}
use Rattle.mc_clause_syntax.specs.declared.goal_form.Parts.{Parts}
use Rattle.mc_clause_syntax.specs.declared.goal_form.Parts.TheVariants.{Nothing, Goals, Quantified, Sides, Arguments}
use Rattle.mc_clause_syntax.specs.declared.state.StateForm.{StateForm}
use Rattle.mc_clause_syntax.specs.declared.state.StateForm.TheVariants.{Both, Before, After}
use Rattle.mc_clause_syntax.specs.declared.goal_form.GoalContext.TheVariants.{Whole}
use Rattle.mc_clause_syntax.specs.GoalForms.{goal_form, parts}
use Rattle.mc_clause_syntax.specs.StateVariables.{state}
use Rattle.mc_clause_syntax.specs.Goals.{is_goal, equivalences}
use Rattle.mc_clause_syntax.specs.Clauses.{greatest_equivalences, is_head, is_head_of, is_headed, is_body}
use Rattle.mc_term_data.specs.Shapes.{operands}
use Rattle.mc_clause_syntax.specs.States.{in_scope, quantified, names_behind, placed_state, placed, all_placed, goal_placed, parts_placed, goals_placed}
use Rattle.mc_clause_syntax.specs.code.Scopes.{all_names}

abbrev pub HaveSame : List (List ℕ) → List (List ℕ) → Type 0
HaveSame a b = (x : List ℕ) → in_scope a x ≡ in_scope b x

pub parts_are_goals : (scope : List (List ℕ)) (a b : GoalContext) (ts : PlainTerms) → parts_placed scope scope (Goals a b) ts ≡ goals_placed scope ts
parts_are_goals scope a b no_term = refl
parts_are_goals scope a b (more_terms t ts) = refl

state_same : (a b : List (List ℕ)) → HaveSame a b → (is_argument : Bool) (s : Option (StateForm × List ℕ)) → placed_state a is_argument s ≡ placed_state b is_argument s
state_same a b h k None = refl
state_same a b h k (Some (Both, x)) = ap (λ r. k && r) (h x)
state_same a b h k (Some (Before, x)) = h x
state_same a b h k (Some (After, x)) = h x

mutual
  pub term_same : (a b : List (List ℕ)) → HaveSame a b → (k : Bool) (t : PlainTerm) → placed a k t ≡ placed b k t
  term_same a b h k (at (App w ts) l) = ap₂ (λ p q. p && q) (state_same a b h k (state w ts)) (terms_same a b h true ts)
  term_same a b h k (at (Items ts) l) = terms_same a b h false ts
  term_same a b h k (at (Tailed ts t) l) = ap₂ (λ p q. p && q) (terms_same a b h false ts) (term_same a b h false t)
  term_same a b h k (at (Conj ts) l) = terms_same a b h false ts
  term_same a b h k (at (Disj ts) l) = terms_same a b h false ts
  term_same a b h k (at (Var x) l) = refl
  term_same a b h k (at (Int n) l) = refl
  term_same a b h k (at (Str s) l) = refl

  pub terms_same : (a b : List (List ℕ)) → HaveSame a b → (k : Bool) (ts : PlainTerms) → all_placed a k ts ≡ all_placed b k ts
  terms_same a b h k no_term = refl
  terms_same a b h k (more_terms t ts) = ap₂ (λ p q. p && q) (term_same a b h k t) (terms_same a b h k ts)

behind : (a b names : List (List ℕ)) → HaveSame a b → HaveSame (names ++ a) (names ++ b)
behind a b names h x = list_any-append (bytes_eq x) names a ∙ ap (λ r. in_scope names x || r) (h x) ∙ sym (list_any-append (bytes_eq x) names b)

mutual
  pub goal_same : (a b : List (List ℕ)) → HaveSame a b → (t : PlainTerm) → goal_placed a t ≡ goal_placed b t
  goal_same a b h (at (Conj ts) l) = goals_same a b h ts
  goal_same a b h (at (Disj ts) l) = goals_same a b h ts
  goal_same a b h (at (App w ts) l) =
      let names = names_behind (goal_form w (count ts)) ts in parts_same a b (names ++ a) (names ++ b) h (behind a b names h) (parts (goal_form w (count ts))) ts
  goal_same a b h (at (Var x) l) = refl
  goal_same a b h (at (Int n) l) = refl
  goal_same a b h (at (Str s) l) = refl
  goal_same a b h (at (Items ts) l) = refl
  goal_same a b h (at (Tailed ts t) l) = refl

  parts_same : (a b c d : List (List ℕ)) → HaveSame a b → HaveSame c d → (p : Parts) (ts : PlainTerms) → parts_placed a c p ts ≡ parts_placed b d p ts
  parts_same a b c d h k Nothing ts = refl
  parts_same a b c d h k (Goals m n) no_term = refl
  parts_same a b c d h k (Goals m n) (more_terms t ts) = ap₂ (λ p q. p && q) (goal_same a b h t) (goals_same c d k ts)
  parts_same a b c d h k Quantified no_term = refl
  parts_same a b c d h k Quantified (more_terms t ts) = goals_same (quantified t ++ a) (quantified t ++ b) (behind a b (quantified t) h) ts
  parts_same a b c d h k Sides ts = terms_same a b h false ts
  parts_same a b c d h k Arguments ts = terms_same a b h true ts

  pub goals_same : (a b : List (List ℕ)) → HaveSame a b → (ts : PlainTerms) → goals_placed a ts ≡ goals_placed b ts
  goals_same a b h no_term = refl
  goals_same a b h (more_terms t ts) = ap₂ (λ p q. p && q) (goal_same a b h t) (goals_same a b h ts)

in_scope-put_all : (names : List (List ℕ)) (x : List ℕ) → in_scope (put_all [] names) x ≡ in_scope names x
in_scope-put_all names x = is_member-put_all [] names x

in_scope-pushed : (sets : List (List (List ℕ))) (set : List (List ℕ)) (x : List ℕ) → in_scope (all_names (sets ++ set ∷ [])) x ≡ (in_scope (all_names sets) x || in_scope set x)
in_scope-pushed [] set x = list_any-append (bytes_eq x) set [] ∙ or-false (in_scope set x)
in_scope-pushed (s ∷ sets) set x =
    list_any-append (bytes_eq x) s (all_names (sets ++ set ∷ []))
    ∙ ap (λ r. in_scope s x || r) (in_scope-pushed sets set x)
    ∙ sym (or_assoc (in_scope s x) (in_scope (all_names sets) x) (in_scope set x))
    ∙ ap (λ r. r || in_scope set x) (sym (list_any-append (bytes_eq x) s (all_names sets)))

-- the names that a quantifier gives, as the innermost scope
pub entered : (sets : List (List (List ℕ))) (names : List (List ℕ)) → HaveSame (all_names (sets ++ put_all [] names ∷ [])) (names ++ all_names sets)
entered sets names x =
    in_scope-pushed sets (put_all [] names) x
    ∙ ap (λ r. in_scope (all_names sets) x || r) (in_scope-put_all names x)
    ∙ or_comm (in_scope (all_names sets) x) (in_scope names x)
    ∙ sym (list_any-append (bytes_eq x) names (all_names sets))

-- the names in a clause's head, as a set
pub headed : (names : List (List ℕ)) → HaveSame (put_all [] names) names
headed names x = in_scope-put_all names x

pub head_same : (a b : List (List ℕ)) → HaveSame a b → (t : PlainTerm) → is_head a t ≡ is_head b t
head_same a b h t = by (operands (codes "=") t)
  where
    by : (o : Option (PlainTerm × PlainTerm)) → is_head_of a t o ≡ is_head_of b t o
    by None = ap (λ p. is_headed t && p) (term_same a b h false t)
    by (Some (f, r)) = ap₂ (λ p q. is_headed f && p && q) (term_same a b h false f) (term_same a b h false r)

pub body_same : (a b : List (List ℕ)) → HaveSame a b → (t : PlainTerm) → is_body a t ≡ is_body b t
body_same a b h t = ap (λ p. is_goal Whole t && nat_le (equivalences t) greatest_equivalences && p) (goal_same a b h t)
