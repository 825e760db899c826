-- Terms without state variables, which stay what they are.
use Rattle.std.proofs.Common.{◌≡◌, ℕ, Bool, true, false, not, ◌&&◌, ◌≤◌, List, [], ◌∷◌, ◌++◌, Option, Some, None, length, map, refl, ap, ap₂, sym, ◌∙◌, arith}
use Rattle.std.specs.Prelude.{◌↔◌, IsTrue, codes}
use Rattle.mc_base.proofs.Booleans.{left_true, right_true}
use Rattle.mc_term_data.specs.Plain.{PlainTerm, PlainTerms, at, no_term, more_terms, App, Items, Tailed, Conj, Disj, plain_term, term_list}
use Rattle.mc_term_data.specs.declared.term.Term.{Term}
use Rattle.mc_term_data.specs.Names.{found}
use Rattle.mc_term_data.specs.Shapes.{operands}
use Rattle.mc_clause_syntax.specs.declared.state.StateForm.{StateForm}
use Rattle.mc_clause_syntax.specs.declared.state_names.StatesWanted.TheVariants.{Every}
use Rattle.mc_clause_syntax.specs.StateVariables.{state_rows, named, state, some_state, is_state}
use Rattle.mc_clause_syntax.specs.States.{wanted_name, states_of, states_in_all}
use Rattle.mc_state_variables.specs.Versions.{Held, distinct, begun, closings}
use Rattle.mc_state_variables.specs.Numbered.{with_before, behind_before, version_or, term_of, terms_of, line_of, fact_of, clause_of, numbered_clause}
use Rattle.mc_state_variables.specs.code.Stateless.{stateless, all_stateless}

-- A NAME over several parts is no state variable.
nothing_named : (f : Option StateForm) → true ≡ not (some_state (named f None))
nothing_named None = refl
nothing_named (Some f) = refl

pub several_are_none :
    (w : List (List ℕ)) (ts : List Term)
    → 2 ≤ length ts → true ≡ not (is_state w (term_list (map plain_term ts)))
several_are_none w [] h = absurd (omega arith)
several_are_none w (t ∷ []) h = absurd (omega arith)
several_are_none [] (t ∷ u ∷ ts) h = refl
several_are_none (w ∷ []) (t ∷ u ∷ ts) h = nothing_named (found state_rows w 1)
several_are_none (w ∷ v ∷ ws) (t ∷ u ∷ ts) h = refl

-- THE NAMES of the state variables in a term are none exactly where no state variable stands in it.
abbrev are_none : List (List ℕ) → Bool
are_none [] = true
are_none (x ∷ xs) = false

no_names : (xs : List (List ℕ)) → are_none xs ≡ true → xs ≡ []
no_names [] e = refl
no_names (x ∷ xs) e = cc

none_in_both : (xs ys : List (List ℕ)) → (are_none xs && are_none ys) ≡ are_none (xs ++ ys)
none_in_both [] ys = refl
none_in_both (x ∷ xs) ys = refl

none_wanted :
    (s : Option (StateForm × List ℕ)) → not (some_state s) ≡ are_none (wanted_name Every s)
none_wanted None = refl
none_wanted (Some s) = refl

mutual
  is_nameless : (t : PlainTerm) → stateless t ≡ are_none (states_of t)
  is_nameless (at (App w ts) l) =
      ap₂ (λ a b. a && b) (none_wanted (state w ts)) (are_nameless ts)
      ∙ none_in_both (wanted_name Every (state w ts)) (states_in_all Every ts)
  is_nameless (at (Items ts) l) = are_nameless ts
  is_nameless (at (Tailed ts t) l) =
      ap₂ (λ a b. a && b) (are_nameless ts) (is_nameless t)
      ∙ none_in_both (states_in_all Every ts) (states_of t)
  is_nameless (at (Conj ts) l) = are_nameless ts
  is_nameless (at (Disj ts) l) = are_nameless ts
  is_nameless _ = refl

  are_nameless : (ts : PlainTerms) → all_stateless ts ≡ are_none (states_in_all Every ts)
  are_nameless no_term = refl
  are_nameless (more_terms t ts) =
      ap₂ (λ a b. a && b) (is_nameless t) (are_nameless ts)
      ∙ none_in_both (states_of t) (states_in_all Every ts)

-- WHAT IS WRITTEN of such a term is the term.
version_same :
    (hs : List Held) (s : Option (StateForm × List ℕ)) (l : ℕ) (t : PlainTerm)
    → not (some_state s) ≡ true → version_or hs s l t ≡ t
version_same hs None l t e = refl
version_same hs (Some s) l t e = cc

none_before :
    (hs : List Held) (s : Option (StateForm × List ℕ)) (l : ℕ) (ts : PlainTerms)
    → not (some_state s) ≡ true → with_before hs l s ts ≡ ts
none_before hs None l ts e = refl
none_before hs (Some s) l ts e = cc

none_behind :
    (hs : List Held) (t : PlainTerm) (us : PlainTerms)
    → stateless t ≡ true → behind_before hs t us ≡ us
none_behind hs (at (App w ts) l) us e =
    none_before hs (state w ts) l us (left_true (not (is_state w ts)) (all_stateless ts) e)
none_behind hs _ us e = refl

mutual
  term_same : (hs : List Held) (t : PlainTerm) → stateless t ≡ true → term_of hs t ≡ t
  term_same hs (at (App w ts) l) e =
      version_same hs (state w ts) l (at (App w (terms_of hs ts)) l)
      (left_true (not (is_state w ts)) (all_stateless ts) e)
      ∙ ap (λ us. at (App w us) l)
      (terms_same hs ts (right_true (not (is_state w ts)) (all_stateless ts) e))
  term_same hs (at (Items ts) l) e = ap (λ us. at (Items us) l) (terms_same hs ts e)
  term_same hs (at (Tailed ts t) l) e =
      ap₂ (λ us u. at (Tailed us u) l)
      (terms_same hs ts (left_true (all_stateless ts) (stateless t) e))
      (term_same hs t (right_true (all_stateless ts) (stateless t) e))
  term_same hs (at (Conj ts) l) e = ap (λ us. at (Conj us) l) (terms_same hs ts e)
  term_same hs (at (Disj ts) l) e = ap (λ us. at (Disj us) l) (terms_same hs ts e)
  term_same hs _ e = refl

  terms_same : (hs : List Held) (ts : PlainTerms) → all_stateless ts ≡ true → terms_of hs ts ≡ ts
  terms_same hs no_term e = refl
  terms_same hs (more_terms t ts) e =
      let first = left_true (stateless t) (all_stateless ts) e in
      none_behind hs t (more_terms (term_of hs t) (terms_of hs ts)) first
      ∙ ap₂ more_terms (term_same hs t first)
      (terms_same hs ts (right_true (stateless t) (all_stateless ts) e))

-- A FACT without state variables
pub which_fact :
    (t : PlainTerm) (b : Bool) → None ≡ operands (codes ":-") t → b ≡ stateless t
    → IsTrue b ↔ ((operands (codes ":-") t ≡ None) × (states_of t ≡ []))
which_fact t b o e =
    let is : b ≡ are_none (states_of t) = e ∙ is_nameless t in
    (λ h. (sym o, no_names (states_of t) (sym is ∙ h)), λ h. is ∙ ap are_none h.1)

pub same_fact :
    (t : PlainTerm) → None ≡ operands (codes ":-") t → stateless t ≡ true → numbered_clause t ≡ t
same_fact t o e =
    ap (clause_of t) (sym o)
    ∙ ap
    (λ xs.
    fact_of (line_of t) (term_of (begun 0 (distinct xs)) t)
    (closings xs [] (line_of t) (begun 0 (distinct xs))))
    (no_names (states_of t) (sym (is_nameless t) ∙ e))
    ∙ term_same [] t e
