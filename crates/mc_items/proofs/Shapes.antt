-- What a test of terms says of a slice by its length.
use Rattle.std.proofs.Common.{◌≡◌, ℕ, ◌≤◌, ◌<◌, false, List, [], ◌∷◌, length, map, get_or, ◌∙◌, refl, ap, arith}
use Rattle.mc_term_data.specs.Plain.{PlainTerm, PlainTerms, no_term, more_terms, plain_term, term_list}
use Rattle.mc_term_data.specs.declared.term.Term.{Term}
use Rattle.mc_items.specs.Declarations.{is_order, declared}

-- two functions that agree on all but a single term
pub unless_one : {X : Type 0} (f g : PlainTerms → X)
    → f no_term ≡ g no_term
    → ((t u : PlainTerm) (ts : PlainTerms) → f (more_terms t (more_terms u ts)) ≡ g (more_terms t (more_terms u ts)))
    → (ts : List Term) → (length ts ≡ 1 → ⊥) → f (term_list (map plain_term ts)) ≡ g (term_list (map plain_term ts))
unless_one f g none more [] h = none
unless_one f g none more (t ∷ []) h = absurd (h refl)
unless_one f g none more (t ∷ u ∷ ts) h = more (plain_term t) (plain_term u) (term_list (map plain_term ts))

-- two functions that agree on all but two terms
pub unless_two : {X : Type 0} (f g : PlainTerms → X)
    → f no_term ≡ g no_term
    → ((t : PlainTerm) → f (more_terms t no_term) ≡ g (more_terms t no_term))
    → ((t u v : PlainTerm) (ts : PlainTerms) → f (more_terms t (more_terms u (more_terms v ts))) ≡ g (more_terms t (more_terms u (more_terms v ts))))
    → (ts : List Term) → (length ts ≡ 2 → ⊥) → f (term_list (map plain_term ts)) ≡ g (term_list (map plain_term ts))
unless_two f g none one more [] h = none
unless_two f g none one more (t ∷ []) h = one (plain_term t)
unless_two f g none one more (t ∷ u ∷ []) h = absurd (h refl)
unless_two f g none one more (t ∷ u ∷ v ∷ ts) h = more (plain_term t) (plain_term u) (plain_term v) (term_list (map plain_term ts))

-- a function of the first of two terms
pub first_of_two : {X : Type 0} (f : PlainTerm → X) (g : PlainTerms → X)
    → ((t u : PlainTerm) → f t ≡ g (more_terms t (more_terms u no_term)))
    → (ts : List Term) (t : Term) → 2 ≤ length ts → length ts < 3 → t ≡ get_or ts 0 t → f (plain_term t) ≡ g (term_list (map plain_term ts))
first_of_two f g two [] t lo hi e = absurd (omega arith)
first_of_two f g two (u ∷ []) t lo hi e = absurd (omega arith)
first_of_two f g two (u ∷ v ∷ []) t lo hi e = ap (λ x. f (plain_term x)) e ∙ two (plain_term u) (plain_term v)
first_of_two f g two (u ∷ v ∷ x ∷ ts) t lo hi e = absurd (omega arith)

pub declared-one : (w : List ℕ) (ts : List Term) → 1 ≤ length ts → length ts < 2 → is_order w ≡ declared w (term_list (map plain_term ts))
declared-one w [] lo hi = absurd (omega arith)
declared-one w (t ∷ []) lo hi = refl
declared-one w (t ∷ u ∷ ts) lo hi = absurd (omega arith)

pub declared-more : (w : List ℕ) (ts : List Term) → 3 ≤ length ts → false ≡ declared w (term_list (map plain_term ts))
declared-more w [] lo = refl
declared-more w (t ∷ []) lo = absurd (omega arith)
declared-more w (t ∷ u ∷ []) lo = absurd (omega arith)
declared-more w (t ∷ u ∷ v ∷ ts) lo = refl
