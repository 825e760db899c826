-- Names, state variables in scope and terms that are added one after another.
use Rattle.std.proofs.Common.{◌≡◌, ℕ, suc, List, [], ◌∷◌, ◌++◌, map, reverse, drop, length, ◌≤◌, ap, sym, refl, ◌∙◌, Result, Ok, Err, IfOk, append_assoc, Bor}
use Rattle.std.proofs.lemmas.List.{append-nil, drop_all, map-append}
use Rattle.std.proofs.lemmas.Grind.{reverse_onto}
use Rattle.mc_term_data.specs.Plain.{PlainTerm, PlainTerms, no_term, more_terms, plain_term, term_list}
use Rattle.mc_term_data.specs.declared.term.Term.{Term}
use Rattle.mc_clause_syntax.specs.States.{names_of}
use Rattle.mc_state_variables.specs.declared.held.Held.{Held}
use Rattle.mc_state_variables.specs.Versions as V
use Rattle.mc_state_variables.specs.Versions.{begun, behind}
use Rattle.mc_state_variables.specs.code.Helds.{plain_held, plain_helds, listed}

pub names-none : (xs : List (List ℕ)) → xs ++ [] ≡ xs
names-none = append-nil

pub names-pushed : (xs : List (Bor (List ℕ))) (x : Bor (List ℕ)) → names_of (xs ++ x ∷ []) ≡ names_of xs ++ x.now ∷ []
names-pushed [] x = refl
names-pushed (y ∷ xs) x = ap (λ ys. y.now ∷ ys) (names-pushed xs x)

pub names-appended : (xs ys zs : List (List ℕ)) → (xs ++ ys) ++ zs ≡ xs ++ (ys ++ zs)
names-appended = append_assoc

pub helds-none : (xs : List V.Held) → xs ++ [] ≡ xs
helds-none = append-nil

pub helds-pushed : (xs : List Held) (x : Held) → plain_helds (xs ++ x ∷ []) ≡ plain_helds xs ++ plain_held x ∷ []
helds-pushed [] x = refl
helds-pushed (y ∷ xs) x = ap (λ ys. plain_held y ∷ ys) (helds-pushed xs x)

pub helds-appended : (xs ys zs : List V.Held) → (xs ++ ys) ++ zs ≡ xs ++ (ys ++ zs)
helds-appended = append_assoc

pub terms-none : (xs : List PlainTerm) → xs ++ [] ≡ xs
terms-none = append-nil

pub terms-pushed : (ts : List Term) (t : Term) → map plain_term (ts ++ t ∷ []) ≡ map plain_term ts ++ plain_term t ∷ []
terms-pushed [] t = refl
terms-pushed (s ∷ ts) t = ap (λ us. plain_term s ∷ us) (terms-pushed ts t)

pub terms-appended : (xs ys zs : List PlainTerm) → (xs ++ ys) ++ zs ≡ xs ++ (ys ++ zs)
terms-appended = append_assoc

pub terms-listed : (ts : PlainTerms) → term_list (listed ts) ≡ ts
terms-listed no_term = refl
terms-listed (more_terms t ts) = ap (λ us. more_terms t us) (terms-listed ts)

-- terms that are these as a list
pub terms_from_list : (ts : List PlainTerm) (us : PlainTerms) → ts ≡ listed us → term_list ts ≡ us
terms_from_list ts us e = ap term_list e ∙ terms-listed us

-- a row of such terms
pub row_from_list : {E : Type 0} (r : Result (List Term) E) (ts : List Term) (us : PlainTerms) → IfOk r (λ row. row ≡ ts) → map plain_term ts ≡ listed us → IfOk r (λ row. term_list (map plain_term row) ≡ us)
row_from_list (Ok row) ts us e f = terms_from_list (map plain_term row) us (ap (map plain_term) e ∙ f)
row_from_list (Err x) ts us e f = tt

-- the terms so far are all, where none is left
pub none_left : (xs : List PlainTerm) (i : ℕ) (ts : List Term) (f : List Term → List PlainTerm) → length ts ≤ i → f [] ≡ [] → xs ++ f (drop i ts) ≡ f ts → xs ≡ f ts
none_left xs i ts f h e all =
    let end : drop i ts ≡ [] = drop_all i ts h in sym (append-nil xs) ∙ ap (λ ys. xs ++ ys) (sym e ∙ ap f (sym end)) ∙ all

pub listed_terms : (ts : List PlainTerm) → listed (term_list ts) ≡ ts
listed_terms [] = refl
listed_terms (t ∷ ts) = ap (λ us. t ∷ us) (listed_terms ts)

pub map_reverse : {A B : Type 0} (f : A → B) (xs : List A) → map f (reverse xs) ≡ reverse (map f xs)
map_reverse f [] = refl
map_reverse f (x ∷ xs) =
    ap (map f) (reverse_onto xs x []) ∙ map-append f (reverse xs) (x ∷ []) ∙ ap (λ ys. ys ++ f x ∷ []) (map_reverse f xs) ∙ sym (reverse_onto (map f xs) (f x) [])

-- what adds at the end
pub ruleset adding = (names-none, names-pushed, names-appended, helds-none, helds-pushed, helds-appended, terms-none, terms-pushed, terms-appended, terms-listed, listed_terms)
