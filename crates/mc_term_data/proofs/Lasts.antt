-- The last part of a term and the parts before it.
use Rattle.std.proofs.Common.{◌≡◌, ℕ, zero, suc, ◌+◌, ◌-◌, ◌≤◌, ◌<◌, ◌↔◌, Bool, IsTrue, List, [], ◌∷◌, ◌++◌, length, map, take, get_or, Some, None, refl, ap, ap₂, sym, ◌∙◌, arith}
use Rattle.std.proofs.lemmas.List.{take_more, take_all, map-append, take-map, length-map}
use Rattle.mc_term_data.specs.declared.term.Term.{Term}
use Rattle.mc_term_data.specs.Plain.{PlainTerm, no_term, term_list, plain_term, plain_terms}
use Rattle.mc_term_data.specs.code.LastParts.{last_from, last_term}

pub tms_same : (ts us : List PlainTerm) → term_list ts ≡ term_list us → ts ≡ us
tms_same [] [] e = refl
tms_same [] (u ∷ us) e = cc
tms_same (t ∷ ts) [] e = cc
tms_same (t ∷ ts) (u ∷ us) e =
    let heads : t ≡ u = cc in
    ap₂ (λ v vs. v ∷ vs) heads (tms_same ts us cc)

from_snoc : (u : PlainTerm) (us : List PlainTerm) (t : PlainTerm) → last_from u (term_list (us ++ (t ∷ []))) ≡ t
from_snoc u [] t = refl
from_snoc u (v ∷ vs) t = from_snoc v vs t

last_snoc : (ts : List PlainTerm) (t : PlainTerm) → last_term (term_list (ts ++ (t ∷ []))) ≡ Some t
last_snoc [] t = refl
last_snoc (u ∷ us) t = ap Some (from_snoc u us t)

-- a list is its front and its last element
front_last : (xs : List Term) (last : Term) → 1 ≤ length xs → last ≡ get_or xs (length xs - 1) last → xs ≡ take (length xs - 1) xs ++ (last ∷ [])
front_last xs last le e =
    let n = length xs - 1 in
    let whole : take (n + 1) xs ≡ xs = take_all (n + 1) xs (omega arith) in
    sym whole ∙ take_more xs n last (omega arith) ∙ ap (λ y. take n xs ++ (y ∷ [])) (sym e)

plain_front_last : (xs front : List Term) (last : Term) → xs ≡ front ++ (last ∷ []) → map plain_term xs ≡ map plain_term front ++ (plain_term last ∷ [])
plain_front_last xs front last e = ap (map plain_term) e ∙ map-append plain_term front (last ∷ [])

-- the last of the terms of a row
pub last_of_row : (xs : List Term) (last : Term) → 1 ≤ length xs → last ≡ get_or xs (length xs - 1) last → last_term (plain_terms xs) ≡ Some (plain_term last)
last_of_row xs last le e =
    ap (λ ts. last_term (term_list ts)) (plain_front_last xs (take (length xs - 1) xs) last (front_last xs last le e)) ∙ last_snoc (map plain_term (take (length xs - 1) xs)) (plain_term last)

-- terms are the front of theirs and the last one
front_of : (n : ℕ) (ts : List PlainTerm) (u : PlainTerm) → length ts ≡ suc n → last_term (term_list ts) ≡ Some u → ts ≡ take n ts ++ (u ∷ [])
front_of zero [] u le e = cc
front_of zero (t ∷ []) u le e = cc
front_of zero (t ∷ v ∷ vs) u le e = absurd (omega arith)
front_of (suc n) [] u le e = cc
front_of (suc n) (t ∷ []) u le e = absurd (omega arith)
front_of (suc n) (t ∷ v ∷ vs) u le e = ap (λ ws. t ∷ ws) (front_of n (v ∷ vs) u (omega arith) e)

pub plain_front_of : (xs : List Term) (u : PlainTerm) → 1 ≤ length xs → last_term (plain_terms xs) ≡ Some u → map plain_term xs ≡ map plain_term (take (length xs - 1) xs) ++ (u ∷ [])
plain_front_of xs u le e =
    let n = length xs - 1 in
    front_of n (map plain_term xs) u (omega (arith, length-map xs plain_term)) e ∙ ap (λ ts. ts ++ (u ∷ [])) (take-map plain_term n xs)

pub has_last : (xs : List Term) → 1 ≤ length xs → last_term (plain_terms xs) ≡ None → ⊥
has_last [] le e = omega arith
has_last (x ∷ xs) le e = cc

-- copies of the front of some terms and of the last one
pub row_copied : (xs ts us : List Term) (t : Term) → 1 ≤ length xs → map plain_term ts ≡ map plain_term (take (length xs - 1) xs) → us ≡ ts ++ (t ∷ []) → last_term (plain_terms xs) ≡ Some (plain_term t) → map plain_term us ≡ map plain_term xs
row_copied xs ts us t le e is last =
    plain_front_last us ts t is ∙ ap (λ vs. vs ++ (plain_term t ∷ [])) e ∙ sym (plain_front_of xs (plain_term t) le last)

-- two rows of terms with the same last one
same_rows : (xs ys : List Term) → 1 ≤ length xs → 1 ≤ length ys → last_term (plain_terms xs) ≡ last_term (plain_terms ys) → plain_terms (take (length xs - 1) xs) ≡ plain_terms (take (length ys - 1) ys) → plain_terms xs ≡ plain_terms ys
same_rows [] ys le me e same = absurd (omega arith)
same_rows (x ∷ xs) ys le me e same =
    let u = last_from (plain_term x) (plain_terms xs) in
    ap term_list (plain_front_of (x ∷ xs) u le refl ∙ ap (λ ts. ts ++ (u ∷ [])) (tms_same _ _ same) ∙ sym (plain_front_of ys u me (sym e)))

pub as_long : (xs ys : List Term) → plain_terms xs ≡ plain_terms ys → length xs ≡ length ys
as_long xs ys e = sym (length-map xs plain_term) ∙ ap length (tms_same _ _ e) ∙ length-map ys plain_term

same_fronts : (xs ys : List Term) → plain_terms xs ≡ plain_terms ys → plain_terms (take (length xs - 1) xs) ≡ plain_terms (take (length ys - 1) ys)
same_fronts xs ys e =
    let same : map plain_term xs ≡ map plain_term ys = tms_same _ _ e in
    ap term_list (sym (take-map plain_term (length xs - 1) xs) ∙ ap₂ (λ n ts. take (n - 1) ts) (as_long xs ys e) same ∙ take-map plain_term (length ys - 1) ys)

-- a test of the fronts is one of the rows, where the last terms are the same
pub rows_by_fronts : (r : Bool) (xs ys vs ws : List Term) → xs ≡ vs → ys ≡ ws → 1 ≤ length xs → 1 ≤ length ys → (IsTrue r ↔ (plain_terms (take (length xs - 1) xs) ≡ plain_terms (take (length ys - 1) ys))) → last_term (plain_terms vs) ≡ last_term (plain_terms ws) → IsTrue r ↔ (plain_terms vs ≡ plain_terms ws)
rows_by_fronts r xs ys vs ws e f le me test last =
    let p = ap plain_terms e in
    let q = ap plain_terms f in (
      (λ yes. sym p ∙ same_rows xs ys le me (ap last_term p ∙ last ∙ sym (ap last_term q)) (test.0 yes) ∙ q),
      (λ same. test.1 (same_fronts xs ys (p ∙ same ∙ sym q))),
    )

items_same : (xs ys : List Term) (k : ℕ) (x y : Term) → k < length xs → x ≡ get_or xs k x → y ≡ get_or ys k y → map plain_term xs ≡ map plain_term ys → plain_term x ≡ plain_term y
items_same [] ys k x y le is js e = absurd (omega arith)
items_same (a ∷ xs) [] k x y le is js e = cc
items_same (a ∷ xs) (b ∷ ys) zero x y le is js e =
    let heads : plain_term a ≡ plain_term b = cc in
    ap plain_term is ∙ heads ∙ sym (ap plain_term js)
items_same (a ∷ xs) (b ∷ ys) (suc k) x y le is js e = items_same xs ys k x y (omega arith) is js cc

-- the same terms stand at the same place of two lists that are the same
pub at_same_place : (xs ys : List Term) (k : ℕ) (x y : Term) → k < length xs → x ≡ get_or xs k x → y ≡ get_or ys k y → plain_terms xs ≡ plain_terms ys → plain_term x ≡ plain_term y
at_same_place xs ys k x y le is js e = items_same xs ys k x y le is js (tms_same _ _ e)

pub some_same : (t u : PlainTerm) → Some t ≡ Some u → t ≡ u
some_same t u e = cc

is_empty : (ys : List Term) → plain_terms ys ≡ no_term → ys ≡ []
is_empty [] e = refl
is_empty (y ∷ ys) e = cc

pub empty_test : (r : Bool) (xs ys : List Term) → length xs < 1 → (IsTrue r ↔ (ys ≡ [])) → IsTrue r ↔ (plain_terms xs ≡ plain_terms ys)
empty_test r [] ys le test = ((λ yes. sym (ap plain_terms (test.0 yes))), (λ same. test.1 (is_empty ys (sym same))))
empty_test r (x ∷ xs) ys le test = absurd (omega arith)
