-- The variables of a clause that are no head arguments stand in their list once, each at its place.
use Rattle.std.proofs.Common.{◌≡◌, inl, inr, ℕ, zero, suc, ◌<◌, List, [], ◌∷◌, length, get_or, Bool, true, false, cond, nat_eq, refl, sym, ap, subst, arith, ⊎_elim}
use Rattle.std.proofs.lemmas.Bool.{eqb-true, eqb-false}
use Rattle.mc_program.specs.Programs.{Expression, ClauseForm}
use Rattle.mc_model.specs.Lists.{In, is_in, without, once, place_in, Distinct}
use Rattle.mc_accepted.specs.Normal.{head_place, has_place, no_arguments, other_variables}
use Rattle.laws_made_types.proofs.ClauseVariables.{clause_variables}

from_without : (x : ℕ) (xs vs : List ℕ) → In x (without xs vs) → In x xs
from_without x [] vs h = h
from_without x (y ∷ ys) vs h = by_test (is_in y vs) h (λ i. from_without x ys vs i)
  where
    by_test : (t : Bool) → In x (cond t (without ys vs) (y ∷ without ys vs)) → (In x (without ys vs) → In x ys) → In x (y ∷ ys)
    by_test true h rest = inr (rest h)
    by_test false h rest = ⊎_elim (λ e. inl e) (λ i. inr (rest i)) h

from_once : (x : ℕ) (xs : List ℕ) → In x (once xs) → In x xs
from_once x [] h = h
from_once x (y ∷ ys) h = ⊎_elim (λ e. inl e) (λ i. inr (from_once x ys (from_without x (once ys) (y ∷ []) i))) h

from_no_arguments : (head : List Expression) (x : ℕ) (xs : List ℕ) → In x (no_arguments head xs) → In x xs
from_no_arguments head x [] h = absurd h
from_no_arguments head x (y ∷ ys) h = by_test (has_place (head_place y head)) h (λ i. from_no_arguments head x ys i)
  where
    by_test : (t : Bool) → In x (cond t (no_arguments head ys) (y ∷ no_arguments head ys)) → (In x (no_arguments head ys) → In x ys) → In x (y ∷ ys)
    by_test true h rest = inr (rest h)
    by_test false h rest = ⊎_elim (λ e. inl e) (λ i. inr (rest i)) h

-- one of the others is a variable of the clause
pub other_is_variable : (c : ClauseForm) (x : ℕ) → In x (other_variables c) → In x (clause_variables c)
other_is_variable c x h = from_once x (clause_variables c) (from_no_arguments c.head x (once (clause_variables c)) h)

-- ONCE

not_left : (y : ℕ) (xs : List ℕ) → In y (without xs (y ∷ [])) → ⊥
not_left y [] h = h
not_left y (x ∷ xs) h = by_test (nat_eq x y) (eqb-false x y) h (λ i. not_left y xs i)
  where
    by_test : (t : Bool) → (t ≡ false → x ≡ y → ⊥) → In y (cond (cond t true false) (without xs (y ∷ [])) (x ∷ without xs (y ∷ []))) → (In y (without xs (y ∷ [])) → ⊥) → ⊥
    by_test true q h rest = rest h
    by_test false q h rest = ⊎_elim (λ e. q refl (sym e)) (λ i. rest i) h

distinct_without : (xs vs : List ℕ) → Distinct xs → Distinct (without xs vs)
distinct_without [] vs h = tt
distinct_without (x ∷ xs) vs h = by_test (is_in x vs) (distinct_without xs vs h.1)
  where
    by_test : (t : Bool) → Distinct (without xs vs) → Distinct (cond t (without xs vs) (x ∷ without xs vs))
    by_test true rest = rest
    by_test false rest = ((λ i. h.0 (from_without x xs vs i)), rest)

distinct_once : (xs : List ℕ) → Distinct (once xs)
distinct_once [] = tt
distinct_once (x ∷ xs) = (not_left x (once xs), distinct_without (once xs) (x ∷ []) (distinct_once xs))

distinct_no_arguments : (head : List Expression) (xs : List ℕ) → Distinct xs → Distinct (no_arguments head xs)
distinct_no_arguments head [] h = tt
distinct_no_arguments head (x ∷ xs) h = by_test (has_place (head_place x head)) (distinct_no_arguments head xs h.1)
  where
    by_test : (t : Bool) → Distinct (no_arguments head xs) → Distinct (cond t (no_arguments head xs) (x ∷ no_arguments head xs))
    by_test true rest = rest
    by_test false rest = ((λ i. h.0 (from_no_arguments head x xs i)), rest)

pub distinct_others : (c : ClauseForm) → Distinct (other_variables c)
distinct_others c = distinct_no_arguments c.head (once (clause_variables c)) (distinct_once (clause_variables c))

pub at_in : (xs : List ℕ) (i d : ℕ) → i < length xs → In (get_or xs i d) xs
at_in [] i d lt = absurd (omega (arith, lt))
at_in (x ∷ xs) zero d lt = inl refl
at_in (x ∷ xs) (suc i) d lt = inr (at_in xs i d (omega (arith, lt)))

pub place_at : (xs : List ℕ) (i d : ℕ) → Distinct xs → i < length xs → place_in (get_or xs i d) xs ≡ i
place_at [] i d h lt = absurd (omega (arith, lt))
place_at (x ∷ xs) zero d h lt = by_test (nat_eq x x) (eqb-false x x)
  where
    by_test : (t : Bool) → (t ≡ false → x ≡ x → ⊥) → cond t 0 (suc (place_in x xs)) ≡ 0
    by_test true q = refl
    by_test false q = absurd (q refl refl)
place_at (x ∷ xs) (suc i) d h lt =
    let y = get_or xs i d in
    by_test (nat_eq y x) (eqb-true y x) (at_in xs i d (omega (arith, lt))) (place_at xs i d h.1 (omega (arith, lt)))
  where
    by_test : (t : Bool) → (t ≡ true → get_or xs i d ≡ x) → In (get_or xs i d) xs → place_in (get_or xs i d) xs ≡ i → cond t 0 (suc (place_in (get_or xs i d) xs)) ≡ suc i
    by_test true q inside e = absurd (h.0 (subst (λ z. In z xs) (q refl) inside))
    by_test false q inside e = ap suc e
