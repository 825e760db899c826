-- How many names and terms there are, by the length of a slice.
use Rattle.std.proofs.Common.{IsTrue, ◌↔◌, ◌≡◌, ◌≤◌, ◌<◌, ℕ, List, [], ◌∷◌, Bool, true, false, length, map, refl, arith, None, nat_eq}
use Rattle.std.proofs.lemmas.Bool.Decides.{nat_tests}
use Rattle.mc_term_data.specs.Plain.{plain_term, term_list}
use Rattle.mc_term_data.specs.declared.term.Term.{Term}
use Rattle.mc_term_data.specs.Shapes.{is_word, two, has_none, has_one}

pub is_word_by_length : (w : List (List ℕ)) → nat_eq (length w) 1 ≡ is_word w
is_word_by_length [] = refl
is_word_by_length (x ∷ []) = refl
is_word_by_length (x ∷ (y ∷ w)) = grind (arith, nat_tests)

pub has_none_where : (ts : List Term) (b : Bool) → IsTrue b ↔ (ts ≡ []) → b ≡ has_none (term_list (map plain_term ts))
has_none_where [] true h = refl
has_none_where [] false h = let e : false ≡ true = h.1 refl in cc
has_none_where (t ∷ ts) true h = let e : t ∷ ts ≡ [] = h.0 refl in cc
has_none_where (t ∷ ts) false h = refl

pub has_one_by_length : (ts : List Term) → nat_eq (length ts) 1 ≡ has_one (term_list (map plain_term ts))
has_one_by_length [] = refl
has_one_by_length (t ∷ []) = refl
has_one_by_length (t ∷ (u ∷ ts)) = grind (arith, nat_tests)

pub less_than_two : (ts : List Term) → length ts < 2 → None ≡ two (term_list (map plain_term ts))
less_than_two [] h = refl
less_than_two (t ∷ []) h = refl
less_than_two (t ∷ (u ∷ ts)) h = absurd (omega arith)

pub more_than_two : (ts : List Term) → 3 ≤ length ts → None ≡ two (term_list (map plain_term ts))
more_than_two [] h = refl
more_than_two (t ∷ []) h = refl
more_than_two (t ∷ (u ∷ [])) h = absurd (omega arith)
more_than_two (t ∷ (u ∷ (v ∷ ts))) h = refl
