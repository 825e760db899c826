-- Broken rules by their places.
use Rattle.std.proofs.Common.{◌≡◌, ℕ, ◌<◌, List, [], ◌∷◌, length, Bool, true, false, if◌then◌else◌, nat_eq, nat_lt, ◌&&◌, ◌||◌, refl, ◌∙◌, subst, arith}
use Rattle.std.proofs.lemmas.Bool.{eqb-true, ltb-true, and_parts}
use Rattle.mc_source.specs.declared.place.Place.{Place}
use Rattle.mc_source.specs.declared.rule.Broken.{Broken}
use Rattle.mc_source.specs.Rules.{stands_before, put_in, by_place}
use Rattle.laws_accepted.specs.FaultLaws.{FirstNotBefore, InPlaces, ByPlaceIsInPlaces}

-- a place that stands before another is in an earlier file, or on an earlier line of the same
abbrev Before : (f l g m : ℕ) → Bool
Before f l g m = nat_lt f g || (nat_eq f g && nat_lt l m)

either : (f l g m : ℕ) → (t : Bool) → nat_lt f g ≡ t → Before f l g m ≡ true → (t ≡ true → f < g → ⊥) → ((f ≡ g) → l < m → ⊥) → ⊥
either f l g m true q h a b = a refl (ltb-true f g q)
either f l g m false q h a b =
    let p = and_parts (nat_eq f g) (nat_lt l m) (subst (λ t. (t || (nat_eq f g && nat_lt l m)) ≡ true) q h) in
    b (eqb-true f g p.0) (ltb-true l m p.1)

one_way : (f l g m : ℕ) → Before f l g m ≡ true → Before g m f l ≡ true → ⊥
one_way f l g m h k =
    either f l g m (nat_lt f g) refl h
    (λ t a. either g m f l (nat_lt g f) refl k (λ u b. omega (arith, a, b)) (λ e b. omega (arith, a, e)))
    (λ e a. either g m f l (nat_lt g f) refl k (λ u b. omega (arith, b, e)) (λ d b. omega (arith, a, b)))

not_both : (p q : Place) → stands_before p q ≡ true → stands_before q p ≡ false
not_both p q h = by_test (stands_before q p) refl
  where
    by_test : (t : Bool) → stands_before q p ≡ t → t ≡ false
    by_test true e = absurd (one_way p.file p.line q.file q.line h e)
    by_test false e = refl

put_first : (c b : Broken) (cs : List Broken) → stands_before c.at b.at ≡ true → FirstNotBefore c cs → FirstNotBefore c (put_in b cs)
put_first c b [] h f = not_both c.at b.at h
put_first c b (d ∷ ds) h f = by_test (stands_before d.at b.at) f
  where
    by_test : (t : Bool) → stands_before d.at c.at ≡ false → FirstNotBefore c (if t then d ∷ put_in b ds else b ∷ d ∷ ds)
    by_test true f = f
    by_test false f = not_both c.at b.at h

put_stays : (b : Broken) (cs : List Broken) → InPlaces cs → InPlaces (put_in b cs)
put_stays b [] h = (tt, tt)
put_stays b (c ∷ cs) h = by_test (stands_before c.at b.at) refl (put_stays b cs h.1)
  where
    by_test : (t : Bool) → stands_before c.at b.at ≡ t → InPlaces (put_in b cs) → InPlaces (if t then c ∷ put_in b cs else b ∷ c ∷ cs)
    by_test true q r = (put_first c b cs q h.0, r)
    by_test false q r = (q, h)

put_length : (b : Broken) (cs : List Broken) → length (put_in b cs) ≡ length (b ∷ cs)
put_length b [] = refl
put_length b (c ∷ cs) = by_test (stands_before c.at b.at) (put_length b cs)
  where
    by_test : (t : Bool) → length (put_in b cs) ≡ length (b ∷ cs) → length (if t then c ∷ put_in b cs else b ∷ c ∷ cs) ≡ length (b ∷ c ∷ cs)
    by_test true r = omega (arith, r)
    by_test false r = refl

pub by_place_is_in_places : ByPlaceIsInPlaces
by_place_is_in_places [] = (tt, refl)
by_place_is_in_places (b ∷ bs) =
    let h = by_place_is_in_places bs in
    (put_stays b (by_place bs) h.0, (put_length b (by_place bs) ∙ omega (arith, h.1)))
