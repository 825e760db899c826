-- The variables that a fault names.
use Rattle.std.proofs.Common.{◌≡◌, ◌⊎◌, inl, inr, ℕ, ◌<◌, ◌≤◌, Bool, true, false, cond, nat_eq, nat_lt, List, [], ◌∷◌, Option, Some, None, refl, ap, sym, ◌∙◌, subst, ⊎_elim, arith}
use Rattle.std.proofs.Math.Nat.{le_refl, le_trans, le_of_lt}
use Rattle.std.proofs.lemmas.Bool.{eqb-true, eqb-false, ltb-true, lt-ltb}
use Rattle.mc_model.specs.Lists.{In}
use Rattle.mc_accepted.specs.Least.{least, lesser}
use Rattle.mc_accepted.specs.Arranged.{placed, ascending}
use Rattle.laws_order.specs.OrderLaws.{Rising, IsLeast, NamedByFaults}
use Rattle.laws_order.proofs.Arranging.{not-both}

not-less : (x y : ℕ) → nat_lt x y ≡ false → y ≤ x
not-less x y e = at (nat_lt y x) refl (nat_eq x y) refl
  where
    at : (t : Bool) → nat_lt y x ≡ t → (u : Bool) → nat_eq x y ≡ u → y ≤ x
    at true p u q = le_of_lt (ltb-true y x p)
    at false p true q = subst (λ z. y ≤ z) (sym (eqb-true x y q)) (le_refl y)
    at false p false q = (let a : x < y → ⊥ = λ lt. not-both (nat_lt x y) (lt-ltb x y lt) e in
        let b : y < x → ⊥ = λ lt. not-both (nat_lt y x) (lt-ltb y x lt) p in
        omega (arith, a, b))

in-placed : (x y : ℕ) (ys : List ℕ) → In y (placed x ys) → (y ≡ x) ⊎ In y ys
in-placed x y [] i = ⊎_elim (λ e. inl e) (λ j. absurd j) i
in-placed x y (z ∷ ys) i = at (nat_lt x z) (nat_eq x z) i (in-placed x y ys)
  where
    at : (t u : Bool) → In y (cond t (x ∷ z ∷ ys) (cond u (z ∷ ys) (z ∷ placed x ys))) → (In y (placed x ys) → (y ≡ x) ⊎ In y ys) → (y ≡ x) ⊎ ((y ≡ z) ⊎ In y ys)
    at true u j f = j
    at false true j f = inr j
    at false false j f = ⊎_elim (λ e. inr (inl e)) (λ k. ⊎_elim (λ e. inl e) (λ l. inr (inr l)) (f k)) j

placed-here : (x y : ℕ) (ys : List ℕ) → (y ≡ x) ⊎ In y ys → In y (placed x ys)
placed-here x y [] i = i
placed-here x y (z ∷ ys) i = at (nat_lt x z) (nat_eq x z) (eqb-true x z) i (placed-here x y ys)
  where
    at : (t u : Bool) → (u ≡ true → x ≡ z) → (y ≡ x) ⊎ ((y ≡ z) ⊎ In y ys) → ((y ≡ x) ⊎ In y ys → In y (placed x ys)) → In y (cond t (x ∷ z ∷ ys) (cond u (z ∷ ys) (z ∷ placed x ys)))
    at true u q j f = j
    at false true q j f = ⊎_elim (λ e. inl (e ∙ q refl)) (λ k. k) j
    at false false q j f = ⊎_elim (λ e. inr (f (inl e))) (λ k. ⊎_elim (λ e. inl e) (λ l. inr (f (inr l))) k) j

placed-rises : (x : ℕ) (ys : List ℕ) → Rising ys → Rising (placed x ys)
placed-rises x [] r = ((λ y i. absurd i), tt)
placed-rises x (z ∷ ys) r = at (nat_lt x z) refl (nat_eq x z) refl (placed-rises x ys r.1)
  where
    at : (t : Bool) → nat_lt x z ≡ t → (u : Bool) → nat_eq x z ≡ u → Rising (placed x ys) → Rising (cond t (x ∷ z ∷ ys) (cond u (z ∷ ys) (z ∷ placed x ys)))
    at true p u q s = ((λ y i. ⊎_elim (λ e. subst (λ k. x < k) (sym e) (ltb-true x z p)) (λ j. (let a = ltb-true x z p in let b = r.0 y j in omega (arith, a, b))) i), r)
    at false p true q s = r
    at false p false q s = ((λ y i. ⊎_elim (λ e. (let a = not-less x z p in let b = eqb-false x z q in omega (arith, a, b, e))) (λ j. r.0 y j) (in-placed x y ys i)), s)

rises : (f : ℕ → Bool) (xs : List ℕ) → Rising (ascending f xs)
rises f [] = tt
rises f (x ∷ xs) = at (f x) (rises f xs)
  where
    at : (t : Bool) → Rising (ascending f xs) → Rising (cond t (placed x (ascending f xs)) (ascending f xs))
    at true r = placed-rises x (ascending f xs) r
    at false r = r

named : (f : ℕ → Bool) (xs : List ℕ) (y : ℕ) → In y (ascending f xs) → In y xs × (f y ≡ true)
named f [] y i = absurd i
named f (x ∷ xs) y i = at (f x) refl i (named f xs y)
  where
    at : (t : Bool) → f x ≡ t → In y (cond t (placed x (ascending f xs)) (ascending f xs)) → (In y (ascending f xs) → In y xs × (f y ≡ true)) → ((y ≡ x) ⊎ In y xs) × (f y ≡ true)
    at true e j g = ⊎_elim (λ q. (inl q, ap f q ∙ e)) (λ k. (inr (g k).0, (g k).1)) (in-placed x y (ascending f xs) j)
    at false e j g = (inr (g j).0, (g j).1)

names : (f : ℕ → Bool) (xs : List ℕ) (y : ℕ) → In y xs → f y ≡ true → In y (ascending f xs)
names f [] y i e = absurd i
names f (x ∷ xs) y i e = at (f x) refl (⊎_elim (λ q. inl q) (λ j. inr (names f xs y j e)) i)
  where
    at : (t : Bool) → f x ≡ t → (y ≡ x) ⊎ In y (ascending f xs) → In y (cond t (placed x (ascending f xs)) (ascending f xs))
    at true q j = placed-here x y (ascending f xs) j
    at false q j = ⊎_elim (λ p. absurd (not-both (f x) (ap f (sym p) ∙ e) q)) (λ k. k) j

is-least : (f : ℕ → Bool) (xs : List ℕ) → IsLeast f xs (least f xs)
is-least f [] = λ y i. absurd i
is-least f (x ∷ xs) = at (f x) refl (least f xs) (is-least f xs)
  where
    smaller : (v : ℕ) → (t : Bool) → nat_lt v x ≡ t → f x ≡ true → IsLeast f xs (Some v) → IsLeast f (x ∷ xs) (Some (cond t v x))
    smaller v true p e h = (inr h.0, h.1, λ y i q. ⊎_elim (λ s. subst (λ k. v ≤ k) (sym s) (le_of_lt (ltb-true v x p))) (λ j. h.2 y j q) i)
    smaller v false p e h = (inl refl, e, λ y i q. ⊎_elim (λ s. subst (λ k. x ≤ k) (sym s) (le_refl x)) (λ j. le_trans (not-less v x p) (h.2 y j q)) i)

    at : (t : Bool) → f x ≡ t → (o : Option ℕ) → IsLeast f xs o → IsLeast f (x ∷ xs) (cond t (Some (lesser x o)) o)
    at true e None h = (inl refl, e, λ y i q. ⊎_elim (λ s. subst (λ k. x ≤ k) (sym s) (le_refl x)) (λ j. absurd (not-both (f y) q (h y j))) i)
    at true e (Some v) h = smaller v (nat_lt v x) refl e h
    at false e None h = λ y i. ⊎_elim (λ s. ap f s ∙ e) (λ j. h y j) i
    at false e (Some v) h = (inr h.0, h.1, λ y i q. ⊎_elim (λ s. absurd (not-both (f x) (ap f (sym s) ∙ q) e)) (λ j. h.2 y j q) i)

pub named-by-faults : NamedByFaults
named-by-faults f xs = (rises f xs, (λ y. (named f xs y, λ h. names f xs y h.0 h.1)), is-least f xs)
