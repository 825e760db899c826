-- What can be told: lists, counts, and chains of tests that stop.
use Rattle.std.proofs.Common.{◌≡◌, ◌⊎◌, inl, inr, ℕ, zero, suc, ◌<◌, ◌≤◌, List, [], ◌∷◌, ◌++◌, Bool, true, false, cond, nat_eq, length, get_or, ◌≢◌, refl, sym, ap₂, ◌∙◌, subst, arith, ⊎_elim}
use Rattle.std.specs.Prelude.{Contains}
use Rattle.std.proofs.lemmas.Bool.{eqb-true, eqb-false, cases_lt}
use Rattle.mc_model.specs.Lists.{In}

abbrev pub Told : Type 0 → Type 0
Told A = A ⊎ (A → ⊥)

pub as_told : (A B : Type 0) → (A → B) → (B → A) → Told A → Told B
as_told A B f g (inl a) = inl (f a)
as_told A B f g (inr n) = inr (λ b. n (g b))

pub both_told : (A B : Type 0) → Told A → Told B → Told (A × B)
both_told A B (inl a) (inl b) = inl (a, b)
both_told A B (inl a) (inr n) = inr (λ c. n c.1)
both_told A B (inr n) d = inr (λ c. n c.0)

pub implied_told : (A B : Type 0) → Told A → Told B → Told (A → B)
implied_told A B (inr n) d = inl (λ a. absurd (n a))
implied_told A B (inl a) (inl b) = inl (λ x. b)
implied_told A B (inl a) (inr n) = inr (λ f. n (f a))

pub numbers_told : (x y : ℕ) → Told (x ≡ y)
numbers_told x y = at (nat_eq x y) (eqb-true x y) (eqb-false x y)
  where
    at : (t : Bool) → (t ≡ true → x ≡ y) → (t ≡ false → x ≡ y → ⊥) → Told (x ≡ y)
    at true f g = inl (f refl)
    at false f g = inr (g refl)

pub rows_told : (xs ys : List ℕ) → Told (xs ≡ ys)
rows_told [] [] = inl refl
rows_told [] (y ∷ ys) = inr (λ e. cc)
rows_told (x ∷ xs) [] = inr (λ e. cc)
rows_told (x ∷ xs) (y ∷ ys) =
    as_told ((x ≡ y) × (xs ≡ ys)) (x ∷ xs ≡ y ∷ ys) (λ h. ap₂ (λ z zs. z ∷ zs) h.0 h.1) (λ e. ((let q : x ≡ y = cc in q), (let q : xs ≡ ys = cc in q)))
    (both_told (x ≡ y) (xs ≡ ys) (numbers_told x y) (rows_told xs ys))

pub bools_told : (t : Bool) → Told (t ≡ true)
bools_told true = inl refl
bools_told false = inr (λ e. cc)

-- each of a list, and each number below another
pub each_told : (Q : ℕ → Type 0) → ((x : ℕ) → Told (Q x)) → (xs : List ℕ) → Told ((x : ℕ) → In x xs → Q x)
each_told Q d [] = inl (λ x i. absurd i)
each_told Q d (y ∷ ys) =
    as_told (Q y × ((x : ℕ) → In x ys → Q x)) ((x : ℕ) → In x (y ∷ ys) → Q x) (λ h x i. ⊎_elim (λ e. subst Q (sym e) h.0) (λ j. h.1 x j) i) (λ h. (h y (inl refl), (λ x i. h x (inr i))))
    (both_told (Q y) ((x : ℕ) → In x ys → Q x) (d y) (each_told Q d ys))

pub below_told : (n : ℕ) (Q : ℕ → Type 0) → ((x : ℕ) → Told (Q x)) → Told ((x : ℕ) → x < n → Q x)
below_told zero Q d = inl (λ x lt. absurd (omega (arith, lt)))
below_told (suc n) Q d =
    as_told (((x : ℕ) → x < n → Q x) × Q n) ((x : ℕ) → x < suc n → Q x)
    (λ h x lt. ⊎_elim (λ l. h.0 x l) (λ le. subst Q (omega (arith, le, lt)) h.1) (cases_lt x n))
    (λ h. ((λ x lt. h x (omega (arith, lt))), h n (omega arith))) (both_told ((x : ℕ) → x < n → Q x) (Q n) (below_told n Q d) (d n))

-- whether
abbrev pub yes : {A : Type 0} → Told A → Bool
yes (inl a) = true
yes (inr n) = false

pub yes_holds : (A : Type 0) (d : Told A) → yes d ≡ true → A
yes_holds A (inl a) e = a
yes_holds A (inr n) e = cc

pub holds_yes : (A : Type 0) (d : Told A) → A → yes d ≡ true
holds_yes A (inl a) h = refl
holds_yes A (inr n) h = absurd (n h)

module _ {X : Type 0} where
  -- what is in a list
  abbrev pub Held : List X → X → Type 0
  Held [] x = ⊥
  Held (y ∷ ys) x = (x ≡ y) ⊎ Held ys x

  pub held_at : (xs : List X) (k : ℕ) (d : X) → k < length xs → Held xs (get_or xs k d)
  held_at [] k d lt = absurd (omega (arith, lt))
  held_at (x ∷ xs) zero d lt = inl refl
  held_at (x ∷ xs) (suc k) d lt = inr (held_at xs k d (omega (arith, lt)))

  pub contained : (xs : List X) (x : X) → Contains xs x → Held xs x
  contained xs x c = subst (λ y. Held xs y) c.2 (held_at xs c.0 x c.1)

  pub held_left : (xs ys : List X) (x : X) → Held xs x → Held (xs ++ ys) x
  held_left [] ys x h = absurd h
  held_left (z ∷ xs) ys x h = ⊎_elim (λ e. inl e) (λ k. inr (held_left xs ys x k)) h

  pub held_right : (xs ys : List X) (x : X) → Held ys x → Held (xs ++ ys) x
  held_right [] ys x h = h
  held_right (z ∷ xs) ys x h = inr (held_right xs ys x h)

  -- how many of a list pass a test
  abbrev pub counted : (X → Bool) → List X → ℕ
  counted f [] = 0
  counted f (x ∷ xs) = cond (f x) (suc (counted f xs)) (counted f xs)

  pub counted_less : (f g : X → Bool) → ((x : X) → g x ≡ true → f x ≡ true) → (xs : List X) → counted g xs ≤ counted f xs
  counted_less f g h [] = omega arith
  counted_less f g h (x ∷ xs) = at (g x) (f x) (h x) (counted_less f g h xs)
    where
      at : (s t : Bool) → (s ≡ true → t ≡ true) → counted g xs ≤ counted f xs → cond s (suc (counted g xs)) (counted g xs) ≤ cond t (suc (counted f xs)) (counted f xs)
      at true true k l = omega (arith, l)
      at true false k l = let e : false ≡ true = k refl in cc
      at false true k l = omega (arith, l)
      at false false k l = l

  pub counted_same : (f g : X → Bool) → ((x : X) → g x ≡ true → f x ≡ true) → (xs : List X) → counted f xs ≡ counted g xs → (x : X) → Held xs x → f x ≡ true → g x ≡ true
  counted_same f g h [] e x i q = absurd i
  counted_same f g h (y ∷ xs) e x i q = at (g y) (f y) refl refl (counted_less f g h xs) e (λ e' j. counted_same f g h xs e' x j q)
    where
      at : (s t : Bool) → g y ≡ s → f y ≡ t → counted g xs ≤ counted f xs → cond t (suc (counted f xs)) (counted f xs) ≡ cond s (suc (counted g xs)) (counted g xs) → (counted f xs ≡ counted g xs → Held xs x → g x ≡ true) → g x ≡ true
      at true true a b l e k = ⊎_elim (λ p. subst (λ z. g z ≡ true) (sym p) a) (λ j. k (omega (arith, e)) j) i
      at true false a b l e k = let p : false ≡ true = sym b ∙ h y a in cc
      at false true a b l e k = absurd (omega (arith, e, l))
      at false false a b l e k = ⊎_elim (λ p. let r : false ≡ true = sym b ∙ subst (λ z. f z ≡ true) p q in cc) (λ j. k e j) i

-- what falls stands somewhere
pub stands : (f : ℕ → ℕ) → ((n : ℕ) → f (suc n) ≤ f n) → (b : ℕ) → f 0 ≤ b → (n : ℕ) × (f n ≡ f (suc n))
stands f falls zero l = (0, omega (arith, l, falls 0))
stands f falls (suc b) l = at (numbers_told (f 0) (f 1)) (λ n. stands (λ k. f (suc k)) (λ k. falls (suc k)) b (let m : f 0 ≢ f 1 = n in omega (arith, l, falls 0, m)))
  where
    at : Told (f 0 ≡ f 1) → ((f 0 ≡ f 1 → ⊥) → (n : ℕ) × (f (suc n) ≡ f (suc (suc n)))) → (n : ℕ) × (f n ≡ f (suc n))
    at (inl e) later = (0, e)
    at (inr n) later = let r = later n in (suc r.0, r.1)
