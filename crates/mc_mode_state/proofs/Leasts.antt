-- The first of a row that ascends is the least.
use Rattle.std.proofs.Common.{◌≡◌, ℕ, ◌<◌, ◌≤◌, ◌+◌, Bool, true, false, ◌&&◌, List, [], ◌∷◌, length, get_or, drop, Option, Some, None, nat_eq, nat_lt, if◌then◌else◌, refl, sym, ap, ◌∙◌, subst, arith}
use Rattle.std.proofs.lemmas.Bool.{eqb-true}
use Rattle.std.proofs.lemmas.Bool.Decides.{nat_tests}
use Rattle.std.proofs.lemmas.List.{length-drop, nil_from_length}
use Rattle.mc_accepted.specs.Arranged.{placed, ascending}
use Rattle.mc_accepted.specs.Least.{lesser, least}
use Rattle.mc_mode_state.proofs.Numbers.{cons_at}

abbrev pub first_that : (ℕ → Bool) → List ℕ → Option ℕ
first_that g [] = None
first_that g (x ∷ xs) = if g x then Some x else first_that g xs

abbrev AllOver : ℕ → List ℕ → Type 0
AllOver x [] = Unit {0}
AllOver x (y ∷ ys) = (x < y) × AllOver x ys

abbrev Rising : List ℕ → Type 0
Rising [] = Unit {0}
Rising (y ∷ ys) = AllOver y ys × Rising ys

over-less : (x y : ℕ) (ys : List ℕ) → x < y → AllOver y ys → AllOver x ys
over-less x y [] h w = tt
over-less x y (z ∷ ys) h w = (let a = w.0 in omega arith, over-less x y ys h w.1)

is-less : (x y : ℕ) → nat_lt x y ≡ true → x < y
is-less x y h = grind (arith, nat_tests)

is-more : (x y : ℕ) → nat_lt x y ≡ false → nat_eq x y ≡ false → y < x
is-more x y h g = grind (arith, nat_tests)

less-not : (x y : ℕ) → x ≤ y → nat_lt y x ≡ false
less-not x y h = grind (arith, nat_tests)

less-is : (x y : ℕ) → x < y → nat_lt x y ≡ true
less-is x y h = grind (arith, nat_tests)

placed-over : (x z : ℕ) (ys : List ℕ) → z < x → AllOver z ys → AllOver z (placed x ys)
placed-over x z [] h w = (h, tt)
placed-over x z (y ∷ ys) h w = at (nat_lt x y) (nat_eq x y) (placed-over x z ys h w.1)
  where
    at : (t u : Bool) → AllOver z (placed x ys) → AllOver z (if t then x ∷ y ∷ ys else if u then y ∷ ys else y ∷ placed x ys)
    at true u r = (h, w)
    at false true r = w
    at false false r = (w.0, r)

placed-rising : (x : ℕ) (ys : List ℕ) → Rising ys → Rising (placed x ys)
placed-rising x [] w = (tt, tt)
placed-rising x (y ∷ ys) w = at (nat_lt x y) (nat_eq x y) refl refl (placed-rising x ys w.1)
  where
    at : (t u : Bool) → nat_lt x y ≡ t → nat_eq x y ≡ u → Rising (placed x ys) → Rising (if t then x ∷ y ∷ ys else if u then y ∷ ys else y ∷ placed x ys)
    at true u e f r = let h : x < y = is-less x y e in ((h, over-less x y ys h w.0), w)
    at false true e f r = w
    at false false e f r = (placed-over x y ys (is-more x y e f) w.0, r)

ascending-rising : (f : ℕ → Bool) (xs : List ℕ) → Rising (ascending f xs)
ascending-rising f [] = tt
ascending-rising f (x ∷ xs) = at (f x) (ascending-rising f xs)
  where
    at : (t : Bool) → Rising (ascending f xs) → Rising (if t then placed x (ascending f xs) else ascending f xs)
    at true r = placed-rising x (ascending f xs) r
    at false r = r

module _ (g : ℕ → Bool) where
  first-over : (x : ℕ) (ys : List ℕ) → AllOver x ys → lesser x (first_that g ys) ≡ x
  first-over x [] w = refl
  first-over x (y ∷ ys) w = at (g y) (first-over x ys w.1)
    where
      at : (t : Bool) → lesser x (first_that g ys) ≡ x → lesser x (if t then Some y else first_that g ys) ≡ x
      at true r = ap (λ (d : Bool). if d then y else x) (less-not x y (let a = w.0 in omega arith))
      at false r = r

  before-all : (x : ℕ) (ys : List ℕ) (t : Bool) → AllOver x ys → (if t then Some x else first_that g ys) ≡ (if t then Some (lesser x (first_that g ys)) else first_that g ys)
  before-all x ys true w = ap Some (sym (first-over x ys w))
  before-all x ys false w = refl

  same-first : (x : ℕ) (ys : List ℕ) (t : Bool) → (if t then Some x else first_that g ys) ≡ (if t then Some (lesser x (if t then Some x else first_that g ys)) else (if t then Some x else first_that g ys))
  same-first x ys true = ap Some (sym (ap (λ (d : Bool). if d then x else x) (less-not x x (omega arith))))
  same-first x ys false = refl

  behind : (x y : ℕ) (ys : List ℕ) (t u : Bool) → y < x → first_that g (placed x ys) ≡ (if t then Some (lesser x (first_that g ys)) else first_that g ys)
      → (if u then Some y else first_that g (placed x ys)) ≡ (if t then Some (lesser x (if u then Some y else first_that g ys)) else (if u then Some y else first_that g ys))
  behind x y ys true true h e = ap Some (sym (ap (λ (d : Bool). if d then y else x) (less-is y x h)))
  behind x y ys false true h e = refl
  behind x y ys true false h e = e
  behind x y ys false false h e = e

  first-placed : (x : ℕ) (ys : List ℕ) → Rising ys → first_that g (placed x ys) ≡ (if g x then Some (lesser x (first_that g ys)) else first_that g ys)
  first-placed x [] w = refl
  first-placed x (y ∷ ys) w = at (nat_lt x y) (nat_eq x y) refl refl (first-placed x ys w.1)
    where
      at : (t u : Bool) → nat_lt x y ≡ t → nat_eq x y ≡ u
          → first_that g (placed x ys) ≡ (if g x then Some (lesser x (first_that g ys)) else first_that g ys)
          → first_that g (if t then x ∷ y ∷ ys else if u then y ∷ ys else y ∷ placed x ys) ≡ (if g x then Some (lesser x (first_that g (y ∷ ys))) else first_that g (y ∷ ys))
      at true u e f r = let h : x < y = is-less x y e in before-all x (y ∷ ys) (g x) (h, over-less x y ys h w.0)
      at false true e f r =
          subst (λ (z : ℕ). first_that g (z ∷ ys) ≡ (if g x then Some (lesser x (first_that g (z ∷ ys))) else first_that g (z ∷ ys))) (eqb-true x y f) (same-first x ys (g x))
      at false false e f r = behind x y ys (g x) (g y) (is-more x y e f) r

  pub least-first : (f : ℕ → Bool) (xs : List ℕ) → first_that g (ascending f xs) ≡ least (λ x. f x && g x) xs
  least-first f [] = refl
  least-first f (x ∷ xs) = at (f x) (least-first f xs)
    where
      at : (t : Bool) → first_that g (ascending f xs) ≡ least (λ y. f y && g y) xs
          → first_that g (if t then placed x (ascending f xs) else ascending f xs) ≡ (if t && g x then Some (lesser x (least (λ y. f y && g y) xs)) else least (λ y. f y && g y) xs)
      at true r = first-placed x (ascending f xs) (ascending-rising f xs) ∙ ap (λ (o : Option ℕ). if g x then Some (lesser x o) else o) r
      at false r = r

  -- one further
  first-at : (xs : List ℕ) (k : ℕ) → k < length xs → first_that g (drop k xs) ≡ (if g (get_or xs k 0) then Some (get_or xs k 0) else first_that g (drop (k + 1) xs))
  first-at xs k h = ap (first_that g) (cons_at xs k 0 h)

  pub first-here : (xs : List ℕ) (k : ℕ) → k < length xs → g (get_or xs k 0) ≡ true → first_that g (drop k xs) ≡ Some (get_or xs k 0)
  first-here xs k h e = first-at xs k h ∙ ap (λ (t : Bool). if t then Some (get_or xs k 0) else first_that g (drop (k + 1) xs)) e

  pub first-on : (xs : List ℕ) (k : ℕ) → k < length xs → g (get_or xs k 0) ≡ false → first_that g (drop (k + 1) xs) ≡ first_that g (drop k xs)
  first-on xs k h e = sym (first-at xs k h ∙ ap (λ (t : Bool). if t then Some (get_or xs k 0) else first_that g (drop (k + 1) xs)) e)

  pub first-none : (xs : List ℕ) (k : ℕ) → length xs ≤ k → first_that g (drop k xs) ≡ None
  first-none xs k h = ap (first_that g) (nil_from_length (drop k xs) (omega (arith, length-drop k xs)))
