-- Lists of numbers from one on, pairings, and what stands where in lists that are put together.
use Rattle.std.proofs.Common.{◌≡◌, ℕ, zero, suc, ◌+◌, ◌<◌, List, [], ◌∷◌, ◌++◌, length, map, get_or, refl, ap, ◌∙◌, subst, arith}
use Rattle.std.specs.List.{AllZip, flat_map}
use Rattle.std.proofs.lemmas.List.{get_or-append-add, length-append}
use Rattle.mc_model.specs.Lists.{from}

pub from_many : (n m : ℕ) → length (from n m) ≡ m
from_many n zero = refl
from_many n (suc m) = ap suc (from_many (suc n) m)

pub from_at : (n m k : ℕ) → k < m → get_or (from n m) k 0 ≡ n + k
from_at n zero k lt = absurd (omega (arith, lt))
from_at n (suc m) zero lt = omega arith
from_at n (suc m) (suc k) lt = from_at (suc n) m k (omega (arith, lt)) ∙ omega arith

-- ---- pairings
module _ {X Y : Type 0} (R : X → Y → Type 0) where
  pub zip_many : (xs : List X) (ys : List Y) → AllZip R xs ys → length xs ≡ length ys
  zip_many [] [] h = refl
  zip_many [] (y ∷ ys) h = absurd h
  zip_many (x ∷ xs) [] h = absurd h
  zip_many (x ∷ xs) (y ∷ ys) h = ap suc (zip_many xs ys h.1)

  pub zip_at : (xs : List X) (ys : List Y) (k : ℕ) (d : X) (e : Y) → AllZip R xs ys → k < length xs → R (get_or xs k d) (get_or ys k e)
  zip_at [] ys k d e h lt = absurd (omega (arith, lt))
  zip_at (x ∷ xs) [] k d e h lt = absurd h
  zip_at (x ∷ xs) (y ∷ ys) zero d e h lt = h.0
  zip_at (x ∷ xs) (y ∷ ys) (suc k) d e h lt = zip_at xs ys k d e h.1 (omega (arith, lt))

-- ---- it stands somewhere in a list
pub record Stands {X : Type 0} (x : X) (xs : List X) : Type 0 where
  pub place : ℕ
  pub there : place < length xs
  pub is : (d : X) → get_or xs place d ≡ x

module _ {X : Type 0} where
  in_first : (x : X) (xs ys : List X) → Stands x xs → Stands x (xs ++ ys)
  in_first x xs ys s =
      record {
        place = s.place;
        there = omega (arith, s.there, length-append xs ys);
        is = λ d. before xs ys s.place d s.there ∙ s.is d;
      }
    where
      before : (xs ys : List X) (k : ℕ) (d : X) → k < length xs → get_or (xs ++ ys) k d ≡ get_or xs k d
      before [] ys k d lt = absurd (omega (arith, lt))
      before (x ∷ xs) ys zero d lt = refl
      before (x ∷ xs) ys (suc k) d lt = before xs ys k d (omega (arith, lt))

  in_second : (x : X) (xs ys : List X) → Stands x ys → Stands x (xs ++ ys)
  in_second x xs ys s =
      record {
        place = length xs + s.place;
        there = omega (arith, s.there, length-append xs ys);
        is = λ d. get_or-append-add xs ys s.place d ∙ s.is d;
      }

  -- of a number it is mapped from
  pub in_mapped : (f : ℕ → X) (n m j : ℕ) → j < m → Stands (f (n + j)) (map f (from n m))
  in_mapped f n zero j lt = absurd (omega (arith, lt))
  in_mapped f n (suc m) zero lt =
      record { place = 0; there = omega arith; is = λ d. ap f (let e : n ≡ n + 0 = omega arith in e) }
  in_mapped f n (suc m) (suc j) lt =
      let s = in_mapped f (suc n) m j (omega (arith, lt)) in
      record {
        place = suc s.place;
        there = omega (arith, s.there);
        is = λ d. s.is d ∙ ap f (let e : suc n + j ≡ n + suc j = omega arith in e);
      }

  -- among those of one of the numbers
  pub in_one : (f : ℕ → List X) (n m j : ℕ) (x : X) → j < m → Stands x (f (n + j)) → Stands x (flat_map f (from n m))
  in_one f n zero j x lt s = absurd (omega (arith, lt))
  in_one f n (suc m) zero x lt s =
      in_first x (f n) (flat_map f (from (suc n) m)) (subst (λ k. Stands x (f k)) (let e : n + 0 ≡ n = omega arith in e) s)
  in_one f n (suc m) (suc j) x lt s =
      in_second x (f n) (flat_map f (from (suc n) m))
      (in_one f (suc n) m j x (omega (arith, lt)) (subst (λ k. Stands x (f k)) (let e : n + suc j ≡ suc n + j = omega arith in e) s))
