-- Places that wait: some that were passed over, and behind them numbers from one on.
use Rattle.std.proofs.Common.{◌≡◌, ◌∙◌, ℕ, zero, suc, ◌<◌, ◌+◌, List, [], ◌∷◌, ◌++◌, length, get_or, refl, ap, ap₂, arith, length-append}
use Rattle.std.specs.List.{remove}
use Rattle.mc_model.specs.Lists.{from}

pub length-from : (n k : ℕ) → length (from n k) ≡ k
length-from n zero = refl
length-from n (suc k) = ap suc (length-from (suc n) k)

pub length-places : (xs : List ℕ) (n k : ℕ) → length (xs ++ from n k) ≡ length xs + k
length-places xs n k = omega (arith, length-append xs (from n k), length-from n k)

from-at : (n k j : ℕ) → j < k → get_or (from n k) j 0 ≡ n + j
from-at n zero j h = absurd (omega arith)
from-at n (suc k) zero h = omega arith
from-at n (suc k) (suc j) h = omega (arith, from-at (suc n) k j (omega arith))

-- a place that was passed over
pub passed-at : (xs ys : List ℕ) (i : ℕ) → i < length xs → get_or (xs ++ ys) i 0 ≡ get_or xs i 0
passed-at [] ys i h = absurd (omega arith)
passed-at (x ∷ xs) ys zero h = refl
passed-at (x ∷ xs) ys (suc i) h = passed-at xs ys i (omega arith)

-- one behind them
pub behind-at : (xs : List ℕ) (n k i j : ℕ) → i ≡ length xs + j → j < k → get_or (xs ++ from n k) i 0 ≡ n + j
behind-at [] n k i j e h = ap (λ m. get_or (from n k) m 0) (let f : i ≡ j = omega arith in f) ∙ from-at n k j h
behind-at (x ∷ xs) n k zero j e h = absurd (omega arith)
behind-at (x ∷ xs) n k (suc i) j e h = behind-at xs n k i j (omega arith) h

pub passed-removed : (xs ys : List ℕ) (i : ℕ) → i < length xs → remove (xs ++ ys) i ≡ remove xs i ++ ys
passed-removed [] ys i h = absurd (omega arith)
passed-removed (x ∷ xs) ys zero h = refl
passed-removed (x ∷ xs) ys (suc i) h = ap (λ zs. x ∷ zs) (passed-removed xs ys i (omega arith))

from-removed : (n k j m l : ℕ) → m ≡ n + j + 1 → l + (j + 1) ≡ k → remove (from n k) j ≡ from n j ++ from m l
from-removed n zero j m l e f = absurd (omega arith)
from-removed n (suc k) zero m l e f = ap₂ from (let a : suc n ≡ m = omega arith in a) (let b : k ≡ l = omega arith in b)
from-removed n (suc k) (suc j) m l e f = ap (λ zs. n ∷ zs) (from-removed (suc n) k j m l (omega arith) (omega arith))

pub behind-removed : (xs : List ℕ) (n k i j m l : ℕ) → i ≡ length xs + j → m ≡ n + j + 1 → l + (j + 1) ≡ k → remove (xs ++ from n k) i ≡ (xs ++ from n j) ++ from m l
behind-removed [] n k i j m l e f g = ap (remove (from n k)) (let h : i ≡ j = omega arith in h) ∙ from-removed n k j m l f g
behind-removed (x ∷ xs) n k zero j m l e f g = absurd (omega arith)
behind-removed (x ∷ xs) n k (suc i) j m l e f g = ap (λ zs. x ∷ zs) (behind-removed xs n k i j m l (omega arith) f g)

-- numbers from one on, and one more
pub from-more : (n k m : ℕ) → m ≡ n + k → from n (suc k) ≡ from n k ++ m ∷ []
from-more n zero m e = ap (λ x. x ∷ []) (let h : n ≡ m = omega arith in h)
from-more n (suc k) m e = ap (λ zs. n ∷ zs) (from-more (suc n) k m (omega arith))
