-- Numbers in lists.
use Rattle.std.proofs.Common.{◌≡◌, ℕ, zero, suc, ◌<◌, ◌≤◌, ◌+◌, Bool, true, false, cond, nat_eq, List, [], ◌∷◌, length, get_or, drop, refl, sym, arith, drop-cons, add-one, subst}
use Rattle.std.proofs.lemmas.Bool.{eq-eqb}
use Rattle.mc_accepted.specs.Ordered.{times_in}
use Rattle.mc_procs.specs.Named.{NumbersBelow}

eq-self : (x : ℕ) → nat_eq x x ≡ true
eq-self x = eq-eqb x x refl

first-counted : (vs : List ℕ) (i n : ℕ) → i < length vs → times_in (get_or vs i 0) (drop i vs) ≤ n → 1 ≤ n
first-counted [] i n h k = absurd (omega arith)
first-counted (v ∷ vs) zero n h k = at (nat_eq v v) (eq-self v) k
  where
    at : (t : Bool) → t ≡ true → cond t (suc (times_in v vs)) (times_in v vs) ≤ n → 1 ≤ n
    at true e k = omega arith
    at false e k = cc
first-counted (v ∷ vs) (suc i) n h k = first-counted vs i n (omega arith) k

pub below-at : (n : ℕ) (vs : List ℕ) (i : ℕ) → NumbersBelow n (drop i vs) → i < length vs → get_or vs i 0 < n
below-at n [] i w h = absurd (omega arith)
below-at n (v ∷ vs) zero w h = w.0
below-at n (v ∷ vs) (suc i) w h = below-at n vs i w (omega arith)

any-default : (vs : List ℕ) (i d e : ℕ) → i < length vs → get_or vs i d ≡ get_or vs i e
any-default [] i d e h = absurd (omega arith)
any-default (v ∷ vs) zero d e h = refl
any-default (v ∷ vs) (suc i) d e h = any-default vs i d e (omega arith)

pub first-enough : (os vs : List ℕ) (i r : ℕ) → i < length vs → NumbersBelow (length os) (drop i vs) → ((x : ℕ) → times_in x (drop i vs) ≤ get_or os x 0) → r ≡ get_or os (get_or vs i 0) r → 1 ≤ r
first-enough os vs i r h w e f =
    first-counted vs i r h (omega (arith, e (get_or vs i 0), f, any-default os (get_or vs i 0) 0 r (below-at (length os) vs i w h)))

pub cons_at : {A : Type 0} (vs : List A) (i : ℕ) (d : A) → i < length vs → drop i vs ≡ get_or vs i d ∷ drop (i + 1) vs
cons_at vs i d h = rw (add-one, drop-cons vs i d)

pub below-rest : (n m : ℕ) (vs : List ℕ) (i : ℕ) → m ≡ n → NumbersBelow n (drop i vs) → i < length vs → NumbersBelow m (drop (i + 1) vs)
below-rest n m vs i e w h = subst (λ k. NumbersBelow k (drop (i + 1) vs)) (sym e) (subst (NumbersBelow n) (cons_at vs i 0 h) w).1

pub number-at : (n : ℕ) (vs : List ℕ) (i : ℕ) → NumbersBelow n vs → i < length vs → get_or vs i 0 < n
number-at n [] i w h = absurd (omega arith)
number-at n (v ∷ vs) zero w h = w.0
number-at n (v ∷ vs) (suc i) w h = number-at n vs i w.1 (omega arith)
