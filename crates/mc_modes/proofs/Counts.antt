-- What occurs outside, by counts.
use Rattle.std.proofs.Common.{◌≡◌, ℕ, zero, suc, ◌<◌, ◌≤◌, ◌+◌, ◌-◌, Bool, true, false, cond, not, nat_eq, ◌||◌, List, [], ◌∷◌, ◌++◌, get_or, length, if◌then◌else◌, refl, ap, ap₂, sym, ◌∙◌, arith}
use Rattle.std.specs.List.{remove}
use Rattle.std.proofs.lemmas.Bool.Decides.{nat_tests}
use Rattle.mc_model.specs.Flat.{Flat_goal, variables_of}
use Rattle.mc_model.specs.Lists.{is_in}
use Rattle.mc_accepted.specs.Ordered.{times_in}
use Rattle.mc_procs.specs.Named.{NumbersBelow}
use Rattle.mc_modes.specs.code.Waiting.{variables_of_each, nothing}

pub below-first : (n : ℕ) (xs ys : List ℕ) → NumbersBelow n (xs ++ ys) → NumbersBelow n xs
below-first n [] ys w = tt
below-first n (x ∷ xs) ys w = (w.0, below-first n xs ys w.1)

pub below-second : (n : ℕ) (xs ys : List ℕ) → NumbersBelow n (xs ++ ys) → NumbersBelow n ys
below-second n [] ys w = w
below-second n (x ∷ xs) ys w = below-second n xs ys w.1

pub below-both : (n : ℕ) (xs ys : List ℕ) → NumbersBelow n xs → NumbersBelow n ys → NumbersBelow n (xs ++ ys)
below-both n [] ys w u = u
below-both n (x ∷ xs) ys w u = (w.0, below-both n xs ys w.1 u)

pub below-more : (n m : ℕ) (xs : List ℕ) → n ≤ m → NumbersBelow n xs → NumbersBelow m xs
below-more n m [] h w = tt
below-more n m (x ∷ xs) h w = (let a = w.0 in omega arith, below-more n m xs h w.1)

pub is-in-append : (x : ℕ) (xs ys : List ℕ) → is_in x (xs ++ ys) ≡ (is_in x xs || is_in x ys)
is-in-append x [] ys = refl
is-in-append x (y ∷ xs) ys = at (nat_eq x y) (is-in-append x xs ys)
  where
    at : (t : Bool) → is_in x (xs ++ ys) ≡ (is_in x xs || is_in x ys) → (if t then true else is_in x (xs ++ ys)) ≡ ((if t then true else is_in x xs) || is_in x ys)
    at true e = refl
    at false e = e

pub times-append : (x : ℕ) (xs ys : List ℕ) → times_in x (xs ++ ys) ≡ times_in x xs + times_in x ys
times-append x [] ys = omega arith
times-append x (y ∷ xs) ys = at (nat_eq x y) (times-append x xs ys)
  where
    at : (t : Bool) → times_in x (xs ++ ys) ≡ times_in x xs + times_in x ys → cond t (suc (times_in x (xs ++ ys))) (times_in x (xs ++ ys)) ≡ cond t (suc (times_in x xs)) (times_in x xs) + times_in x ys
    at true e = omega (arith, e)
    at false e = e

pub is-in-times : (x : ℕ) (xs : List ℕ) → is_in x xs ≡ not (nat_eq (times_in x xs) 0)
is-in-times x [] = refl
is-in-times x (y ∷ xs) = at (nat_eq x y) (is-in-times x xs)
  where
    at : (t : Bool) → is_in x xs ≡ not (nat_eq (times_in x xs) 0) → (if t then true else is_in x xs) ≡ not (nat_eq (cond t (suc (times_in x xs)) (times_in x xs)) 0)
    at true e = grind (arith, nat_tests)
    at false e = e

-- what was entered
pub entered-around : (c d k : ℕ) → d ≡ c + k → not (nat_eq (d - k) 0) ≡ not (nat_eq c 0)
entered-around c d k e = ap (λ n. not (nat_eq n 0)) (let h : d - k ≡ c = omega (arith, e) in h)

-- what was left
pub left-around : (c d k : ℕ) → d + k ≡ c → not (nat_eq (c - k) 0) ≡ not (nat_eq d 0)
left-around c d k e = ap (λ n. not (nat_eq n 0)) (let h : c - k ≡ d = omega (arith, e) in h)

sum-is : (c k : ℕ) → not (nat_eq (c + k) 0) ≡ (not (nat_eq c 0) || not (nat_eq k 0))
sum-is c k = grind (arith, nat_tests)

-- a list that tells what occurs outside, with variables that were entered
pub entered-beside : (O vs : List ℕ) (x c d : ℕ) → d ≡ c + times_in x vs → is_in x O ≡ not (nat_eq c 0) → is_in x (O ++ vs) ≡ not (nat_eq d 0)
entered-beside O vs x c d e h =
    is-in-append x O vs
    ∙ (ap₂ (λ (t u : Bool). t || u) h (is-in-times x vs)
    ∙ (sym (sum-is c (times_in x vs)) ∙ ap (λ n. not (nat_eq n 0)) (sym e)))

-- of a count, what is around all and in the others is around one
around-is : (c all one others : ℕ) → all ≡ one + others → all ≤ c → (not (nat_eq (c - all) 0) || not (nat_eq others 0)) ≡ not (nat_eq (c - one) 0)
around-is c all one others e h = grind (arith, nat_tests)

pub around-one : (O ws : List ℕ) (x c all one : ℕ) → all ≡ one + times_in x ws → all ≤ c → is_in x O ≡ not (nat_eq (c - all) 0) → is_in x (O ++ ws) ≡ not (nat_eq (c - one) 0)
around-one O ws x c all one e h k =
    is-in-append x O ws
    ∙ (ap₂ (λ (t u : Bool). t || u) k (is-in-times x ws) ∙ around-is c all one (times_in x ws) e h)

-- of waiting goals, one and the others
pub times-at : (x : ℕ) (gs : List Flat_goal) (k : ℕ) → k < length gs
    → times_in x (variables_of_each gs) ≡ times_in x (variables_of (get_or gs k nothing)) + times_in x (variables_of_each (remove gs k))
times-at x [] k h = absurd (omega arith)
times-at x (g ∷ gs) zero h = times-append x (variables_of g) (variables_of_each gs)
times-at x (g ∷ gs) (suc k) h =
    omega (arith, times-append x (variables_of g) (variables_of_each gs), times-append x (variables_of g) (variables_of_each (remove gs k)), times-at x gs k (omega arith))

pub below-at : (n : ℕ) (gs : List Flat_goal) (k : ℕ) → k < length gs → NumbersBelow n (variables_of_each gs) → NumbersBelow n (variables_of (get_or gs k nothing))
below-at n [] k h w = absurd (omega arith)
below-at n (g ∷ gs) zero h w = below-first n (variables_of g) (variables_of_each gs) w
below-at n (g ∷ gs) (suc k) h w = below-at n gs k (omega arith) (below-second n (variables_of g) (variables_of_each gs) w)

ran-is : (c d all fresh ran left : ℕ) → d ≡ c + fresh → ran + left ≡ all + fresh → all ≤ c → (not (nat_eq (c - all) 0) || not (nat_eq ran 0)) ≡ not (nat_eq (d - left) 0)
ran-is c d all fresh ran left e f h = grind (arith, nat_tests)

-- what occurs outside the goals that are left, of which others ran
pub around-left : (O vs : List ℕ) (x c d all fresh left : ℕ) → d ≡ c + fresh → times_in x vs + left ≡ all + fresh → all ≤ c
    → is_in x O ≡ not (nat_eq (c - all) 0) → is_in x (O ++ vs) ≡ not (nat_eq (d - left) 0)
around-left O vs x c d all fresh left e f h k =
    is-in-append x O vs
    ∙ (ap₂ (λ (t u : Bool). t || u) k (is-in-times x vs) ∙ ran-is c d all fresh (times_in x vs) left e f h)

pub remove-below : (n : ℕ) (ks : List ℕ) (p : ℕ) → NumbersBelow n ks → NumbersBelow n (remove ks p)
remove-below n [] zero w = tt
remove-below n [] (suc p) w = tt
remove-below n (k ∷ ks) zero w = w.1
remove-below n (k ∷ ks) (suc p) w = (w.0, remove-below n ks p w.1)
