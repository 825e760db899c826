-- What is kept of a group, variable by variable.
use Rattle.std.proofs.Common.{◌≡◌, ◌≢◌, ◌⊎◌, inl, inr, ℕ, zero, suc, ◌<◌, ◌≤◌, List, [], ◌∷◌, ◌++◌, map, Bool, true, false, not, nat_eq, ◌&&◌, ◌||◌, if◌then◌else◌, refl, sym, ap, ◌∙◌, subst, ⊎_elim, arith}
use Rattle.std.proofs.lemmas.Bool.{eqb-true, eqb-false, eq-eqb}
use Rattle.mc_model.specs.Stream.{is_bound}
use Rattle.mc_accepted.specs.Ordered.{Insts, change_at, RisesFrom, EachChanges}
use Rattle.mc_mode_state.specs.Tables.{Entry}
use Rattle.mc_switch.specs.Kept.{inst_merged, changed_to, change_of, changes_of}

-- ---- changes one behind another
abbrev AllBelow : ℕ → List (ℕ × ℕ) → Type 0
AllBelow n [] = Unit {0}
AllBelow n (x ∷ xs) = (x.0 < n) × AllBelow n xs

abbrev AllOff : ℕ → List (ℕ × ℕ) → Type 0
AllOff y [] = Unit {0}
AllOff y (x ∷ xs) = (y ≢ x.0) × AllOff y xs

below_more : (n : ℕ) (xs : List (ℕ × ℕ)) → AllBelow n xs → AllBelow (suc n) xs
below_more n [] h = tt
below_more n (x ∷ xs) h = ((let l = h.0 in omega (arith, l)), below_more n xs h.1)

below_both : (n : ℕ) (xs ys : List (ℕ × ℕ)) → AllBelow n xs → AllBelow n ys → AllBelow n (xs ++ ys)
below_both n [] ys h k = k
below_both n (x ∷ xs) ys h k = (h.0, below_both n xs ys h.1 k)

off_below : (n : ℕ) (xs : List (ℕ × ℕ)) → AllBelow n xs → AllOff n xs
off_below n [] h = tt
off_below n (x ∷ xs) h = ((λ e. (let l = h.0 in omega (arith, l, e))), off_below n xs h.1)

is_off : (y z : ℕ) → y ≢ z → nat_eq y z ≡ false
is_off y z n = at (nat_eq y z) refl
  where
    at : (t : Bool) → nat_eq y z ≡ t → t ≡ false
    at true e = absurd (n (eqb-true y z e))
    at false e = refl

at_off : (y i : ℕ) (xs : List (ℕ × ℕ)) → AllOff y xs → change_at y xs i ≡ i
at_off y i [] h = refl
at_off y i (x ∷ xs) h = ap (λ t. if t then x.1 else change_at y xs i) (is_off y x.0 h.0) ∙ at_off y i xs h.1

at_first : (y i : ℕ) (xs ys : List (ℕ × ℕ)) → AllOff y ys → change_at y (xs ++ ys) i ≡ change_at y xs i
at_first y i [] ys h = at_off y i ys h
at_first y i (x ∷ xs) ys h = ap (λ k. if nat_eq y x.0 then x.1 else k) (at_first y i xs ys h)

at_later : (y i : ℕ) (xs ys : List (ℕ × ℕ)) → AllOff y xs → change_at y (xs ++ ys) i ≡ change_at y ys i
at_later y i [] ys h = refl
at_later y i (x ∷ xs) ys h = ap (λ t. if t then x.1 else change_at y (xs ++ ys) i) (is_off y x.0 h.0) ∙ at_later y i xs ys h.1

rises_both : (k n : ℕ) (xs ys : List (ℕ × ℕ)) → k ≤ n → AllBelow n xs → RisesFrom k xs → RisesFrom n ys → RisesFrom k (xs ++ ys)
rises_both k n [] [] le b h g = tt
rises_both k n [] (y ∷ ys) le b h g = ((let l = g.0 in omega (arith, l, le)), g.1)
rises_both k n (x ∷ xs) ys le b h g = (h.0, rises_both (suc x.0) n xs ys (let l = b.0 in omega (arith, l)) b.1 h.1 g)

changes_both : (b : Insts) (xs ys : List (ℕ × ℕ)) → EachChanges b xs → EachChanges b ys → EachChanges b (xs ++ ys)
changes_both b [] ys h g = g
changes_both b (x ∷ xs) ys h g = (h.0, changes_both b xs ys h.1 g)

-- ---- of one variable
one_below : (x i k : ℕ) (t : Bool) → AllBelow (suc x) (changed_to x i k t)
one_below x i k t = at (t && not (nat_eq k i))
  where
    at : (u : Bool) → AllBelow (suc x) (if u then (x, k) ∷ [] else [])
    at true = (omega arith, tt)
    at false = tt

one_off : (y x i k : ℕ) (t : Bool) → y ≢ x → AllOff y (changed_to x i k t)
one_off y x i k t n = at (t && not (nat_eq k i))
  where
    at : (u : Bool) → AllOff y (if u then (x, k) ∷ [] else [])
    at true = (n, tt)
    at false = tt

one_rises : (x i k : ℕ) (t : Bool) → RisesFrom x (changed_to x i k t)
one_rises x i k t = at (t && not (nat_eq k i))
  where
    at : (u : Bool) → RisesFrom x (if u then (x, k) ∷ [] else [])
    at true = (omega arith, tt)
    at false = tt

one_changes : (b : Insts) (x k : ℕ) (t : Bool) → EachChanges b (changed_to x (b x) k t)
one_changes b x k true = at (nat_eq k (b x)) refl
  where
    at : (u : Bool) → nat_eq k (b x) ≡ u → EachChanges b (if not u then (x, k) ∷ [] else [])
    at true e = tt
    at false e = ((λ q. eqb-false k (b x) e (sym q)), tt)
one_changes b x k false = tt

one_at : (x i k : ℕ) (t : Bool) → change_at x (changed_to x i k t) i ≡ (if t then k else i)
one_at x i k false = refl
one_at x i k true = at (nat_eq k i) refl
  where
    at : (u : Bool) → nat_eq k i ≡ u → change_at x (if not u then (x, k) ∷ [] else []) i ≡ k
    at true e = sym (eqb-true k i e)
    at false e = ap (λ t. if t then k else i) (eq-eqb x x refl)

-- ---- of so many variables
module _ (N : List Entry) (b c : Insts) (es : List Insts) where
  abbrev merged_at : ℕ → ℕ
  merged_at x = inst_merged N x (map (λ (e : Insts). e x) es)

  abbrev pub is_bound_at : ℕ → Bool
  is_bound_at x = is_bound (b x) || is_bound (c x)

  pub changes_below : (n : ℕ) → AllBelow n (changes_of N b c es n)
  changes_below zero = tt
  changes_below (suc n) =
      below_both (suc n) (changes_of N b c es n) (change_of N b c es n) (below_more n (changes_of N b c es n) (changes_below n)) (one_below n (b n) (merged_at n) (is_bound_at n))

  pub changes_rise : (n : ℕ) → RisesFrom 0 (changes_of N b c es n)
  changes_rise zero = tt
  changes_rise (suc n) = rises_both 0 n (changes_of N b c es n) (change_of N b c es n) (omega arith) (changes_below n) (changes_rise n) (one_rises n (b n) (merged_at n) (is_bound_at n))

  pub changes_change : (n : ℕ) → EachChanges b (changes_of N b c es n)
  changes_change zero = tt
  changes_change (suc n) = changes_both b (changes_of N b c es n) (change_of N b c es n) (changes_change n) (one_changes b n (merged_at n) (is_bound_at n))

  last_or : (n x : ℕ) → x < suc n → (x ≡ n) ⊎ (x < n)
  last_or zero zero lt = inl refl
  last_or zero (suc x) lt = absurd (omega (arith, lt))
  last_or (suc n) zero lt = inr (omega arith)
  last_or (suc n) (suc x) lt = ⊎_elim (λ e. inl (ap suc e)) (λ l. inr (omega (arith, l))) (last_or n x (omega (arith, lt)))

  -- a variable's inst after them
  pub value_of : (n x : ℕ) → x < n → change_at x (changes_of N b c es n) (b x) ≡ (if is_bound_at x then merged_at x else b x)
  value_of zero x lt = absurd (omega (arith, lt))
  value_of (suc n) x lt = at (last_or n x lt) (λ l. value_of n x l)
    where
      at : (x ≡ n) ⊎ (x < n) → (x < n → change_at x (changes_of N b c es n) (b x) ≡ (if is_bound_at x then merged_at x else b x)) → change_at x (changes_of N b c es n ++ change_of N b c es n) (b x) ≡ (if is_bound_at x then merged_at x else b x)
      at (inl e) before =
          at_later x (b x) (changes_of N b c es n) (change_of N b c es n) (subst (λ y. AllOff y (changes_of N b c es n)) (sym e) (off_below n (changes_of N b c es n) (changes_below n)))
          ∙ subst (λ y. change_at x (change_of N b c es y) (b x) ≡ (if is_bound_at x then merged_at x else b x)) e (one_at x (b x) (merged_at x) (is_bound_at x))
      at (inr l) before = at_first x (b x) (changes_of N b c es n) (change_of N b c es n) (one_off x n (b n) (merged_at n) (is_bound_at n) (λ e. omega (arith, l, e))) ∙ before l

  off_above : (n x : ℕ) → n ≤ x → (xs : List (ℕ × ℕ)) → AllBelow n xs → AllOff x xs
  off_above n x le [] h = tt
  off_above n x le (y ∷ xs) h = ((λ e. (let l = h.0 in omega (arith, l, le, e))), off_above n x le xs h.1)

  -- any other keeps its inst
  pub value_past : (n x : ℕ) → n ≤ x → change_at x (changes_of N b c es n) (b x) ≡ b x
  value_past n x le = at_off x (b x) (changes_of N b c es n) (off_above n x le (changes_of N b c es n) (changes_below n))
