-- Rows that ascend.
use Rattle.std.proofs.Common.{◌≡◌, ℕ, zero, suc, ◌<◌, ◌≤◌, ◌+◌, ◌-◌, Bool, true, false, List, [], ◌∷◌, ◌++◌, length, get_or, take, drop, nat_eq, nat_lt, if◌then◌else◌, refl, sym, ap, ◌∙◌, arith, append_assoc}
use Rattle.std.specs.List.{insert}
use Rattle.std.proofs.lemmas.Bool.Decides.{nat_tests}
use Rattle.std.proofs.lemmas.List.{take-append-drop, take_more}
use Rattle.std.proofs.Math.Seq.{drop-length}
use Rattle.mc_accepted.specs.Arranged.{placed, ascending}
use Rattle.mc_mode_state.proofs.Numbers.{cons_at}

abbrev Reached : List ℕ → ℕ → ℕ → Type 0
Reached row x k = take k row ++ placed x (drop k row) ≡ placed x row

below_first : (x y : ℕ) (ys : List ℕ) → x < y → placed x (y ∷ ys) ≡ x ∷ y ∷ ys
below_first x y ys h = let t : nat_lt x y ≡ true = grind (arith, nat_tests) in ap (λ b. if b then x ∷ y ∷ ys else (if nat_eq x y then y ∷ ys else y ∷ placed x ys)) t

is_first : (x y : ℕ) (ys : List ℕ) → x ≡ y → placed x (y ∷ ys) ≡ y ∷ ys
is_first x y ys h =
    let t : nat_lt x y ≡ false = grind (arith, nat_tests) in
    let u : nat_eq x y ≡ true = grind (arith, nat_tests) in
    ap (λ b. if b then x ∷ y ∷ ys else (if nat_eq x y then y ∷ ys else y ∷ placed x ys)) t ∙ ap (λ b. if b then y ∷ ys else y ∷ placed x ys) u

above_first : (x y : ℕ) (ys : List ℕ) → y < x → placed x (y ∷ ys) ≡ y ∷ placed x ys
above_first x y ys h =
    let t : nat_lt x y ≡ false = grind (arith, nat_tests) in
    let u : nat_eq x y ≡ false = grind (arith, nat_tests) in
    ap (λ b. if b then x ∷ y ∷ ys else (if nat_eq x y then y ∷ ys else y ∷ placed x ys)) t ∙ ap (λ b. if b then y ∷ ys else y ∷ placed x ys) u

inserted : (row : List ℕ) (k x : ℕ) → k ≤ length row → insert row k x ≡ take k row ++ x ∷ drop k row
inserted [] zero x h = refl
inserted [] (suc k) x h = absurd (omega arith)
inserted (y ∷ row) zero x h = refl
inserted (y ∷ row) (suc k) x h = ap (λ ys. y ∷ ys) (inserted row k x (omega arith))

pub placed-before : (row : List ℕ) (x k : ℕ) → Reached row x k → k < length row → x < get_or row k 0 → placed x row ≡ insert row k x
placed-before row x k r h l =
    sym r ∙ (ap (λ ys. take k row ++ placed x ys) (cons_at row k 0 h)
    ∙ (ap (λ ys. take k row ++ ys) (below_first x (get_or row k 0) (drop (k + 1) row) l ∙ ap (λ ys. x ∷ ys) (sym (cons_at row k 0 h)))
    ∙ sym (inserted row k x (omega arith))))

pub placed-there : (row : List ℕ) (x k : ℕ) → Reached row x k → k < length row → x ≡ get_or row k 0 → placed x row ≡ row
placed-there row x k r h l =
    sym r ∙ (ap (λ ys. take k row ++ placed x ys) (cons_at row k 0 h)
    ∙ (ap (λ ys. take k row ++ ys) (is_first x (get_or row k 0) (drop (k + 1) row) l ∙ sym (cons_at row k 0 h))
    ∙ take-append-drop k row))

pub placed-on : (row : List ℕ) (x k : ℕ) → Reached row x k → k < length row → get_or row k 0 < x → Reached row x (k + 1)
placed-on row x k r h l =
    ap (λ ys. ys ++ placed x (drop (k + 1) row)) (take_more row k 0 h)
    ∙ (append_assoc (take k row) (get_or row k 0 ∷ []) (placed x (drop (k + 1) row))
    ∙ (ap (λ ys. take k row ++ ys) (sym (above_first x (get_or row k 0) (drop (k + 1) row) l))
    ∙ (ap (λ ys. take k row ++ placed x ys) (sym (cons_at row k 0 h)) ∙ r)))

pub placed-last : (row : List ℕ) (x k : ℕ) → Reached row x k → length row ≡ k → placed x row ≡ insert row (length row) x
placed-last row x k r e =
    sym r ∙ (ap (λ n. take n row ++ placed x (drop n row)) (sym e)
    ∙ (ap (λ ys. take (length row) row ++ placed x ys) (drop-length row)
    ∙ (ap (λ ys. take (length row) row ++ x ∷ ys) (sym (drop-length row)) ∙ sym (inserted row (length row) x (omega arith)))))

ascending-at : (f : ℕ → Bool) (xs : List ℕ) (j k : ℕ) → k ≡ j + 1 → j < length xs → ascending f (drop j xs) ≡ (if f (get_or xs j 0) then placed (get_or xs j 0) (ascending f (drop k xs)) else ascending f (drop k xs))
ascending-at f xs j k e h =
    ap (ascending f) (cons_at xs j 0 h)
    ∙ ap (λ n. if f (get_or xs j 0) then placed (get_or xs j 0) (ascending f (drop n xs)) else ascending f (drop n xs)) (sym e)

-- one more from the end
pub ascending-one : (f : ℕ → Bool) (xs : List ℕ) (k : ℕ) → 0 < k → k ≤ length xs → ascending f (drop (k - 1) xs) ≡ (if f (get_or xs (k - 1) 0) then placed (get_or xs (k - 1) 0) (ascending f (drop k xs)) else ascending f (drop k xs))
ascending-one f xs k h l = ascending-at f xs (k - 1) k (omega arith) (omega arith)
