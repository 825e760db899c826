-- Insts that change, as lists.
use Rattle.std.proofs.Math.Path.{fun_ext}
use Rattle.std.proofs.Common.{◌≡◌, ◌⊎◌, inl, inr, ℕ, zero, suc, ◌+◌, ◌<◌, ◌≤◌, nat_eq, List, [], ◌∷◌, ◌++◌, length, get_or, set, drop, true, false, refl, sym, ap, ◌∙◌, subst, arith, if◌then◌else◌}
use Rattle.std.proofs.lemmas.Bool.{eqb-true, eq-eqb, cases_Bool}
use Rattle.std.proofs.lemmas.List.{get_or-set_same, get_or-set_other}
use Rattle.mc_accepted.specs.Ordered.{Insts, change_at}
use Rattle.mc_accepted.specs.Accepted.{entered}
use Rattle.mc_procs.specs.Named.{NumbersBelow}
use Rattle.mc_det.specs.code.Points.{insts_in, changed, undone, ChangesBelow}

-- one that is put
pub in_set : (is : List ℕ) (x i : ℕ) → x < length is → insts_in (set is x i) ≡ changed x i (insts_in is)
in_set is x i lt = fun_ext (λ y. there y (cases_Bool (nat_eq y x)))
  where
    there : (y : ℕ) → (nat_eq y x ≡ true) ⊎ (nat_eq y x ≡ false) → insts_in (set is x i) y ≡ changed x i (insts_in is) y
    there y (inl t) =
        ap (insts_in (set is x i)) (eqb-true y x t) ∙ get_or-set_same is x i 0 lt
        ∙ ap (λ b. if b then i else get_or is y 0) (sym t)
    there y (inr f) =
        get_or-set_other is x y i 0 (λ (e : y ≡ x). let t : true ≡ false = sym (eq-eqb y x e) ∙ f in cc)
        ∙ ap (λ b. if b then i else get_or is y 0) (sym f)

pub set_past : (is : List ℕ) (x i : ℕ) → length is ≤ x → set is x i ≡ is
set_past [] x i h = refl
set_past (y ∷ is) zero i h = absurd (omega arith)
set_past (y ∷ is) (suc x) i h = ap (λ l. y ∷ l) (set_past is x i (omega arith))

pub none_in : (is : List ℕ) → ((x : ℕ) → get_or is x 0 ≡ 0) → insts_in is ≡ (λ x. 0)
none_in is h = fun_ext h

pub zero_more : (is : List ℕ) → ((x : ℕ) → get_or is x 0 ≡ 0) → (x : ℕ) → get_or (is ++ 0 ∷ []) x 0 ≡ 0
zero_more [] h zero = refl
zero_more [] h (suc x) = refl
zero_more (y ∷ is) h zero = h 0
zero_more (y ∷ is) h (suc x) = zero_more is (λ k. h (suc k)) x

-- the head's variables, from a place on
drop_past : {A : Type 0} (xs : List A) (n : ℕ) → length xs ≤ n → drop n xs ≡ []
drop_past [] zero h = refl
drop_past [] (suc n) h = refl
drop_past (x ∷ xs) zero h = absurd (omega arith)
drop_past (x ∷ xs) (suc n) h = drop_past xs n (omega arith)

none_given : (head : List ℕ) → entered head [] ≡ (λ x. 0)
none_given [] = refl
none_given (y ∷ ys) = refl

pub nothing_entered : (head first : List ℕ) (n : ℕ) → (n ≡ length head) ⊎ (n ≡ length first) → entered (drop n head) (drop n first) ≡ (λ x. 0)
nothing_entered head first n (inl e) = ap (λ l. entered l (drop n first)) (drop_past head n (omega arith))
nothing_entered head first n (inr e) = ap (entered (drop n head)) (drop_past first n (omega arith)) ∙ none_given (drop n head)

pub one_entered : (head first : List ℕ) (n : ℕ) → n < length head → n < length first → entered (drop n head) (drop n first) ≡ changed (get_or head n 0) (get_or first n 0) (entered (drop (suc n) head) (drop (suc n) first))
one_entered [] first n h k = absurd (omega arith)
one_entered (y ∷ ys) [] n h k = absurd (omega arith)
one_entered (y ∷ ys) (i ∷ is) zero h k = refl
one_entered (y ∷ ys) (i ∷ is) (suc n) h k = one_entered ys is n (omega arith) (omega arith)

pub head_below : (top : ℕ) (xs : List ℕ) (n : ℕ) → NumbersBelow top xs → n < length xs → get_or xs n 0 < top
head_below top [] n h lt = absurd (omega arith)
head_below top (x ∷ xs) zero h lt = h.0
head_below top (x ∷ xs) (suc n) h lt = head_below top xs n h.1 (omega arith)

-- a goal's changes, from a place on
pub change_below : (top : ℕ) (changes : List (ℕ × ℕ)) (n : ℕ) (d : ℕ × ℕ) → ChangesBelow top changes → n < length changes → (get_or changes n d).0 < top
change_below top [] n d h lt = absurd (omega arith)
change_below top ((x, i) ∷ changes) zero d h lt = h.0
change_below top ((x, i) ∷ changes) (suc n) d h lt = change_below top changes n d h.1 (omega arith)

pub all_changes_left : (changes : List (ℕ × ℕ)) (b : Insts) → (λ x. change_at x (drop (length changes) changes) (b x)) ≡ b
all_changes_left [] b = refl
all_changes_left (c ∷ changes) b = all_changes_left changes b

pub one_changes : (changes : List (ℕ × ℕ)) (n : ℕ) (d : ℕ × ℕ) (b : Insts) → n < length changes → (λ x. change_at x (drop n changes) (b x)) ≡ changed (get_or changes n d).0 (get_or changes n d).1 (λ x. change_at x (drop (suc n) changes) (b x))
one_changes [] n d b lt = absurd (omega arith)
one_changes (c ∷ changes) zero d b lt = refl
one_changes (c ∷ changes) (suc n) d b lt = one_changes changes n d b (omega arith)

-- what was found is put back
pub undone_more : (found : List (ℕ × ℕ)) (x i : ℕ) (is : List ℕ) → undone (found ++ (x, i) ∷ []) is ≡ undone found (set is x i)
undone_more [] x i is = refl
undone_more ((y, j) ∷ found) x i is = ap (λ l. set l y j) (undone_more found x i is)

set_back : (is : List ℕ) (x i : ℕ) → set (set is x i) x (get_or is x 0) ≡ is
set_back [] x i = refl
set_back (y ∷ is) zero i = refl
set_back (y ∷ is) (suc x) i = ap (λ l. y ∷ l) (set_back is x i)

pub found_one : (found more : List (ℕ × ℕ)) (x i : ℕ) (is : List ℕ) → more ≡ found ++ (x, get_or is x 0) ∷ [] → undone more (set is x i) ≡ undone found is
found_one found more x i is e =
    ap (λ l. undone l (set is x i)) e ∙ undone_more found x (get_or is x 0) (set is x i) ∙ ap (undone found) (set_back is x i)

-- a step of entering the head, and of entering changes
pub head_step : (top : ℕ) (head first : List ℕ) (k n : ℕ) (is js : List ℕ) → k + 1 ≡ n → n ≤ length head → n ≤ length first → length is ≡ top → NumbersBelow top head → insts_in is ≡ entered (drop n head) (drop n first) → js ≡ set is (get_or head k 0) (get_or first k 0) → insts_in js ≡ entered (drop k head) (drop k first)
head_step top head first k n is js e h f c below inv put =
    let next : n ≡ suc k = omega arith in
    let lt : get_or head k 0 < top = head_below top head k below (omega arith) in
    ap insts_in put
    ∙ in_set is (get_or head k 0) (get_or first k 0) (omega arith)
    ∙ ap (changed (get_or head k 0) (get_or first k 0)) (inv ∙ ap (λ m. entered (drop m head) (drop m first)) next)
    ∙ sym (one_entered head first k (omega arith) (omega arith))

pub changes_step : (changes : List (ℕ × ℕ)) (k n : ℕ) (d : ℕ × ℕ) (start is js : List ℕ) → k + 1 ≡ n → n ≤ length changes → length is ≡ length start → ChangesBelow (length start) changes → insts_in is ≡ (λ x. change_at x (drop n changes) (insts_in start x)) → js ≡ set is (get_or changes k d).0 (get_or changes k d).1 → insts_in js ≡ (λ x. change_at x (drop k changes) (insts_in start x))
changes_step changes k n d start is js e h c below inv put =
    let next : n ≡ suc k = omega arith in
    let lt : (get_or changes k d).0 < length start = change_below (length start) changes k d below (omega arith) in
    let rest : insts_in is ≡ (λ x. change_at x (drop (suc k) changes) (insts_in start x)) = subst (λ m. insts_in is ≡ (λ x. change_at x (drop m changes) (insts_in start x))) next inv in
    ap insts_in put
    ∙ in_set is (get_or changes k d).0 (get_or changes k d).1 (omega arith)
    ∙ ap (changed (get_or changes k d).0 (get_or changes k d).1) rest
    ∙ sym (one_changes changes k d (insts_in start) (omega arith))
