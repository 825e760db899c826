-- Whether changes bind a variable that occurs outside is told by the variables that change.
use Rattle.std.proofs.Common.{◌≡◌, ℕ, zero, suc, Bool, true, false, not, nat_eq, ◌&&◌, ◌||◌, List, [], ◌∷◌, length, get_or, map, refl, sym, ap, ◌∙◌, true≢false, if◌then◌else◌, arith}
use Rattle.std.proofs.lemmas.Bool.{eqb-true, eq-eqb}
use Rattle.std.proofs.lemmas.Bool.Decides.{nat_tests}
use Rattle.std.specs.List.{list_any, filter}
use Rattle.mc_model.specs.Insts.{Graph}
use Rattle.mc_model.specs.Stream.{is_bound}
use Rattle.mc_accepted.specs.Fits.{FitsInsts}
use Rattle.mc_accepted.specs.MergedArms.{takes_constants}
use Rattle.mc_accepted.specs.Ordered.{Insts, change_at, binds_one, times_in}
use Rattle.mc_det.specs.code.Points.{insts_in, ChangesBelow}
use Rattle.mc_det.specs.code.Prunes.{Counted, is_free_outside, free_outside}

same_bool : (s t : Bool) → (s ≡ true → t ≡ true) → (t ≡ true → s ≡ true) → s ≡ t
same_bool true t f g = sym (f refl)
same_bool false true f g = g refl
same_bool false false f g = refl

both_true : (s t : Bool) → s ≡ true → t ≡ true → (s && t) ≡ true
both_true s t e f = ap (λ (x : Bool). x && t) e ∙ f

first_true : (s t : Bool) → (s && t) ≡ true → s ≡ true
first_true true t e = refl
first_true false t e = e

second_true : (s t : Bool) → (s && t) ≡ true → t ≡ true
second_true true t e = e
second_true false t e = absurd (true≢false (sym e))

or_second : (s t : Bool) → t ≡ true → (s || t) ≡ true
or_second true t e = refl
or_second false t e = e

not_free : (i : ℕ) → not (is_bound i) ≡ nat_eq i 0
not_free i = twice (nat_eq i 0)
  where
    twice : (t : Bool) → not (not t) ≡ t
    twice true = refl
    twice false = refl

eq_self : (x : ℕ) → nat_eq x x ≡ true
eq_self x = eq-eqb x x refl

-- one of the changes of some kind, by their variables
pub any_given : (p : ℕ → Bool) (q : ℕ × ℕ → Bool) (cs : List (ℕ × ℕ)) → list_any (λ (e : ℕ × ℕ). q e && p e.0) cs ≡ list_any p (map (λ (e : ℕ × ℕ). e.0) (filter q cs))
any_given p q [] = refl
any_given p q (e ∷ cs) = at (q e) (any_given p q cs)
  where
    at : (t : Bool) → list_any (λ (e : ℕ × ℕ). q e && p e.0) cs ≡ list_any p (map (λ (e : ℕ × ℕ). e.0) (filter q cs)) → ((t && p e.0) || list_any (λ (e : ℕ × ℕ). q e && p e.0) cs) ≡ list_any p (map (λ (e : ℕ × ℕ). e.0) (if t then e ∷ filter q cs else filter q cs))
    at true r = ap (λ (s : Bool). p e.0 || s) r
    at false r = r

-- one that occurs in a list, and is bound there
found_in_list : (Q : List ℕ) (b c : Insts) (x : ℕ) → not (nat_eq (times_in x Q) 0) ≡ true → (not (is_bound (b x)) && is_bound (c x)) ≡ true → binds_one Q b c ≡ true
found_in_list [] b c x n e = absurd (true≢false (sym n))
found_in_list (y ∷ ys) b c x n e = here (nat_eq x y) refl (λ m. found_in_list ys b c x m e) n
  where
    there : (s : Bool) → binds_one ys b c ≡ true → (if s then true else binds_one ys b c) ≡ true
    there true h = refl
    there false h = h

    here : (t : Bool) → nat_eq x y ≡ t → (not (nat_eq (times_in x ys) 0) ≡ true → binds_one ys b c ≡ true) → not (nat_eq (if t then suc (times_in x ys) else times_in x ys) 0) ≡ true → binds_one (y ∷ ys) b c ≡ true
    here true f again n =
        let same : x ≡ y = eqb-true x y f in
        ap (λ (s : Bool). if s then true else binds_one ys b c) (ap (λ z. not (is_bound (b z)) && is_bound (c z)) (sym same) ∙ e)
    here false f again n = there (not (is_bound (b y)) && is_bound (c y)) (again n)

module _ (Q counts point : List ℕ) (c : Insts) (counted : Counted Q counts) where
  -- one of the variables that change
  abbrev some : List (ℕ × ℕ) → Bool
  some cs = list_any (λ x. is_bound (c x)) (free_outside point counts cs)

  abbrev here_or : (ℕ × ℕ) → Bool → List (ℕ × ℕ) → Bool
  here_or d s cs = list_any (λ x. is_bound (c x)) (map (λ (e : ℕ × ℕ). e.0) (if s then d ∷ filter (is_free_outside point counts) cs else filter (is_free_outside point counts) cs))

  listed_binds : (cs : List (ℕ × ℕ)) → ChangesBelow (length counts) cs → some cs ≡ true → binds_one Q (insts_in point) c ≡ true
  listed_binds [] below e = absurd (true≢false (sym e))
  listed_binds ((y, i) ∷ cs) below e = pick (is_free_outside point counts (y, i)) refl (listed_binds cs below.1) e
    where
      bound : (s : Bool) → is_bound (c y) ≡ s → is_free_outside point counts (y, i) ≡ true → (some cs ≡ true → binds_one Q (insts_in point) c ≡ true) → (s || some cs) ≡ true → binds_one Q (insts_in point) c ≡ true
      bound true v f again h =
          found_in_list Q (insts_in point) c y
          (ap (λ n. not (nat_eq n 0)) (sym (counted y below.0)) ∙ second_true (nat_eq (insts_in point y) 0) (not (nat_eq (get_or counts y 0) 0)) f)
          (both_true (not (is_bound (insts_in point y))) (is_bound (c y)) (not_free (insts_in point y) ∙ first_true (nat_eq (insts_in point y) 0) (not (nat_eq (get_or counts y 0) 0)) f) v)
      bound false v f again h = again h

      pick : (s : Bool) → is_free_outside point counts (y, i) ≡ s → (some cs ≡ true → binds_one Q (insts_in point) c ≡ true) → here_or (y, i) s cs ≡ true → binds_one Q (insts_in point) c ≡ true
      pick true f again h = bound (is_bound (c y)) refl f again h
      pick false f again h = again h

  -- a variable that changes from free to bound is listed
  change_listed : (x : ℕ) (cs : List (ℕ × ℕ)) → ChangesBelow (length counts) cs → not (nat_eq (times_in x Q) 0) ≡ true → nat_eq (insts_in point x) 0 ≡ true → is_bound (c x) ≡ true → is_bound (change_at x cs (insts_in point x)) ≡ true → some cs ≡ true
  change_listed x [] below n f v e = absurd (true≢false (sym (ap not (sym f) ∙ e) ∙ refl))
  change_listed x ((y, i) ∷ cs) below n f v e = here (nat_eq x y) refl (change_listed x cs below.1 n f v) e
    where
      more : (s : Bool) → some cs ≡ true → here_or (y, i) s cs ≡ true
      more true h = or_second (is_bound (c y)) (some cs) h
      more false h = h

      taken : (s : Bool) → s ≡ true → is_bound (c y) ≡ true → here_or (y, i) s cs ≡ true
      taken true g h = ap (λ (t : Bool). t || some cs) h
      taken false g h = absurd (true≢false (sym g))

      here : (t : Bool) → nat_eq x y ≡ t → (is_bound (change_at x cs (insts_in point x)) ≡ true → some cs ≡ true) → is_bound (if t then i else change_at x cs (insts_in point x)) ≡ true → some ((y, i) ∷ cs) ≡ true
      here true g again h =
          let same : x ≡ y = eqb-true x y g in
          taken (is_free_outside point counts (y, i))
          (both_true (nat_eq (insts_in point y) 0) (not (nat_eq (get_or counts y 0) 0)) (ap (λ z. nat_eq (insts_in point z) 0) (sym same) ∙ f)
          (ap (λ k. not (nat_eq k 0)) (counted y below.0) ∙ ap (λ z. not (nat_eq (times_in z Q) 0)) (sym same) ∙ n))
          (ap (λ z. is_bound (c z)) (sym same) ∙ v)
      here false g again h = more (is_free_outside point counts (y, i)) (again h)

  binds_listed : (changes : List (ℕ × ℕ)) → ChangesBelow (length counts) changes → ((x : ℕ) → c x ≡ change_at x changes (insts_in point x)) → (xs : List ℕ) → ((x : ℕ) → not (nat_eq (times_in x xs) 0) ≡ true → not (nat_eq (times_in x Q) 0) ≡ true) → binds_one xs (insts_in point) c ≡ true → some changes ≡ true
  binds_listed changes below after [] part e = absurd (true≢false (sym e))
  binds_listed changes below after (x ∷ xs) part e = here (not (is_bound (insts_in point x)) && is_bound (c x)) refl (binds_listed changes below after xs) e
    where
      itself : (t : Bool) → t ≡ true → not (nat_eq (if t then suc (times_in x xs) else times_in x xs) 0) ≡ true
      itself true g = let h : nat_eq (suc (times_in x xs)) 0 ≡ false = grind (arith, nat_tests) in ap not h
      itself false g = absurd (true≢false (sym g))

      later : (y : ℕ) (t : Bool) → not (nat_eq (times_in y xs) 0) ≡ true → not (nat_eq (if t then suc (times_in y xs) else times_in y xs) 0) ≡ true
      later y true h = let g : nat_eq (suc (times_in y xs)) 0 ≡ false = grind (arith, nat_tests) in ap not g
      later y false h = h

      here : (s : Bool) → (not (is_bound (insts_in point x)) && is_bound (c x)) ≡ s → (((z : ℕ) → not (nat_eq (times_in z xs) 0) ≡ true → not (nat_eq (times_in z Q) 0) ≡ true) → binds_one xs (insts_in point) c ≡ true → some changes ≡ true) → (if s then true else binds_one xs (insts_in point) c) ≡ true → some changes ≡ true
      here true g again h =
          let v : is_bound (c x) ≡ true = second_true (not (is_bound (insts_in point x))) (is_bound (c x)) g in
          change_listed x changes below (part x (itself (nat_eq x x) (eq_self x)))
          (sym (not_free (insts_in point x)) ∙ first_true (not (is_bound (insts_in point x))) (is_bound (c x)) g)
          v (ap is_bound (sym (after x)) ∙ v)
      here false g again h = again (λ y w. part y (later y (nat_eq y x) w)) h

  pub bound_outside : (changes : List (ℕ × ℕ)) → ChangesBelow (length counts) changes → ((x : ℕ) → c x ≡ change_at x changes (insts_in point x)) → list_any (λ x. is_bound (c x)) (free_outside point counts changes) ≡ binds_one Q (insts_in point) c
  bound_outside changes below after =
      same_bool (some changes) (binds_one Q (insts_in point) c) (listed_binds changes below) (binds_listed changes below after Q (λ x w. w))

-- the builtin insts but `free` allow constants
none_of : (s t u : Bool) → s ≡ false → t ≡ false → u ≡ false → (s || (t || u)) ≡ false
none_of false false false e f g = refl
none_of true t u e f g = absurd (true≢false e)
none_of false true u e f g = absurd (true≢false f)
none_of false false true e f g = absurd (true≢false g)

pub constants_at : (G : Graph) → FitsInsts G → (i : ℕ) → (nat_eq i 1 || (nat_eq i 2 || nat_eq i 3)) ≡ takes_constants (G i)
constants_at G f zero = sym (ap takes_constants f.is_free)
constants_at G f (suc zero) = sym (ap takes_constants f.is_ground)
constants_at G f (suc (suc zero)) = sym (ap takes_constants f.is_unique)
constants_at G f (suc (suc (suc zero))) = sym (ap takes_constants f.is_dead)
constants_at G f (suc (suc (suc (suc j)))) =
    none_of (nat_eq (suc (suc (suc (suc j)))) 1) (nat_eq (suc (suc (suc (suc j)))) 2) (nat_eq (suc (suc (suc (suc j)))) 3)
    (grind (arith, nat_tests)) (grind (arith, nat_tests)) (grind (arith, nat_tests))
    ∙ sym (ap takes_constants (f.are_bound j).1)
