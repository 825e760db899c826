-- What putting names in, one after another, makes.
use Rattle.std.proofs.Common.{◌≡◌, ℕ, ◌+◌, Bool, true, false, cond, List, [], ◌∷◌, ◌++◌, ◌||◌, length, Result, Ok, Err, OnErr, refl, ap, sym, ◌∙◌, arith, append_assoc, length-append}
use Rattle.std.specs.Cmp.{IsEquivalence}
use Rattle.std.specs.Cmp.Lexicographic.{nat_list_eq_equiv}
use Rattle.std.specs.Set.{is_member, distinct_count, unique_keys}
use Rattle.std.specs.Str.{bytes_eq}
use Rattle.std.proofs.lemmas.List.Folds.{list_any-append}
use Rattle.std.proofs.lemmas.List.{append-nil}
use Rattle.std.proofs.lemmas.Map.Steps.{list_any_congr}
use Rattle.mc_base.specs.NameSets.{put, put_all}
pub use Rattle.mc_base.proofs.Booleans.{or_false, or_assoc}

pub put_all-append : (names xs ys : List (List ℕ)) → put_all names (xs ++ ys) ≡ put_all (put_all names xs) ys
put_all-append names [] ys = refl
put_all-append names (x ∷ xs) ys = put_all-append (put names x) xs ys

-- what holds at all holds where there is an error
pub on_err_always : {T E P : Type 0} (r : Result T E) → P → OnErr r P
on_err_always (Ok x) p = tt
on_err_always (Err e) p = p

module _ {K : Type 0} {eq : K → K → Bool} (laws : IsEquivalence eq) where
  is_member-push : (xs : List K) (x q : K) → is_member eq (xs ++ x ∷ []) q ≡ (is_member eq xs q || eq q x)
  is_member-push xs x q = list_any-append (eq q) xs (x ∷ []) ∙ ap (λ b. is_member eq xs q || b) (or_false (eq q x))

  one_more : (y x : K) (ys more : List K) (m : Bool) → is_member eq ys y ≡ m → (e : Bool) → eq y x ≡ e → eq x y ≡ e → is_member eq more y ≡ (is_member eq ys y || eq y x)
      → length (unique_keys eq more) ≡ length (unique_keys eq ys) + cond (is_member eq ys x) 0 1
      → (eq y x ≡ true → is_member eq ys x ≡ is_member eq ys y)
      → length (unique_keys eq (y ∷ more)) ≡ length (unique_keys eq (y ∷ ys)) + cond (eq x y || is_member eq ys x) 0 1
  one_more y x ys more true h true p q r s same = rw (r, h, q) (s ∙ rw (same p, h) refl)
  one_more y x ys more true h false p q r s same = rw (r, h, q) s
  one_more y x ys more false h true p q r s same =
      let t : length (unique_keys eq more) ≡ length (unique_keys eq ys) + 1 = s ∙ rw (same p, h) refl in rw (r, h, p, q) (omega (arith, t))
  one_more y x ys more false h false p q r s same = rw (r, h, p, q) (omega (arith, s))

  -- one more name is one more, or is there
  distinct_count-push : (xs : List K) (x : K) → distinct_count eq (xs ++ x ∷ []) ≡ distinct_count eq xs + cond (is_member eq xs x) 0 1
  distinct_count-push [] x = refl
  distinct_count-push (y ∷ ys) x =
      one_more y x ys (ys ++ x ∷ []) (is_member eq ys y) refl (eq y x) refl (laws.symm x y) (is_member-push ys x y) (distinct_count-push ys x) (λ e. sym (list_any_congr laws y x ys e))

  -- a member is there after one more is put in, unless that is there, where it was there or is that one
  pub is_member-push_unless : (names : List K) (x q : K) (m : Bool) → is_member eq names x ≡ m → is_member eq (cond m names (names ++ x ∷ [])) q ≡ (is_member eq names q || eq q x)
  is_member-push_unless names x q false h = is_member-push names x q
  is_member-push_unless names x q true h = there (eq q x) refl
    where
      there : (e : Bool) → eq q x ≡ e → is_member eq names q ≡ (is_member eq names q || e)
      there false p = sym (or_false (is_member eq names q))
      there true p = let t : is_member eq names q ≡ true = list_any_congr laws q x names p ∙ h in rw t refl

-- a name is there after another is put in where it was there or is that one
pub is_member-put : (names : List (List ℕ)) (x q : List ℕ) → is_member bytes_eq (put names x) q ≡ (is_member bytes_eq names q || bytes_eq q x)
is_member-put names x q = is_member-push_unless nat_list_eq_equiv names x q (is_member bytes_eq names x) refl

-- a name is there after others are put in where it was there or is one of those
pub is_member-put_all : (names xs : List (List ℕ)) (q : List ℕ) → is_member bytes_eq (put_all names xs) q ≡ (is_member bytes_eq names q || is_member bytes_eq xs q)
is_member-put_all names [] q = sym (or_false (is_member bytes_eq names q))
is_member-put_all names (x ∷ xs) q = is_member-put_all (put names x) xs q ∙ ap (λ b. b || is_member bytes_eq xs q) (is_member-put names x q) ∙ or_assoc (is_member bytes_eq names q) (bytes_eq q x) (is_member bytes_eq xs q)

length-push_unless : (m : Bool) (names : List (List ℕ)) (x : List ℕ) → length (cond m names (names ++ x ∷ [])) ≡ length names + cond m 0 1
length-push_unless true names x = omega arith
length-push_unless false names x = length-append names (x ∷ [])

counts : (names ys xs : List (List ℕ)) → length names ≡ distinct_count bytes_eq ys → ((q : List ℕ) → is_member bytes_eq names q ≡ is_member bytes_eq ys q)
    → length (put_all names xs) ≡ distinct_count bytes_eq (ys ++ xs)
counts names ys [] e same = e ∙ sym (ap (distinct_count bytes_eq) (append-nil ys))
counts names ys (x ∷ xs) e same =
    counts (put names x) (ys ++ x ∷ []) xs
    (length-push_unless (is_member bytes_eq names x) names x ∙ rw (e, same x) (sym (distinct_count-push nat_list_eq_equiv ys x)))
    (λ q. is_member-put names x q ∙ rw (same q) (sym (is_member-push nat_list_eq_equiv ys x q)))
    ∙ ap (distinct_count bytes_eq) (append_assoc ys (x ∷ []) xs)

-- as many names are there as were put in, where those that are the same count once
pub length-put_all : (xs : List (List ℕ)) → length (put_all [] xs) ≡ distinct_count bytes_eq xs
length-put_all xs = counts [] [] xs refl (λ q. refl)
