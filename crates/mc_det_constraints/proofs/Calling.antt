-- Callers that are put.
use Rattle.std.proofs.Common.{◌≡◌, ◌≢◌, ◌⊎◌, inl, inr, ⊎_elim, ℕ, zero, suc, ◌+◌, ◌<◌, ◌≤◌, nat_eq, length, get_or, set, map, List, [], ◌∷◌, ◌++◌, Bool, true, false, ◌||◌, Some, None, refl, sym, subst, ◌∙◌, ap, arith}
use Rattle.std.specs.List.{Contains}
use Rattle.std.proofs.lemmas.List.{get_or-set_same, get_or-set_other, set-get_or, length-set, length-map, get_or-map}
use Rattle.std.proofs.lemmas.List.Elements.{Contains-append_left, Contains-append_right, Contains-append_cases}
use Rattle.std.proofs.lemmas.Bool.{cases_eq, eqb-true}
use Rattle.mc_det_constraints.specs.declared.constraint.Step.{Step}
use Rattle.mc_det_constraints.specs.Skeletons.{called, is_this, is_call_of, calls}
use Rattle.mc_det_constraints.specs.Least.{body_at}
use Rattle.mc_det_constraints.specs.code.Callers.{list_at, MoreCallers, HasPut, PutCall, PutStep, PutCalls, AreCallersOf}

pub same_callers : (p : ℕ) (lists : List (List ℕ)) → MoreCallers p lists lists
same_callers p lists = record { count = refl; kept = λ q r c. c; no_other = λ q r c. inl c }

pub more_in_turn : (p : ℕ) (a b c : List (List ℕ)) → MoreCallers p a b → MoreCallers p b c → MoreCallers p a c
more_in_turn p a b c h k =
    record {
      count = k.count ∙ h.count;
      kept = λ q r x. k.kept q r (h.kept q r x);
      no_other = λ q r x. ⊎_elim (λ y. h.no_other q r y) (λ e. inr e) (k.no_other q r x);
    }

only : (p q : ℕ) → Contains (p ∷ []) q → q ≡ p
only p q c = let z : c.0 ≡ 0 = omega (arith, c.1) in sym (subst (λ j. get_or (p ∷ []) j q ≡ q) z c.2)

-- one that isn't there has no callers to put
pub put_nowhere : (p q : ℕ) (lists : List (List ℕ)) → length lists ≤ q → PutCall p q lists lists
put_nowhere p q lists le = record { more = same_callers p lists; is_there = λ lt. absurd (omega arith) }

map_set : {A : Type 0} (f : A → List ℕ) (xs : List A) (q : ℕ) (x : A) → map f (set xs q x) ≡ set (map f xs) q (f x)
map_set f [] q x = refl
map_set f (y ∷ xs) zero x = refl
map_set f (y ∷ xs) (suc q) x = ap (λ l. f y ∷ l) (map_set f xs q x)

put_last : (p q : ℕ) (lists : List (List ℕ)) → q < length lists → PutCall p q lists (set lists q (list_at lists q ++ p ∷ []))
put_last p q lists lt =
    record {
      more =
          record {
            count = length-set lists q (list_at lists q ++ p ∷ []);
            kept = λ z r c. at_place (λ y l. Contains (list_at lists y) r → Contains l r) (λ x. Contains-append_left (list_at lists q) (p ∷ []) r x) z (λ e x. x) c;
            no_other = λ z r c.
                at_place (λ y l. Contains l r → Contains (list_at lists y) r ⊎ (r ≡ p))
                (λ x. ⊎_elim (λ i. inl i) (λ i. inr (only p r i)) (Contains-append_cases (list_at lists q) (p ∷ []) r x)) z (λ e x. inl x) c;
          };
      is_there = λ h. subst (λ l. Contains l p) (sym (get_or-set_same lists q (list_at lists q ++ p ∷ []) [] lt)) (Contains-append_right (list_at lists q) (p ∷ []) p (0, omega arith, refl));
    }
  where
    at_place : (P : ℕ → List ℕ → Type 0) → P q (list_at lists q ++ p ∷ []) → (z : ℕ) → (z ≢ q → P z (list_at lists z)) → P z (list_at (set lists q (list_at lists q ++ p ∷ [])) z)
    at_place P h z k =
        ⊎_elim
        (λ (e : z ≡ q). subst (λ y. P y (list_at (set lists q (list_at lists q ++ p ∷ [])) y)) (sym e) (subst (λ l. P q l) (sym (get_or-set_same lists q (list_at lists q ++ p ∷ []) [] lt)) h))
        (λ e. subst (λ l. P z l) (sym (get_or-set_other lists q z (list_at lists q ++ p ∷ []) [] e)) (k e))
        (cases_eq z q)

put_in : (p q : ℕ) (lists : List (List ℕ)) (l : List ℕ) → q < length lists → HasPut p (list_at lists q) l → PutCall p q lists (set lists q l)
put_in p q lists l lt (inl h) =
    subst (λ x. PutCall p q lists x)
    (sym (ap (set lists q) h.0 ∙ set-get_or lists q []))
    (record { more = same_callers p lists; is_there = λ i. h.1 })
put_in p q lists l lt (inr h) = subst (λ x. PutCall p q lists (set lists q x)) (sym h) (put_last p q lists lt)

-- of lists that are seen so, where y stood there
pub put_seen : {A : Type 0} (xs : List A) (f : A → List ℕ) (p q : ℕ) (y x : A) → q < length xs → y ≡ get_or xs q y → HasPut p (f y) (f x) → PutCall p q (map f xs) (map f (set xs q x))
put_seen xs f p q y x lt e h =
    let l : length (map f xs) ≡ length xs = length-map xs f in
    subst (λ z. PutCall p q (map f xs) z) (sym (map_set f xs q x))
    (put_in p q (map f xs) (f x) (omega arith)
    (subst (λ z. HasPut p z (f x)) (sym (get_or-map f xs q y [] lt ∙ ap f (sym e))) h))

pub put_viewed : (p q : ℕ) (a b x : List (List ℕ)) → a ≡ b → PutCall p q a x → PutCall p q b x
put_viewed p q a b x e h = subst (λ l. PutCall p q l x) e h

pub none_more : {A : Type 0} (f : A → List ℕ) (xs : List A) (x : A) → f x ≡ [] → ((q : ℕ) → get_or (map f xs) q [] ≡ []) → (q : ℕ) → get_or (map f (xs ++ x ∷ [])) q [] ≡ []
none_more f [] x e h zero = e
none_more f [] x e h (suc q) = refl
none_more f (y ∷ xs) x e h zero = h 0
none_more f (y ∷ xs) x e h (suc q) = none_more f xs x e (λ k. h (suc k)) q

-- steps that are gone through
either_of : (t u : Bool) (P : Type 0) → (t ≡ true → P) → (u ≡ true → P) → (t || u) ≡ true → P
either_of true u P f g h = f refl
either_of false u P f g h = g h

calls_more : (q : ℕ) (xs : List Step) (s : Step) (P : Type 0) → (calls q xs ≡ true → P) → (is_call_of q s ≡ true → P) → calls q (xs ++ s ∷ []) ≡ true → P
calls_more q [] s P f g h = either_of (is_call_of q s) false P g (λ (e : false ≡ true). cc) h
calls_more q (x ∷ xs) s P f g h =
    either_of (is_call_of q x) (calls q (xs ++ s ∷ [])) P
    (λ (e : is_call_of q x ≡ true). f (ap (λ b. b || calls q xs) e))
    (λ e. calls_more q xs s P (λ (i : calls q xs ≡ true). f (or_true (is_call_of q x) (calls q xs) i)) g e) h
  where
    or_true : (t u : Bool) → u ≡ true → (t || u) ≡ true
    or_true true u e = refl
    or_true false u e = e

pub no_steps : (p : ℕ) (lists : List (List ℕ)) → PutCalls p [] lists lists
no_steps p lists = record { more = same_callers p lists; are_there = λ q lt (e : false ≡ true). cc }

-- a step
pub no_call : (p : ℕ) (s : Step) (lists : List (List ℕ)) → None ≡ called s → PutStep p s lists lists
no_call p s lists e =
    record {
      more = same_callers p lists;
      is_there = λ q lt i. let f : is_call_of q s ≡ false = ap (is_this q) (sym e) in let g : true ≡ false = sym i ∙ f in cc;
    }

pub one_call : (p k : ℕ) (s : Step) (before after : List (List ℕ)) → Some k ≡ called s → PutCall p k before after → PutStep p s before after
one_call p k s before after e put =
    record {
      more = put.more;
      is_there = λ q lt i.
          let f : nat_eq k q ≡ true = ap (is_this q) e ∙ i in
          let same : k ≡ q = eqb-true k q f in
          subst (λ z. Contains (list_at after z) p) same (put.is_there (omega arith));
    }

pub step_more : (p : ℕ) (steps : List Step) (s : Step) (before now after : List (List ℕ)) → PutCalls p steps before now → PutStep p s now after → PutCalls p (steps ++ s ∷ []) before after
step_more p steps s before now after put one =
    record {
      more = more_in_turn p before now after put.more one.more;
      are_there = λ q lt e.
          calls_more q steps s (Contains (list_at after q) p)
          (λ i. one.more.kept q p (put.are_there q lt i))
          (λ i. one.is_there q (let c = put.more.count in omega arith) i) e;
    }

-- bodies that are gone through
pub no_bodies : (bodies : List (List Step)) (lists : List (List ℕ)) → length lists ≡ length bodies → ((q : ℕ) → list_at lists q ≡ []) → AreCallersOf bodies 0 lists
no_bodies bodies lists c none =
    record {
      count = c;
      all = λ p q lt h e. absurd (omega arith);
      there = λ q p i. let j = subst (λ l. Contains l p) (none q) i in absurd (omega (arith, j.1));
    }

pub one_body : (bodies : List (List Step)) (p : ℕ) (before after : List (List ℕ)) → AreCallersOf bodies p before → PutCalls p (body_at bodies p) before after → AreCallersOf bodies (p + 1) after
one_body bodies p before after are put =
    record {
      count = put.more.count ∙ are.count;
      all = λ r q lt h e.
          ⊎_elim
          (λ (i : r ≡ p). subst (λ z. Contains (list_at after q) z) (sym i) (put.are_there q (let c = are.count in omega arith) (subst (λ z. calls q (body_at bodies z) ≡ true) i e)))
          (λ (i : r ≡ p → ⊥). put.more.kept q r (are.all r q (let le : r < p = omega arith in le) h e))
          (cases_eq r p);
      there = λ q r i. ⊎_elim (λ c. let lt : r < p = are.there q r c in omega arith) (λ (e : r ≡ p). omega arith) (put.more.no_other q r i);
    }

-- the body at a number
pub at_body : (bodies : List (List Step)) (k : ℕ) (d : List Step) → k < length bodies → d ≡ get_or bodies k d → body_at bodies k ≡ d
at_body [] k d h e = absurd (omega arith)
at_body (x ∷ bodies) zero d h e = sym e
at_body (x ∷ bodies) (suc k) d h e = at_body bodies k d (omega arith) e
