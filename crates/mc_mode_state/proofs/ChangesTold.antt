-- What a goal changes, by the insts that were replaced in order of variables.
use Rattle.std.proofs.Common.{◌≡◌, ℕ, zero, suc, ◌+◌, ◌-◌, ◌<◌, ◌≤◌, Bool, true, false, cond, not, ◌&&◌, List, [], ◌∷◌, ◌++◌, length, get_or, take, drop, nat_eq, min, Option, Some, None, if◌then◌else◌, refl, sym, ap, ◌∙◌, ⊎_elim, subst, arith}
use Rattle.std.specs.List.{filter, All}
use Rattle.std.specs.List.Sorted.{IsPermutation, IsNonDecreasingBy, IsStableByKey, ties}
use Rattle.std.specs.Ordering.{nat_cmp, is_lt}
use Rattle.std.specs.Cmp.{nat_cmp_is}
use Rattle.std.specs.declared.cmp.Ordering.TheVariants.{Equal}
use Rattle.std.proofs.lemmas.Bool.{eq-eqb, eqb-true, cases_lt}
use Rattle.std.proofs.lemmas.List.{append-nil, get_or_default, take_all, drop_all, length-drop}
use Rattle.std.proofs.lemmas.List.Sorted.{All-permutation}
use Rattle.mc_accepted.specs.Arranged.{Point, with_change, changes_from}
use Rattle.mc_accepted.specs.NodeOracle.{other_node}
use Rattle.mc_mode_state.specs.States.{point_of, undo, TrailWithin, TrailRestores}
use Rattle.mc_mode_state.specs.declared.state.State.{State}

-- the end of a list, cut out within it
pub rest-since : {A : Type 0} (trail k : ℕ) (xs : List A) → k ≡ min trail (length xs) → take (length xs - k) (drop k xs) ≡ drop trail xs
rest-since trail k xs h =
    take_all (length xs - k) (drop k xs) (omega (arith, length-drop k xs))
    ∙ ⊎_elim (λ (l : length xs < trail). drop_all k xs (omega arith) ∙ sym (drop_all trail xs (omega arith))) (λ (l : trail ≤ length xs). let e : k ≡ trail = omega arith in ap (λ n. drop n xs) e) (cases_lt (length xs) trail)

pub latest-since : {A : Type 0} (trail k : ℕ) (ys xs : List A) → ys ≡ xs → k ≡ min trail (length xs) → take (length ys - k) (drop k ys) ≡ drop trail xs
latest-since trail k ys xs e h = ap (λ zs. take (length zs - k) (drop k zs)) e ∙ rest-since trail k xs h

-- What isn't of a variable can be passed over.
undo-filter : (p : ℕ × ℕ → Bool) (x : ℕ) → ((e : ℕ × ℕ) → e.0 ≡ x → p e ≡ true) → (es : List (ℕ × ℕ)) (b : Point ℕ) → undo (filter p es) b x ≡ undo es b x
undo-filter p x h [] b = refl
undo-filter p x h (e ∷ es) b = chosen (undo-filter p x h es b) (p e) (nat_eq x e.0) refl refl
  where
    chosen : undo (filter p es) b x ≡ undo es b x → (t u : Bool) → p e ≡ t → nat_eq x e.0 ≡ u → undo (cond t (e ∷ filter p es) (filter p es)) b x ≡ (if nat_eq x e.0 then e.1 else undo es b x)
    chosen rest true u g k = ap (λ v. if nat_eq x e.0 then e.1 else v) rest
    chosen rest false true g k = cc (h e (sym (eqb-true x e.0 k)), g)
    chosen rest false false g k = rest ∙ ap (λ t. if t then e.1 else undo es b x) (sym k)

ties-self : (x : ℕ) (e : ℕ × ℕ) → e.0 ≡ x → ties (λ (a c : ℕ × ℕ). is_lt (nat_cmp a.0 c.0)) (x, 0) e ≡ true
ties-self x e h = subst (λ y. (not (is_lt (nat_cmp x y)) && not (is_lt (nat_cmp y x))) ≡ true) (sym h) (ap (λ o. not (is_lt o) && not (is_lt o)) (sym (nat_cmp_is x x Equal refl)))

-- a stable sort by variables keeps the first that was replaced of each
pub undo-sorted : (es fs : List (ℕ × ℕ)) → IsStableByKey (λ (e : ℕ × ℕ). e.0) nat_cmp es fs → (b : Point ℕ) (x : ℕ) → undo fs b x ≡ undo es b x
undo-sorted es fs h b x =
    let p = ties (λ (a c : ℕ × ℕ). is_lt (nat_cmp a.0 c.0)) (x, 0) in
    sym (undo-filter p x (ties-self x) fs b)
    ∙ (ap (λ ds. undo ds b x) (h (x, 0)) ∙ undo-filter p x (ties-self x) es b)

pub within-at : (n : ℕ) (es : List (ℕ × ℕ)) → TrailWithin n es → (k : ℕ) (d : ℕ × ℕ) → k < length es → (get_or es k d).0 < n
within-at n [] w k d h = absurd (omega arith)
within-at n (e ∷ es) w zero d h = w.0
within-at n (e ∷ es) w (suc k) d h = within-at n es w.1 k d (omega arith)

pub within-rest : (n k : ℕ) (es : List (ℕ × ℕ)) → TrailWithin n es → TrailWithin n (drop k es)
within-rest n zero es w = w
within-rest n (suc k) [] w = w
within-rest n (suc k) (e ∷ es) w = within-rest n k es w.1

pub within-moved : (n : ℕ) (es fs : List (ℕ × ℕ)) → IsPermutation es fs → TrailWithin n es → All (λ (e : ℕ × ℕ). e.0 < n) fs
within-moved n es fs m w = All-permutation (λ (e : ℕ × ℕ). e.0 < n) es fs m (within-at n es w)

-- no inst of the variable was replaced
undo-none : (es : List (ℕ × ℕ)) (c : Point ℕ) (x : ℕ) → ((k : ℕ) (d : ℕ × ℕ) → k < length es → (get_or es k d).0 ≡ x → ⊥) → undo es c x ≡ c x
undo-none [] c x h = refl
undo-none (e ∷ es) c x h = at (undo-none es c x (λ k d l. h (suc k) d (omega arith))) (nat_eq x e.0) refl
  where
    at : undo es c x ≡ c x → (t : Bool) → nat_eq x e.0 ≡ t → (if t then e.1 else undo es c x) ≡ c x
    at rest true k = absurd (h 0 e (omega arith) (sym (eqb-true x e.0 k)))
    at rest false k = rest

-- the first one of a variable
undo-first : (es : List (ℕ × ℕ)) (c : Point ℕ) (x k : ℕ) (d : ℕ × ℕ) → k < length es → (get_or es k d).0 ≡ x → ((j : ℕ) (d : ℕ × ℕ) → j < k → (get_or es j d).0 ≡ x → ⊥) → undo es c x ≡ (get_or es k d).1
undo-first [] c x k d h e f = absurd (omega arith)
undo-first (e ∷ es) c x zero d h g f = ap (λ t. if t then e.1 else undo es c x) (eq-eqb x e.0 (sym g))
undo-first (e ∷ es) c x (suc k) d h g f = at (undo-first es c x k d (omega arith) g (λ j d m. f (suc j) d (omega arith))) (nat_eq x e.0) refl
  where
    at : undo es c x ≡ (get_or es k d).1 → (t : Bool) → nat_eq x e.0 ≡ t → (if t then e.1 else undo es c x) ≡ (get_or es k d).1
    at rest true l = absurd (f 0 e (omega arith) (sym (eqb-true x e.0 l)))
    at rest false l = rest

changes-none : (n x : ℕ) (b c : Point ℕ) → ((y : ℕ) → x ≤ y → y < x + n → b y ≡ c y) → changes_from other_node x n b c ≡ []
changes-none zero x b c h = refl
changes-none (suc n) x b c h =
    ap (λ t. with_change x (if t then None else Some (c x)) (changes_from other_node (suc x) n b c)) (eq-eqb (b x) (c x) (h x (omega arith) (omega arith)))
    ∙ changes-none n (suc x) b c (λ y l m. h y (omega arith) (omega arith))

with-change-first : (x : ℕ) (o : Option ℕ) (es fs : List (ℕ × ℕ)) → with_change x o (es ++ fs) ≡ with_change x o es ++ fs
with-change-first x None es fs = refl
with-change-first x (Some i) es fs = refl

-- what comes after the first so many variables
changes-split : (n m k x y : ℕ) (b c : Point ℕ) → k ≡ n + m → y ≡ x + n → changes_from other_node x k b c ≡ changes_from other_node x n b c ++ changes_from other_node y m b c
changes-split zero m k x y b c h g =
    let e : x ≡ y = omega arith in
    let f : k ≡ m = omega arith in
    ap (λ z. changes_from other_node z k b c) e ∙ ap (λ j. changes_from other_node y j b c) f
changes-split (suc n) m zero x y b c h g = absurd (omega arith)
changes-split (suc n) m (suc k) x y b c h g =
    ap (with_change x (other_node (b x) (c x))) (changes-split n m k (suc x) y b c (omega arith) (omega arith))
    ∙ with-change-first x (other_node (b x) (c x)) (changes_from other_node (suc x) n b c) (changes_from other_node y m b c)

-- variables up to a number are unchanged
pub changes-skip : (n m : ℕ) (b c : Point ℕ) → n ≤ m → ((y : ℕ) → n ≤ y → y < m → b y ≡ c y) → changes_from other_node 0 m b c ≡ changes_from other_node 0 n b c
changes-skip n m b c h k =
    changes-split n (m - n) m 0 n b c (omega arith) (omega arith)
    ∙ (ap (λ es. changes_from other_node 0 n b c ++ es) (changes-none (m - n) n b c (λ y l p. k y l (omega arith)))
    ∙ append-nil (changes_from other_node 0 n b c))

-- and then one variable
pub changes-next : (n x : ℕ) (b c : Point ℕ) → n ≤ x → ((y : ℕ) → n ≤ y → y < x → b y ≡ c y)
    → changes_from other_node 0 (x + 1) b c ≡ changes_from other_node 0 n b c ++ with_change x (other_node (b x) (c x)) []
changes-next n x b c h k =
    changes-split x 1 (x + 1) 0 x b c refl (omega arith)
    ∙ ap (λ es. es ++ with_change x (other_node (b x) (c x)) []) (changes-skip n x b c h k)

-- what was replaced, the variables below a number done
pub record DoneBelow (next k : ℕ) (es : List (ℕ × ℕ)) : Type 0 where
  pub done : (j : ℕ) (d : ℕ × ℕ) → j < k → (get_or es j d).0 < next

module _ (es : List (ℕ × ℕ)) (up : IsNonDecreasingBy (λ (e : ℕ × ℕ). e.0) es) (c : Point ℕ) where
  -- the variables between those that are done and the next one
  pub between : (next k : ℕ) (d : ℕ × ℕ) → k < length es → DoneBelow next k es → (y : ℕ) → next ≤ y → y < (get_or es k d).0 → undo es c y ≡ c y
  between next k d h r y l m = undo-none es c y apart
    where
      apart : (j : ℕ) (a : ℕ × ℕ) → j < length es → (get_or es j a).0 ≡ y → ⊥
      apart j a p e = ⊎_elim (λ (q : j < k). omega (arith, r.done j a q, e)) (λ (q : k ≤ j). omega (arith, up k j a q p, e, same a)) (cases_lt j k)
        where
          same : (a : ℕ × ℕ) → (get_or es k a).0 ≡ (get_or es k d).0
          same a = ap (λ (e : ℕ × ℕ). e.0) (get_or_default es k a d h)

  pub first-one : (next k : ℕ) (d : ℕ × ℕ) → k < length es → DoneBelow next k es → next ≤ (get_or es k d).0 → undo es c (get_or es k d).0 ≡ (get_or es k d).1
  first-one next k d h r l = undo-first es c (get_or es k d).0 k d h refl (λ j a q e. omega (arith, r.done j a q, e))

  pub behind-all : (next k : ℕ) → length es ≤ k → DoneBelow next k es → (y : ℕ) → next ≤ y → undo es c y ≡ c y
  behind-all next k h r y l = undo-none es c y (λ j a p e. omega (arith, r.done j a (omega arith), e))

  pub done-next : (next k : ℕ) (d : ℕ × ℕ) → k < length es → DoneBelow next k es → next ≤ (get_or es k d).0 → DoneBelow ((get_or es k d).0 + 1) (k + 1) es
  done-next next k d h r l = record { done = λ j a p. ⊎_elim (λ (q : j < k). omega (arith, r.done j a q)) (λ (q : k ≤ j). at j a (omega arith)) (cases_lt j k) }
    where
      at : (j : ℕ) (a : ℕ × ℕ) → j ≡ k → (get_or es j a).0 < (get_or es k d).0 + 1
      at j a e = omega (arith, ap (λ i. (get_or es i a).0) e, ap (λ (e : ℕ × ℕ). e.0) (get_or_default es k a d h))

  pub told-next : (next k : ℕ) (d : ℕ × ℕ) (before after : List (ℕ × ℕ)) → k < length es → DoneBelow next k es → next ≤ (get_or es k d).0
      → before ≡ changes_from other_node 0 next (undo es c) c
      → after ≡ before ++ with_change (get_or es k d).0 (other_node (get_or es k d).1 (c (get_or es k d).0)) []
      → after ≡ changes_from other_node 0 ((get_or es k d).0 + 1) (undo es c) c
  told-next next k d before after h r l e f =
      let x = (get_or es k d).0 in
      f
      ∙ (ap (λ ds. ds ++ with_change x (other_node (get_or es k d).1 (c x)) []) e
      ∙ (ap (λ i. changes_from other_node 0 next (undo es c) c ++ with_change x (other_node i (c x)) []) (sym (first-one next k d h r l))
      ∙ sym (changes-next next x (undo es c) c l (λ y p q. between next k d h r y p q))))

  pub told-all : (next k n : ℕ) → length es ≤ k → DoneBelow next k es → next ≤ n → changes_from other_node 0 n (undo es c) c ≡ changes_from other_node 0 next (undo es c) c
  told-all next k n h r l = changes-skip next n (undo es c) c l (λ y p q. behind-all next k h r y p)

-- one inst was replaced
pub changed-alone : (n x was : ℕ) (c : Point ℕ) → x < n → changes_from other_node 0 n (undo ((x, was) ∷ []) c) c ≡ with_change x (other_node was (c x)) []
changed-alone n x was c h =
    let es : List (ℕ × ℕ) = (x, was) ∷ [] in
    let none : DoneBelow 0 0 es = record { done = λ j d l. absurd (omega arith) } in
    told-all es one-up c (x + 1) 1 n (omega arith) (done-next es one-up c 0 0 (0, 0) (omega arith) none (omega arith)) (omega arith)
    ∙ sym (told-next es one-up c 0 0 (0, 0) [] (with_change x (other_node was (c x)) []) (omega arith) none (omega arith) refl refl)
  where
    one-up : IsNonDecreasingBy (λ (e : ℕ × ℕ). e.0) ((x, was) ∷ [])
    one-up i j a l m = let e : i ≡ j = omega arith in omega (arith, ap (λ k. (get_or ((x, was) ∷ []) k a).0) e)

pub other-same : (was i : ℕ) → was ≡ i → other_node was i ≡ None
other-same was i e = ap (λ b. if b then None else Some i) (eq-eqb was i e)

pub other-else : (was i : ℕ) → (was ≡ i → ⊥) → other_node was i ≡ Some i
other-else was i e = at (nat_eq was i) refl
  where
    at : (b : Bool) → nat_eq was i ≡ b → other_node was i ≡ Some i
    at true h = absurd (e (eqb-true was i h))
    at false h = ap (λ b. if b then None else Some i) h

pub only-one : (es : List (ℕ × ℕ)) → length es ≡ 1 → es ≡ get_or es 0 (0, 0) ∷ []
only-one [] h = absurd (omega arith)
only-one (e ∷ []) h = refl
only-one (e ∷ f ∷ es) h = absurd (omega arith)

-- what was replaced since a moment leads back to its insts
pub led-back : (s t : State) (trail : ℕ) (es : List (ℕ × ℕ)) → TrailRestores s t → length s.trail.items ≡ trail
    → ((x : ℕ) → undo es (point_of t.insts.items) x ≡ undo (drop trail t.trail.items) (point_of t.insts.items) x) → undo es (point_of t.insts.items) ≡ point_of s.insts.items
led-back s t trail es p e h =
    (λ i x. h x i) ∙ (ap (λ n. undo (drop n t.trail.items) (point_of t.insts.items)) (sym e) ∙ p.back)
