-- A stable sort puts broken rules into the order of their places.
use Rattle.std.proofs.Math.Path.{fun_ext}
use Rattle.std.proofs.Common.{◌≡◌, ℕ, suc, ◌+◌, ◌<◌, Bool, true, false, not, cond, nat_eq, nat_lt, ◌&&◌, ◌||◌, List, [], ◌∷◌, length, get_or, drop, refl, sym, ap, ◌∙◌, subst, arith, true≢false, if◌then◌else◌}
use Rattle.std.proofs.lemmas.Cmp.{nat_cmp_total, on_total, then_total}
use Rattle.std.proofs.lemmas.List.Sorted.{ranks_by, sorted_far}
use Rattle.std.specs.Cmp.{IsStrictWeakOrder, IsTotalOrder}
use Rattle.std.specs.List.{filter}
use Rattle.std.specs.List.Sorted.{IsSortedBy, IsStableBy, ties}
use Rattle.std.specs.Ordering.{is_lt, nat_cmp, ordering_then}
use Rattle.std.specs.declared.cmp.Ordering.TheVariants.{Less, Equal, Greater}
use Rattle.mc_source.specs.declared.rule.Broken.{Broken}
use Rattle.mc_source.specs.Rules.{stands_before, put_in, by_place}

-- Lists in order that hold, of each class of elements that tie, the same ones in the same order, are
-- one list.
module _ {X : Type 0} (lt : X → X → Bool) where
  -- no element stands before that one
  abbrev NoneBefore : X → List X → Type 0
  NoneBefore x [] = Unit {0}
  NoneBefore x (y ∷ ys) = (lt y x ≡ false) × NoneBefore x ys

  abbrev Rising : List X → Type 0
  Rising [] = Unit {0}
  Rising (x ∷ xs) = NoneBefore x xs × Rising xs

module _ {X : Type 0} (lt : X → X → Bool) (o : IsStrictWeakOrder lt) where
  none_before : (x : X) (ys : List X) → ((j : ℕ) (d : X) → j < length ys → lt (get_or ys j d) x ≡ false) → NoneBefore lt x ys
  none_before x [] h = tt
  none_before x (y ∷ ys) h = (h 0 y (omega arith), none_before x ys (λ j d w. h (suc j) d (omega arith)))

  next_place : (x : X) (xs : List X) (k : ℕ) (d : X) → get_or (x ∷ xs) (suc k + 1) d ≡ get_or xs (k + 1) d
  next_place x xs k d = ap (λ m. get_or (x ∷ xs) m d) (let e : suc k + 1 ≡ suc (k + 1) = omega arith in e)

  rising : (xs : List X) → IsSortedBy lt xs → Rising lt xs
  rising [] h = tt
  rising (x ∷ xs) h =
      (none_before x xs (λ j d l. sorted_far lt o (x ∷ xs) h 0 (suc j) d (omega arith) (omega arith)), rising xs (λ k d l w. ap (λ z. lt z (get_or xs k d)) (sym (next_place x xs k d)) ∙ h (suc k) d (omega arith) (omega arith)))

  not_true : (b : Bool) → (b ≡ true → ⊥) → b ≡ false
  not_true true f = absurd (f refl)
  not_true false f = refl

  not_before : (b : Bool) → b ≡ true → not b ≡ true → ⊥
  not_before true e f = true≢false (sym f)
  not_before false e f = true≢false (sym e)

  irreflexive : (x : X) → lt x x ≡ false
  irreflexive x = not_true (lt x x) (λ e. true≢false (sym e ∙ o.one_way x x e))

  neither : (a b : Bool) → a ≡ false → b ≡ false → (not a && not b) ≡ true
  neither false false e f = refl
  neither true b e f = absurd (true≢false e)
  neither false true e f = absurd (true≢false f)

  left_false : (a b : Bool) → (not a && not b) ≡ true → a ≡ false
  left_false true b e = absurd (true≢false (sym e))
  left_false false b e = refl

  right_false : (a b : Bool) → (not a && not b) ≡ true → b ≡ false
  right_false a false e = refl
  right_false true true e = absurd (true≢false (sym e))
  right_false false true e = absurd (true≢false (sym e))

  taken : (x y : X) (ys : List X) → ties lt x y ≡ true → filter (ties lt x) (y ∷ ys) ≡ y ∷ filter (ties lt x) ys
  taken x y ys e = ap (λ (b : Bool). cond b (y ∷ filter (ties lt x) ys) (filter (ties lt x) ys)) e

  left_out : (x y : X) (ys : List X) → ties lt x y ≡ false → filter (ties lt x) (y ∷ ys) ≡ filter (ties lt x) ys
  left_out x y ys e = ap (λ (b : Bool). cond b (y ∷ filter (ties lt x) ys) (filter (ties lt x) ys)) e

  itself : (x : X) → ties lt x x ≡ true
  itself x = neither (lt x x) (lt x x) (irreflexive x) (irreflexive x)

  -- none ties with an element that stands before the first
  no_tie : (z y w : X) → lt z y ≡ true → lt w y ≡ false → ties lt z w ≡ false
  no_tie z y w b n = not_true (ties lt z w) (λ t. true≢false (sym b ∙ o.chain z w y (left_false (lt z w) (lt w z) t) n))

  none_tie : (z y : X) (ws : List X) → lt z y ≡ true → NoneBefore lt y ws → filter (ties lt z) ws ≡ []
  none_tie z y [] b n = refl
  none_tie z y (w ∷ ws) b n = left_out z w ws (no_tie z y w b n.0) ∙ none_tie z y ws b n.1

  not_empty : (x : X) (xs : List X) → x ∷ xs ≡ [] → ⊥
  not_empty x xs e = let h : suc (length xs) ≡ 0 = ap length e in omega arith

  first_not_before : (y z : X) (ys zs : List X) → NoneBefore lt y ys → filter (ties lt z) (y ∷ ys) ≡ filter (ties lt z) (z ∷ zs) → lt z y ≡ false
  first_not_before y z ys zs n h =
      not_true (lt z y) (λ b.
      not_empty z (filter (ties lt z) zs)
      (sym (taken z z zs (itself z)) ∙ sym h ∙ left_out z y ys (no_tie z y y b (irreflexive y)) ∙ none_tie z y ys b n))

  same_rest : (b : Bool) (y : X) (us vs : List X) → cond b (y ∷ us) us ≡ cond b (y ∷ vs) vs → us ≡ vs
  same_rest true y us vs e = ap (drop 1) e
  same_rest false y us vs e = e

  one_list : (ys zs : List X) → Rising lt ys → Rising lt zs → ((x : X) → filter (ties lt x) ys ≡ filter (ties lt x) zs) → ys ≡ zs
  one_list [] [] r s h = refl
  one_list [] (z ∷ zs) r s h = absurd (not_empty z (filter (ties lt z) zs) (sym (taken z z zs (itself z)) ∙ sym (h z)))
  one_list (y ∷ ys) [] r s h = absurd (not_empty y (filter (ties lt y) ys) (sym (taken y y ys (itself y)) ∙ h y))
  one_list (y ∷ ys) (z ∷ zs) r s h =
      let zy : lt z y ≡ false = first_not_before y z ys zs r.0 (h z) in
      let yz : lt y z ≡ false = first_not_before z y zs ys s.0 (sym (h y)) in
      let t : ties lt y z ≡ true = neither (lt y z) (lt z y) yz zy in
      let first : y ≡ z = ap (λ (l : List X). get_or l 0 y) (sym (taken y y ys (itself y)) ∙ h y ∙ taken y z zs t) in
      let rest : ys ≡ zs = one_list ys zs r.1 s.1 (λ x. same_rest (ties lt x y) y (filter (ties lt x) ys) (filter (ties lt x) zs) (h x ∙ ap (λ w. filter (ties lt x) (w ∷ zs)) (sym first))) in
      ap (λ w. w ∷ ys) first ∙ ap (λ (l : List X). z ∷ l) rest

  -- two that don't tie with one another don't tie with a third
  exchanged : (x b c : X) (us : List X) → lt c b ≡ true → cond (ties lt x c) (c ∷ cond (ties lt x b) (b ∷ us) us) (cond (ties lt x b) (b ∷ us) us) ≡ cond (ties lt x b) (b ∷ cond (ties lt x c) (c ∷ us) us) (cond (ties lt x c) (c ∷ us) us)
  exchanged x b c us l = choose (ties lt x c) (ties lt x b) refl refl
    where
      choose : (p q : Bool) → ties lt x c ≡ p → ties lt x b ≡ q → cond p (c ∷ cond q (b ∷ us) us) (cond q (b ∷ us) us) ≡ cond q (b ∷ cond p (c ∷ us) us) (cond p (c ∷ us) us)
      choose true true e f = absurd (true≢false (sym l ∙ o.chain c x b (right_false (lt x c) (lt c x) e) (left_false (lt x b) (lt b x) f)))
      choose true false e f = refl
      choose false true e f = refl
      choose false false e f = refl

-- the order of places
abbrev before : Broken → Broken → Bool
before b c = stands_before b.at c.at

abbrev pub place_of : Broken → ℕ × ℕ
place_of b = (b.at.file, b.at.line)

place_total : IsTotalOrder (λ (p q : ℕ × ℕ). ordering_then (nat_cmp p.0 q.0) (nat_cmp p.1 q.1))
place_total = then_total (on_total (λ (p : ℕ × ℕ). p.0) nat_cmp_total) (on_total (λ (p : ℕ × ℕ). p.1) nat_cmp_total)

compared : (a b c d : Bool) → is_lt (ordering_then (cond a Less (cond b Equal Greater)) (cond c Less (cond d Equal Greater))) ≡ (a || (b && c))
compared true b c d = refl
compared false true true d = refl
compared false true false true = refl
compared false true false false = refl
compared false false c d = refl

abbrev by_key : Broken → Broken → Bool
by_key b c = is_lt (ordering_then (nat_cmp b.at.file c.at.file) (nat_cmp b.at.line c.at.line))

same_order : by_key ≡ before
same_order = fun_ext (λ b. fun_ext (λ c. compared (nat_lt b.at.file c.at.file) (nat_eq b.at.file c.at.file) (nat_lt b.at.line c.at.line) (nat_eq b.at.line c.at.line)))

ranked : IsStrictWeakOrder before
ranked = subst (λ (f : Broken → Broken → Bool). IsStrictWeakOrder f) same_order (ranks_by place_total place_of)

-- one that is put in
none_before_put : (x b : Broken) (cs : List Broken) → before b x ≡ false → NoneBefore before x cs → NoneBefore before x (put_in b cs)
none_before_put x b [] e n = (e, tt)
none_before_put x b (c ∷ cs) e n = put (before c b) (none_before_put x b cs e n.1)
  where
    put : (s : Bool) → NoneBefore before x (put_in b cs) → NoneBefore before x (if s then c ∷ put_in b cs else b ∷ c ∷ cs)
    put true r = (n.0, r)
    put false r = (e, n)

none_before_all : (b c : Broken) (cs : List Broken) → before c b ≡ false → NoneBefore before c cs → NoneBefore before b cs
none_before_all b c [] e n = tt
none_before_all b c (d ∷ cs) e n = (ranked.chain d c b n.0 e, none_before_all b c cs e n.1)

rising_put : (b : Broken) (cs : List Broken) → Rising before cs → Rising before (put_in b cs)
rising_put b [] r = (tt, tt)
rising_put b (c ∷ cs) r = put (before c b) refl (rising_put b cs r.1)
  where
    put : (s : Bool) → before c b ≡ s → Rising before (put_in b cs) → Rising before (if s then c ∷ put_in b cs else b ∷ c ∷ cs)
    put true e h = (none_before_put c b cs (ranked.one_way c b e) r.0, h)
    put false e h = ((e, none_before_all b c cs e r.0), r)

rising_by_place : (vs : List Broken) → Rising before (by_place vs)
rising_by_place [] = tt
rising_by_place (b ∷ vs) = rising_put b (by_place vs) (rising_by_place vs)

abbrev with_tied : (x b : Broken) → List Broken → List Broken
with_tied x b us = cond (ties before x b) (b ∷ us) us

stable_put : (x b : Broken) (cs : List Broken) → filter (ties before x) (put_in b cs) ≡ filter (ties before x) (b ∷ cs)
stable_put x b [] = refl
stable_put x b (c ∷ cs) = put (before c b) refl (stable_put x b cs)
  where
    put : (s : Bool) → before c b ≡ s → filter (ties before x) (put_in b cs) ≡ filter (ties before x) (b ∷ cs) → filter (ties before x) (if s then c ∷ put_in b cs else b ∷ c ∷ cs) ≡ filter (ties before x) (b ∷ c ∷ cs)
    put true e h = ap (with_tied x c) h ∙ exchanged before ranked x b c (filter (ties before x) cs) e
    put false e h = refl

stable_by_place : (x : Broken) (vs : List Broken) → filter (ties before x) (by_place vs) ≡ filter (ties before x) vs
stable_by_place x [] = refl
stable_by_place x (b ∷ vs) =
    stable_put x b (by_place vs) ∙ ap (with_tied x b) (stable_by_place x vs)

-- what a sort leaves
pub sorted_by_place : (xs ys : List Broken) → IsSortedBy by_key ys → IsStableBy by_key xs ys → ys ≡ by_place xs
sorted_by_place xs ys up st =
    one_list before ranked ys (by_place xs) (rising before ranked ys (subst (λ (f : Broken → Broken → Bool). IsSortedBy f ys) same_order up)) (rising_by_place xs)
    (λ x. subst (λ (f : Broken → Broken → Bool). IsStableBy f xs ys) same_order st x ∙ sym (stable_by_place x xs))
