-- Lists of events: what holds of each answer, counts, coverage.
use Rattle.std.proofs.Common.{◌≡◌, ◌⊎◌, inl, inr, ℕ, zero, suc, ◌+◌, ◌≤◌, refl, ◌∙◌, arith, ⊎_elim}
use Rattle.mc_source.specs.declared.det.Most.{Most}
use Rattle.mc_source.specs.declared.det.Most.TheVariants.{Zero, One, Many}
use Rattle.mc_model.specs.EventList.{Items, End, Stuck, Stopped, Answer, Called, Wrote, Read, append, bind, choose, first, negate, cut, Each, Succeeds, answers, AtMost, Covers}
use Rattle.mc_source.specs.Determinism.{at_most_one}
use Rattle.laws_sound.proofs.Counts.{times, plus, either}

module _ {A : Type 0} (P Q : A → Type 0) where
  pub each_map : ((a : A) → P a → Q a) → (xs : Items A) → Each P xs → Each Q xs
  each_map f End h = tt
  each_map f Stuck h = h
  each_map f (Stopped w) h = tt
  each_map f (Answer a xs) h = (f a h.0, each_map f xs h.1)
  each_map f (Called p xs) h = each_map f xs h
  each_map f (Wrote w1 xs) h = each_map f xs h
  each_map f (Read r1 xs) h = each_map f xs h

  pub each_both : (xs : Items A) → Each P xs → Each Q xs → Each (λ a. P a × Q a) xs
  each_both End h k = tt
  each_both Stuck h k = h
  each_both (Stopped w) h k = tt
  each_both (Answer a xs) h k = ((h.0, k.0), each_both xs h.1 k.1)
  each_both (Called p xs) h k = each_both xs h k
  each_both (Wrote w1 xs) h k = each_both xs h k
  each_both (Read r1 xs) h k = each_both xs h k

  pub each_append : (xs ys : Items A) → Each P xs → Each P ys → Each P (append xs ys)
  each_append End ys h k = k
  each_append Stuck ys h k = h
  each_append (Stopped w) ys h k = tt
  each_append (Answer a xs) ys h k = (h.0, each_append xs ys h.1 k)
  each_append (Called p xs) ys h k = each_append xs ys h k
  each_append (Wrote w1 xs) ys h k = each_append xs ys h k
  each_append (Read r1 xs) ys h k = each_append xs ys h k

  pub each_first : (xs : Items A) → Each P xs → Each P (first xs)
  each_first End h = tt
  each_first Stuck h = h
  each_first (Stopped w) h = tt
  each_first (Answer a xs) h = (h.0, tt)
  each_first (Called p xs) h = each_first xs h
  each_first (Wrote w1 xs) h = each_first xs h
  each_first (Read r1 xs) h = each_first xs h

  pub each_cut : (n : ℕ) (xs : Items A) → Each P xs → Each P (cut n xs)
  each_cut n End h = tt
  each_cut n Stuck h = h
  each_cut n (Stopped w) h = tt
  each_cut n (Answer a xs) h = (h.0, each_cut n xs h.1)
  each_cut zero (Called p xs) h = tt
  each_cut (suc n) (Called p xs) h = each_cut n xs h
  each_cut n (Wrote w1 xs) h = each_cut n xs h
  each_cut n (Read r1 xs) h = each_cut n xs h

module _ {A B : Type 0} (P : A → Type 0) (Q : B → Type 0) (f : A → Items B) where
  pub each_bind : (xs : Items A) → Each P xs → ((a : A) → P a → Each Q (f a)) → Each Q (bind xs f)
  each_bind End h k = tt
  each_bind Stuck h k = h
  each_bind (Stopped w) h k = tt
  each_bind (Answer a xs) h k = each_append Q Q (f a) (bind xs f) (k a h.0) (each_bind xs h.1 k)
  each_bind (Called p xs) h k = each_bind xs h k
  each_bind (Wrote w1 xs) h k = each_bind xs h k
  each_bind (Read r1 xs) h k = each_bind xs h k

  pub each_choose : (xs : Items A) (ys : Items B) → Each P xs → ((a : A) → P a → Each Q (f a)) → Each Q ys → Each Q (choose xs f ys)
  each_choose End ys h k l = l
  each_choose Stuck ys h k l = h
  each_choose (Stopped w) ys h k l = tt
  each_choose (Answer a xs) ys h k l = each_append Q Q (f a) (bind xs f) (k a h.0) (each_bind xs h.1 k)
  each_choose (Called p xs) ys h k l = each_choose xs ys h k l
  each_choose (Wrote w1 xs) ys h k l = each_choose xs ys h k l
  each_choose (Read r1 xs) ys h k l = each_choose xs ys h k l

  pub each_negate : (b : B) (xs : Items A) → Each P xs → Q b → Each Q (negate b xs)
  each_negate b End h k = (k, tt)
  each_negate b Stuck h k = h
  each_negate b (Stopped w) h k = tt
  each_negate b (Answer a xs) h k = tt
  each_negate b (Called p xs) h k = each_negate b xs h k
  each_negate b (Wrote w1 xs) h k = each_negate b xs h k
  each_negate b (Read r1 xs) h k = each_negate b xs h k

-- success
module _ {A : Type 0} where
  pub succeeds_append_left : (xs ys : Items A) → Succeeds xs → Succeeds (append xs ys)
  succeeds_append_left End ys h = absurd h
  succeeds_append_left Stuck ys h = tt
  succeeds_append_left (Stopped w) ys h = tt
  succeeds_append_left (Answer a xs) ys h = tt
  succeeds_append_left (Called p xs) ys h = succeeds_append_left xs ys h
  succeeds_append_left (Wrote w1 xs) ys h = succeeds_append_left xs ys h
  succeeds_append_left (Read r1 xs) ys h = succeeds_append_left xs ys h

  pub succeeds_append_right : (xs ys : Items A) → Succeeds ys → Succeeds (append xs ys)
  succeeds_append_right End ys h = h
  succeeds_append_right Stuck ys h = tt
  succeeds_append_right (Stopped w) ys h = tt
  succeeds_append_right (Answer a xs) ys h = tt
  succeeds_append_right (Called p xs) ys h = succeeds_append_right xs ys h
  succeeds_append_right (Wrote w1 xs) ys h = succeeds_append_right xs ys h
  succeeds_append_right (Read r1 xs) ys h = succeeds_append_right xs ys h

  pub succeeds_first : (xs : Items A) → Succeeds xs → Succeeds (first xs)
  succeeds_first End h = h
  succeeds_first Stuck h = h
  succeeds_first (Stopped w) h = h
  succeeds_first (Answer a xs) h = h
  succeeds_first (Called p xs) h = succeeds_first xs h
  succeeds_first (Wrote w1 xs) h = succeeds_first xs h
  succeeds_first (Read r1 xs) h = succeeds_first xs h

  pub succeeds_cut : (n : ℕ) (xs : Items A) → Succeeds xs → Succeeds (cut n xs)
  succeeds_cut n End h = h
  succeeds_cut n Stuck h = h
  succeeds_cut n (Stopped w) h = h
  succeeds_cut n (Answer a xs) h = h
  succeeds_cut zero (Called p xs) h = tt
  succeeds_cut (suc n) (Called p xs) h = succeeds_cut n xs h
  succeeds_cut n (Wrote w1 xs) h = succeeds_cut n xs h
  succeeds_cut n (Read r1 xs) h = succeeds_cut n xs h

  pub answers-append : (xs ys : Items A) → answers (append xs ys) ≤ answers xs + answers ys
  answers-append End ys = omega arith
  answers-append Stuck ys = omega arith
  answers-append (Stopped w) ys = omega arith
  answers-append (Answer a xs) ys = omega (arith, answers-append xs ys)
  answers-append (Called p xs) ys = answers-append xs ys
  answers-append (Wrote w1 xs) ys = answers-append xs ys
  answers-append (Read r1 xs) ys = answers-append xs ys

  pub answers-first : (xs : Items A) → answers (first xs) ≤ 1
  answers-first End = omega arith
  answers-first Stuck = omega arith
  answers-first (Stopped w) = omega arith
  answers-first (Answer a xs) = omega arith
  answers-first (Called p xs) = answers-first xs
  answers-first (Wrote w1 xs) = answers-first xs
  answers-first (Read r1 xs) = answers-first xs

  pub answers-first-le : (xs : Items A) → answers (first xs) ≤ answers xs
  answers-first-le End = omega arith
  answers-first-le Stuck = omega arith
  answers-first-le (Stopped w) = omega arith
  answers-first-le (Answer a xs) = omega arith
  answers-first-le (Called p xs) = answers-first-le xs
  answers-first-le (Wrote w1 xs) = answers-first-le xs
  answers-first-le (Read r1 xs) = answers-first-le xs

  pub answers-cut : (n : ℕ) (xs : Items A) → answers (cut n xs) ≤ answers xs
  answers-cut n End = omega arith
  answers-cut n Stuck = omega arith
  answers-cut n (Stopped w) = omega arith
  answers-cut n (Answer a xs) = omega (arith, answers-cut n xs)
  answers-cut zero (Called p xs) = omega arith
  answers-cut (suc n) (Called p xs) = answers-cut n xs
  answers-cut n (Wrote w1 xs) = answers-cut n xs
  answers-cut n (Read r1 xs) = answers-cut n xs

  -- no answer of a list without answers is successful: it stops
  pub each_none : (P : A → Type 0) (xs : Items A) → answers xs ≡ 0 → Each P xs → Each (λ a. ⊥) xs
  each_none P End e h = tt
  each_none P Stuck e h = h
  each_none P (Stopped w) e h = tt
  each_none P (Answer a xs) e h = absurd (omega arith)
  each_none P (Called p xs) e h = each_none P xs e h
  each_none P (Wrote w1 xs) e h = each_none P xs e h
  each_none P (Read r1 xs) e h = each_none P xs e h

  pub none_answers : (xs : Items A) → Each (λ a. ⊥) xs → answers xs ≡ 0
  none_answers End h = refl
  none_answers Stuck h = refl
  none_answers (Stopped w) h = refl
  none_answers (Answer a xs) h = absurd h.0
  none_answers (Called p xs) h = none_answers xs h
  none_answers (Wrote w1 xs) h = none_answers xs h
  none_answers (Read r1 xs) h = none_answers xs h

module _ {A B : Type 0} (P : A → Type 0) (f : A → Items B) where
  pub succeeds_bind : (xs : Items A) → Each P xs → Succeeds xs → ((a : A) → P a → Succeeds (f a)) → Succeeds (bind xs f)
  succeeds_bind End e h k = h
  succeeds_bind Stuck e h k = h
  succeeds_bind (Stopped w) e h k = h
  succeeds_bind (Answer a xs) e h k = succeeds_append_left (f a) (bind xs f) (k a e.0)
  succeeds_bind (Called p xs) e h k = succeeds_bind xs e h k
  succeeds_bind (Wrote w1 xs) e h k = succeeds_bind xs e h k
  succeeds_bind (Read r1 xs) e h k = succeeds_bind xs e h k

  pub succeeds_choose : (xs : Items A) (ys : Items B) → Each P xs → ((a : A) → P a → Succeeds (f a)) → Succeeds ys → Succeeds (choose xs f ys)
  succeeds_choose End ys e k l = l
  succeeds_choose Stuck ys e k l = tt
  succeeds_choose (Stopped w) ys e k l = tt
  succeeds_choose (Answer a xs) ys e k l = succeeds_append_left (f a) (bind xs f) (k a e.0)
  succeeds_choose (Called p xs) ys e k l = succeeds_choose xs ys e k l
  succeeds_choose (Wrote w1 xs) ys e k l = succeeds_choose xs ys e k l
  succeeds_choose (Read r1 xs) ys e k l = succeeds_choose xs ys e k l

  -- where the condition cannot fail, the else part counts for nothing
  pub succeeds_choose_sure : (xs : Items A) (ys : Items B) → Each P xs → Succeeds xs → ((a : A) → P a → Succeeds (f a)) → Succeeds (choose xs f ys)
  succeeds_choose_sure End ys e h k = absurd h
  succeeds_choose_sure Stuck ys e h k = tt
  succeeds_choose_sure (Stopped w) ys e h k = tt
  succeeds_choose_sure (Answer a xs) ys e h k = succeeds_append_left (f a) (bind xs f) (k a e.0)
  succeeds_choose_sure (Called p xs) ys e h k = succeeds_choose_sure xs ys e h k
  succeeds_choose_sure (Wrote w1 xs) ys e h k = succeeds_choose_sure xs ys e h k
  succeeds_choose_sure (Read r1 xs) ys e h k = succeeds_choose_sure xs ys e h k

  pub succeeds_negate : (b : B) (xs : Items A) → answers xs ≡ 0 → Succeeds (negate b xs)
  succeeds_negate b End e = tt
  succeeds_negate b Stuck e = tt
  succeeds_negate b (Stopped w) e = tt
  succeeds_negate b (Answer a xs) e = absurd (omega arith)
  succeeds_negate b (Called p xs) e = succeeds_negate b xs e
  succeeds_negate b (Wrote w1 xs) e = succeeds_negate b xs e
  succeeds_negate b (Read r1 xs) e = succeeds_negate b xs e

  answers-negate : (b : B) (xs : Items A) → answers (negate b xs) ≤ 1
  answers-negate b End = omega arith
  answers-negate b Stuck = omega arith
  answers-negate b (Stopped w) = omega arith
  answers-negate b (Answer a xs) = omega arith
  answers-negate b (Called p xs) = answers-negate b xs
  answers-negate b (Wrote w1 xs) = answers-negate b xs
  answers-negate b (Read r1 xs) = answers-negate b xs

  answers-negate_sure : (b : B) (xs : Items A) → Succeeds xs → answers (negate b xs) ≡ 0
  answers-negate_sure b End h = absurd h
  answers-negate_sure b Stuck h = refl
  answers-negate_sure b (Stopped w) h = refl
  answers-negate_sure b (Answer a xs) h = refl
  answers-negate_sure b (Called p xs) h = answers-negate_sure b xs h
  answers-negate_sure b (Wrote w1 xs) h = answers-negate_sure b xs h
  answers-negate_sure b (Read r1 xs) h = answers-negate_sure b xs h

  bind_none : (xs : Items A) → answers xs ≡ 0 → answers (bind xs f) ≡ 0
  bind_none End e = refl
  bind_none Stuck e = refl
  bind_none (Stopped w) e = refl
  bind_none (Answer a xs) e = absurd (omega arith)
  bind_none (Called p xs) e = bind_none xs e
  bind_none (Wrote w1 xs) e = bind_none xs e
  bind_none (Read r1 xs) e = bind_none xs e

  bind_zero : (xs : Items A) → Each P xs → ((a : A) → P a → answers (f a) ≡ 0) → answers (bind xs f) ≡ 0
  bind_zero End e h = refl
  bind_zero Stuck e h = refl
  bind_zero (Stopped w) e h = refl
  bind_zero (Answer a xs) e h = omega (arith, h a e.0, bind_zero xs e.1 h, answers-append (f a) (bind xs f))
  bind_zero (Called p xs) e h = bind_zero xs e h
  bind_zero (Wrote w1 xs) e h = bind_zero xs e h
  bind_zero (Read r1 xs) e h = bind_zero xs e h

  bind_one : (xs : Items A) → Each P xs → ((a : A) → P a → answers (f a) ≤ 1) → answers (bind xs f) ≤ answers xs
  bind_one End e h = omega arith
  bind_one Stuck e h = omega arith
  bind_one (Stopped w) e h = omega arith
  bind_one (Answer a xs) e h = omega (arith, h a e.0, bind_one xs e.1 h, answers-append (f a) (bind xs f))
  bind_one (Called p xs) e h = bind_one xs e h
  bind_one (Wrote w1 xs) e h = bind_one xs e h
  bind_one (Read r1 xs) e h = bind_one xs e h

  pub at_most_bind : (m k : Most) (xs : Items A) → Each P xs → AtMost m xs → ((a : A) → P a → AtMost k (f a)) → AtMost (times m k) (bind xs f)
  at_most_bind Zero k xs e c h = bind_none xs c
  at_most_bind One Zero xs e c h = bind_zero xs e h
  at_most_bind One One xs e c h = omega (arith, bind_one xs e h)
  at_most_bind One Many xs e c h = tt
  at_most_bind Many Zero xs e c h = bind_zero xs e h
  at_most_bind Many One xs e c h = tt
  at_most_bind Many Many xs e c h = tt

  answers-choose : (xs : Items A) (ys : Items B) → (answers (choose xs f ys) ≡ answers (bind xs f)) ⊎ (answers (choose xs f ys) ≡ answers ys)
  answers-choose End ys = inr refl
  answers-choose Stuck ys = inl refl
  answers-choose (Stopped w) ys = inl refl
  answers-choose (Answer a xs) ys = inl refl
  answers-choose (Called p xs) ys = answers-choose xs ys
  answers-choose (Wrote w1 xs) ys = answers-choose xs ys
  answers-choose (Read r1 xs) ys = answers-choose xs ys

  answers-choose_sure : (xs : Items A) (ys : Items B) → Succeeds xs → answers (choose xs f ys) ≡ answers (bind xs f)
  answers-choose_sure End ys h = absurd h
  answers-choose_sure Stuck ys h = refl
  answers-choose_sure (Stopped w) ys h = refl
  answers-choose_sure (Answer a xs) ys h = refl
  answers-choose_sure (Called p xs) ys h = answers-choose_sure xs ys h
  answers-choose_sure (Wrote w1 xs) ys h = answers-choose_sure xs ys h
  answers-choose_sure (Read r1 xs) ys h = answers-choose_sure xs ys h

module _ {A B : Type 0} where
  -- a count depends on the number of answers alone
  at_most_equal : (m : Most) (xs : Items A) (ys : Items B) → answers ys ≡ answers xs → AtMost m xs → AtMost m ys
  at_most_equal Zero xs ys e h = e ∙ h
  at_most_equal One xs ys e h = omega arith
  at_most_equal Many xs ys e h = tt

module _ {A : Type 0} where
  pub at_most_left : (m k : Most) (xs : Items A) → AtMost m xs → AtMost (either m k) xs
  at_most_left Zero Zero xs h = h
  at_most_left Zero One xs h = omega arith
  at_most_left Zero Many xs h = tt
  at_most_left One Zero xs h = h
  at_most_left One One xs h = h
  at_most_left One Many xs h = tt
  at_most_left Many k xs h = tt

  pub at_most_right : (m k : Most) (xs : Items A) → AtMost k xs → AtMost (either m k) xs
  at_most_right Zero k xs h = h
  at_most_right One Zero xs h = omega arith
  at_most_right One One xs h = h
  at_most_right One Many xs h = tt
  at_most_right Many k xs h = tt

  pub at_most_append : (m k : Most) (xs ys : Items A) → AtMost m xs → AtMost k ys → AtMost (plus m k) (append xs ys)
  at_most_append Zero Zero xs ys h l = omega (arith, answers-append xs ys)
  at_most_append Zero One xs ys h l = omega (arith, answers-append xs ys)
  at_most_append Zero Many xs ys h l = tt
  at_most_append One Zero xs ys h l = omega (arith, answers-append xs ys)
  at_most_append One One xs ys h l = tt
  at_most_append One Many xs ys h l = tt
  at_most_append Many k xs ys h l = tt

  pub at_most_first : (m : Most) (xs : Items A) → AtMost m xs → AtMost (at_most_one m) (first xs)
  at_most_first Zero xs h = omega (arith, answers-first-le xs)
  at_most_first One xs h = answers-first xs
  at_most_first Many xs h = answers-first xs

  pub at_most_first_same : (m : Most) (xs : Items A) → AtMost m xs → AtMost m (first xs)
  at_most_first_same Zero xs h = omega (arith, answers-first-le xs)
  at_most_first_same One xs h = answers-first xs
  at_most_first_same Many xs h = tt

  pub at_most_cut : (m : Most) (n : ℕ) (xs : Items A) → AtMost m xs → AtMost m (cut n xs)
  at_most_cut Zero n xs h = omega (arith, answers-cut n xs)
  at_most_cut One n xs h = omega (arith, answers-cut n xs)
  at_most_cut Many n xs h = tt

module _ {A B : Type 0} (P : A → Type 0) (f : A → Items B) where
  pub at_most_choose : (m k : Most) (xs : Items A) (ys : Items B) → AtMost m (bind xs f) → AtMost k ys → AtMost (either m k) (choose xs f ys)
  at_most_choose m k xs ys h l = ⊎_elim (λ e. at_most_equal (either m k) (bind xs f) _ e (at_most_left m k (bind xs f) h)) (λ e. at_most_equal (either m k) ys _ e (at_most_right m k ys l)) (answers-choose P f xs ys)

  pub at_most_choose_sure : (m : Most) (xs : Items A) (ys : Items B) → Succeeds xs → AtMost m (bind xs f) → AtMost m (choose xs f ys)
  at_most_choose_sure m xs ys s h = at_most_equal m (bind xs f) _ (answers-choose_sure P f xs ys s) h

  pub at_most_negate : (m : Most) (b : B) (xs : Items A) → AtMost One (negate b xs)
  at_most_negate m b xs = answers-negate P f b xs

  pub at_most_negate_sure : (b : B) (xs : Items A) → Succeeds xs → AtMost Zero (negate b xs)
  at_most_negate_sure b xs h = answers-negate_sure P f b xs h

-- coverage
module _ {A : Type 0} (P Q : A → Type 0) (F G : Type 0) where
  pub covers_map : ((a : A) → P a → Q a) → (F → G) → (xs : Items A) → Covers P F xs → Covers Q G xs
  covers_map f g End h = g h
  covers_map f g Stuck h = tt
  covers_map f g (Stopped w) h = tt
  covers_map f g (Answer a xs) h = ⊎_elim (λ p. inl (f a p)) (λ c. inr (covers_map f g xs c)) h
  covers_map f g (Called p xs) h = covers_map f g xs h
  covers_map f g (Wrote w1 xs) h = covers_map f g xs h
  covers_map f g (Read r1 xs) h = covers_map f g xs h

  -- the same, with what holds of each answer
  pub covers_each : (R : A → Type 0) → ((a : A) → R a → P a → Q a) → (F → G) → (xs : Items A) → Each R xs → Covers P F xs → Covers Q G xs
  covers_each R f g End r h = g h
  covers_each R f g Stuck r h = tt
  covers_each R f g (Stopped w) r h = tt
  covers_each R f g (Answer a xs) r h = ⊎_elim (λ p. inl (f a r.0 p)) (λ c. inr (covers_each R f g xs r.1 c)) h
  covers_each R f g (Called p xs) r h = covers_each R f g xs r h
  covers_each R f g (Wrote w1 xs) r h = covers_each R f g xs r h
  covers_each R f g (Read r1 xs) r h = covers_each R f g xs r h

  pub covers_first : (R : A → Type 0) → ((a : A) → R a → Q a) → (F → G) → (xs : Items A) → Each R xs → Covers P F xs → Covers Q G (first xs)
  covers_first R f g End r h = g h
  covers_first R f g Stuck r h = tt
  covers_first R f g (Stopped w) r h = tt
  covers_first R f g (Answer a xs) r h = inl (f a r.0)
  covers_first R f g (Called p xs) r h = covers_first R f g xs r h
  covers_first R f g (Wrote w1 xs) r h = covers_first R f g xs r h
  covers_first R f g (Read r1 xs) r h = covers_first R f g xs r h

module _ {A : Type 0} (P : A → Type 0) (F : Type 0) where
  -- F alone is enough
  pub covers_sure : F → (xs : Items A) → Covers P F xs
  covers_sure f End = f
  covers_sure f Stuck = tt
  covers_sure f (Stopped w) = tt
  covers_sure f (Answer a xs) = inr (covers_sure f xs)
  covers_sure f (Called p xs) = covers_sure f xs
  covers_sure f (Wrote w1 xs) = covers_sure f xs
  covers_sure f (Read r1 xs) = covers_sure f xs

  pub covers_append_left : (xs ys : Items A) → Covers P F xs → Covers P F (append xs ys)
  covers_append_left End ys h = covers_sure h ys
  covers_append_left Stuck ys h = tt
  covers_append_left (Stopped w) ys h = tt
  covers_append_left (Answer a xs) ys h = ⊎_elim (λ p. inl p) (λ c. inr (covers_append_left xs ys c)) h
  covers_append_left (Called p xs) ys h = covers_append_left xs ys h
  covers_append_left (Wrote w1 xs) ys h = covers_append_left xs ys h
  covers_append_left (Read r1 xs) ys h = covers_append_left xs ys h

  pub covers_append_right : (xs ys : Items A) → Covers P F ys → Covers P F (append xs ys)
  covers_append_right End ys h = h
  covers_append_right Stuck ys h = tt
  covers_append_right (Stopped w) ys h = tt
  covers_append_right (Answer a xs) ys h = inr (covers_append_right xs ys h)
  covers_append_right (Called p xs) ys h = covers_append_right xs ys h
  covers_append_right (Wrote w1 xs) ys h = covers_append_right xs ys h
  covers_append_right (Read r1 xs) ys h = covers_append_right xs ys h

  pub covers_cut : (n : ℕ) (xs : Items A) → Covers P F xs → Covers P F (cut n xs)
  covers_cut n End h = h
  covers_cut n Stuck h = tt
  covers_cut n (Stopped w) h = tt
  covers_cut n (Answer a xs) h = ⊎_elim (λ p. inl p) (λ c. inr (covers_cut n xs c)) h
  covers_cut zero (Called p xs) h = tt
  covers_cut (suc n) (Called p xs) h = covers_cut n xs h
  covers_cut n (Wrote w1 xs) h = covers_cut n xs h
  covers_cut n (Read r1 xs) h = covers_cut n xs h

  -- two parts that are both refuted
  pub covers_append : (G : Type 0) (xs ys : Items A) → Covers P F xs → Covers P G ys → Covers P (F × G) (append xs ys)
  covers_append G End ys h k = covers_map P P G (F × G) (λ a p. p) (λ g. (h, g)) ys k
  covers_append G Stuck ys h k = tt
  covers_append G (Stopped w) ys h k = tt
  covers_append G (Answer a xs) ys h k = ⊎_elim (λ p. inl p) (λ c. inr (covers_append G xs ys c k)) h
  covers_append G (Called p xs) ys h k = covers_append G xs ys h k
  covers_append G (Wrote w1 xs) ys h k = covers_append G xs ys h k
  covers_append G (Read r1 xs) ys h k = covers_append G xs ys h k

-- for all of a family, where the test of an answer can be decided
module _ {A I : Type 0} (P : I → A → Type 0) (Q : A → Type 0) (F : I → Type 0) where
  pub covers_all : ((a : A) → Q a ⊎ (Q a → ⊥)) → ((i : I) (a : A) → P i a → Q a) → (xs : Items A) → ((i : I) → Covers (P i) (F i) xs) → Covers Q ((i : I) → F i) xs
  covers_all d f End h = h
  covers_all d f Stuck h = tt
  covers_all d f (Stopped w) h = tt
  covers_all d f (Answer a xs) h = ⊎_elim (λ q. inl q) (λ n. inr (covers_all d f xs (λ i. ⊎_elim (λ p. absurd (n (f i a p))) (λ c. c) (h i)))) (d a)
  covers_all d f (Called p xs) h = covers_all d f xs h
  covers_all d f (Wrote w1 xs) h = covers_all d f xs h
  covers_all d f (Read r1 xs) h = covers_all d f xs h

module _ {A B : Type 0} (P : A → Type 0) (Q : B → Type 0) (F : Type 0) (f : A → Items B) where
  pub covers_bind : (R : A → Type 0) (xs : Items A) → Each R xs → Covers P F xs → ((a : A) → R a → P a → Covers Q F (f a)) → Covers Q F (bind xs f)
  covers_bind R End e h k = h
  covers_bind R Stuck e h k = tt
  covers_bind R (Stopped w) e h k = tt
  covers_bind R (Answer a xs) e h k = ⊎_elim (λ p. covers_append_left Q F (f a) (bind xs f) (k a e.0 p)) (λ c. covers_append_right Q F (f a) (bind xs f) (covers_bind R xs e.1 c k)) h
  covers_bind R (Called p xs) e h k = covers_bind R xs e h k
  covers_bind R (Wrote w1 xs) e h k = covers_bind R xs e h k
  covers_bind R (Read r1 xs) e h k = covers_bind R xs e h k
