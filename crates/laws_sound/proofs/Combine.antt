-- The first pass at compound goals, by their lists.
use Rattle.std.proofs.Common.{◌≡◌, ◌⊎◌, inl, inr, ℕ, List, ◌++◌, Bool, true, false, cond, not, ◌||◌, ◌&&◌, Option, Some, refl, sym, subst, ⊎_elim}
use Rattle.std.proofs.lemmas.Bool.{or_parts, and_cases}
use Rattle.mc_program.specs.Programs.{TypeTerm}
use Rattle.mc_model.specs.Lists.{In, Among}
use Rattle.mc_model.specs.EventList.{Items, append, bind, choose, negate, Each, EachCall, AtMost, answers, Succeeds}
use Rattle.mc_model.specs.Stream.{Bindings, pruned_to}
use Rattle.mc_source.specs.Determinism.{Determinism, conj, disj, ite, negated, negated_row, pruned, is_zero, is_many, greater}
use Rattle.mc_accepted.specs.Ordered.{Insts}
use Rattle.mc_accepted.specs.Determined.{Known}
use Rattle.mc_model.specs.Good.{System, TypeChoice, GivenCall}
use Rattle.laws_sound.specs.code.Passes.{Grows, BindsOnly, TypedAt, Reached, Sound, Knows}
use Rattle.mc_source.specs.declared.det.Most.{Most}
use Rattle.mc_source.specs.declared.det.Most.TheVariants.{Zero, One, Many}
use Rattle.laws_sound.proofs.Counts.{times, plus, either}
use Rattle.laws_sound.proofs.Binds
use Rattle.laws_sound.proofs.CallLists
use Rattle.laws_sound.proofs.Lists
use Rattle.laws_sound.proofs.Atoms.{binds_more}
use Rattle.laws_language.proofs.FlatGoals.{in_either, in_left, in_right}
use Rattle.laws_sound.proofs.Binds.{true_not_false}

-- lists of which one is among the other
pub among_both : (L O ys : List ℕ) → Among L O → Among (L ++ ys) (O ++ ys)
among_both L O ys u x i = ⊎_elim (λ j. in_left x O ys (u x j)) (λ j. in_right x O ys j) (in_either x L ys i)

pub among_left : (L O ys : List ℕ) → Among L O → Among L (O ++ ys)
among_left L O ys u x i = in_left x O ys (u x i)

pub among_two : (L O ys zs : List ℕ) → Among L O → Among (L ++ zs) (O ++ (ys ++ zs))
among_two L O ys zs u x i = ⊎_elim (λ j. in_left x O (ys ++ zs) (u x j)) (λ j. in_right x O (ys ++ zs) (in_right x ys zs j)) (in_either x L zs i)

-- the tables against the counts
conj_times : (m k : Most) → cond (is_zero m || is_zero k) Zero (greater m k) ≡ times m k
conj_times Zero k = refl
conj_times One Zero = refl
conj_times One One = refl
conj_times One Many = refl
conj_times Many Zero = refl
conj_times Many One = refl
conj_times Many Many = refl

disj_plus : (m k : Most) → cond (is_zero m && is_zero k) Zero (cond (is_many m || is_many k || not (is_zero m) && not (is_zero k)) Many One) ≡ plus m k
disj_plus Zero Zero = refl
disj_plus Zero One = refl
disj_plus Zero Many = refl
disj_plus One Zero = refl
disj_plus One One = refl
disj_plus One Many = refl
disj_plus Many Zero = refl
disj_plus Many One = refl
disj_plus Many Many = refl

pub greater_either : (m k : Most) → greater m k ≡ either m k
greater_either Zero k = refl
greater_either One Zero = refl
greater_either One One = refl
greater_either One Many = refl
greater_either Many k = refl

-- an if-then-else whose condition can fail: the table allows what the counts say
abbrev ite_most : Most → Most → Most → Most
ite_most c t e = cond (is_zero e && (is_zero c || is_zero t)) Zero (cond (is_many c || is_many t || is_many e) Many One)

module _ {A : Type 0} where
  ite_count : (c t e : Most) (xs : Items A) → AtMost (either (times c t) e) xs → AtMost (ite_most c t e) xs
  ite_count Zero Zero Zero xs h = h
  ite_count Zero Zero One xs h = h
  ite_count Zero Zero Many xs h = h
  ite_count Zero One Zero xs h = h
  ite_count Zero One One xs h = h
  ite_count Zero One Many xs h = h
  ite_count Zero Many Zero xs h = h
  ite_count Zero Many One xs h = tt
  ite_count Zero Many Many xs h = h
  ite_count One Zero Zero xs h = h
  ite_count One Zero One xs h = h
  ite_count One Zero Many xs h = h
  ite_count One One Zero xs h = h
  ite_count One One One xs h = h
  ite_count One One Many xs h = h
  ite_count One Many Zero xs h = h
  ite_count One Many One xs h = h
  ite_count One Many Many xs h = h
  ite_count Many Zero Zero xs h = h
  ite_count Many Zero One xs h = tt
  ite_count Many Zero Many xs h = h
  ite_count Many One Zero xs h = h
  ite_count Many One One xs h = h
  ite_count Many One Many xs h = h
  ite_count Many Many Zero xs h = h
  ite_count Many Many One xs h = h
  ite_count Many Many Many xs h = h

is_sure : (m : Most) (f : Bool) → (not (is_zero m) && f) ≡ false → (m ≡ Zero) ⊎ (f ≡ false)
is_sure Zero f e = inl refl
is_sure One f e = inr e
is_sure Many f e = inr e

no_answers : (m : Most) (xs : Items Bindings) → m ≡ Zero → AtMost m xs → answers xs ≡ 0
no_answers m xs e c = subst (λ k. AtMost k xs) e c

pub knows_more : (known : Known) (e a : Bindings) → Grows e a → Knows known e → Knows known a
knows_more known e a g k x l q = let r = k x l q in (r.0, g x r.0 r.1, r.2)

module _ (S : System) (θ : TypeChoice) (T : ℕ → TypeTerm) (known : Known) where
  -- more variables
  pub sound_more : (L vs ws : List ℕ) (e : Bindings) (o : Option Insts) (d : Determinism) (xs : Items Bindings) → ((x : ℕ) → In x vs → In x ws) → Sound S θ T known L vs e o d xs → Sound S θ T known L ws e o d xs
  sound_more L vs ws e o d xs f s =
      record { each = Lists.each_map (λ a. Grows e a × (BindsOnly vs e a × Reached S θ T L o a)) (λ a. Grows e a × (BindsOnly ws e a × Reached S θ T L o a)) (λ a h. (h.0, (binds_more vs ws e a f h.1.0, h.1.1))) xs s.each; calls = s.calls; count = s.count; sure = s.sure }

  -- what holds after one goal holds after another
  after_two : (L vs : List ℕ) (e a : Bindings) (o : Option Insts) (xs : Items Bindings) → Grows e a → BindsOnly vs e a → Each (λ c. Grows a c × (BindsOnly vs a c × Reached S θ T L o c)) xs → Each (λ c. Grows e c × (BindsOnly vs e c × Reached S θ T L o c)) xs
  after_two L vs e a o xs g b h =
      Lists.each_map (λ c. Grows a c × (BindsOnly vs a c × Reached S θ T L o c)) (λ c. Grows e c × (BindsOnly vs e c × Reached S θ T L o c))
      (λ c k. (Binds.extends_trans e a c g k.0, ((λ y w q. ⊎_elim (λ z. b y w z) (λ z. inr z) (k.1.0 y w q)), k.1.1))) xs h

  module _ (K L us vs : List ℕ) (f : (x : ℕ) → In x us → In x vs) (e : Bindings) (o o' : Option Insts) (d d' : Determinism) (xs : Items Bindings) (k : Bindings → Items Bindings)
      (s : Sound S θ T known K us e o d xs) (t : (a : Bindings) → Grows e a → BindsOnly us e a → Reached S θ T K o a → Sound S θ T known L vs a o' d' (k a)) where
    abbrev Between : Bindings → Type 0
    Between a = Grows e a × (BindsOnly us e a × Reached S θ T K o a)

    abbrev After : Bindings → Type 0
    After a = Grows e a × (BindsOnly vs e a × Reached S θ T L o' a)

    bind_each : Each After (bind xs k)
    bind_each = Lists.each_bind Between After k xs s.each (λ a h. after_two L vs e a o' (k a) h.0 (binds_more us vs e a f h.1.0) (t a h.0 h.1.0 h.1.1).each)

    bind_count : Knows known e → AtMost (times d.most d'.most) (bind xs k)
    bind_count q = Lists.at_most_bind Between k d.most d'.most xs s.each (s.count q) (λ a h. (t a h.0 h.1.0 h.1.1).count (knows_more known e a h.0 q))

    bind_sure : Knows known e → Succeeds xs → (not (is_zero d.most) && d'.can_fail) ≡ false → Succeeds (bind xs k)
    bind_sure q c z =
        ⊎_elim
        (λ n. Lists.succeeds_bind (λ a. ⊥) k xs (Lists.each_none Between xs (no_answers d.most xs n (s.count q)) s.each) c (λ a h. absurd h))
        (λ n. Lists.succeeds_bind Between k xs s.each c (λ a h. (t a h.0 h.1.0 h.1.1).sure (knows_more known e a h.0 q) n))
        (is_sure d.most d'.can_fail z)

    pub bind_sound : Sound S θ T known L vs e o' (conj d d') (bind xs k)
    bind_sound =
        record {
          each = bind_each;
          calls = CallLists.calls_bind (GivenCall S) Between k xs s.each s.calls (λ a h. (t a h.0 h.1.0 h.1.1).calls);
          count = λ q. subst (λ m. AtMost m (bind xs k)) (sym (conj_times d.most d'.most)) (bind_count q);
          sure = λ q z. let p = or_parts d.can_fail (not (is_zero d.most) && d'.can_fail) z in bind_sure q (s.sure q p.0) p.1;
        }

    module _ (d'' : Determinism) (ys : Items Bindings) (u : Sound S θ T known L vs e o' d'' ys) where
      choose_each : Each After (choose xs k ys)
      choose_each = Lists.each_choose Between After k xs ys s.each (λ a h. after_two L vs e a o' (k a) h.0 (binds_more us vs e a f h.1.0) (t a h.0 h.1.0 h.1.1).each) u.each

      choose_calls : EachCall (GivenCall S) (choose xs k ys)
      choose_calls = CallLists.calls_choose (GivenCall S) Between k xs ys s.each s.calls (λ a h. (t a h.0 h.1.0 h.1.1).calls) u.calls

      choose_on : (f : Bool) → d.can_fail ≡ f →
          Sound S θ T known L vs e o' (cond f (record { can_fail = d'.can_fail || d''.can_fail; most = ite_most d.most d'.most d''.most }) (conj d d')) (choose xs k ys)
      choose_on true f =
          record {
            each = choose_each;
            calls = choose_calls;
            count = λ q. ite_count d.most d'.most d''.most (choose xs k ys) (Lists.at_most_choose Between k (times d.most d'.most) d''.most xs ys (bind_count q) (u.count q));
            sure = λ q z. let p = or_parts d'.can_fail d''.can_fail z in Lists.succeeds_choose Between k xs ys s.each (λ a h. (t a h.0 h.1.0 h.1.1).sure (knows_more known e a h.0 q) p.0) (u.sure q p.1);
          }
      choose_on false f =
          record {
            each = choose_each;
            calls = choose_calls;
            count = λ q. subst (λ m. AtMost m (choose xs k ys)) (sym (conj_times d.most d'.most)) (Lists.at_most_choose_sure Between k (times d.most d'.most) xs ys (s.sure q f) (bind_count q));
            sure = λ q z.
                ⊎_elim
                (λ n. Lists.succeeds_choose_sure (λ a. ⊥) k xs ys (Lists.each_none Between xs (no_answers d.most xs n (s.count q)) s.each) (s.sure q f) (λ a h. absurd h))
                (λ n. Lists.succeeds_choose_sure Between k xs ys s.each (s.sure q f) (λ a h. (t a h.0 h.1.0 h.1.1).sure (knows_more known e a h.0 q) n))
                (is_sure d.most d'.can_fail (or_parts d.can_fail (not (is_zero d.most) && d'.can_fail) z).1);
          }

      pub choose_sound : Sound S θ T known L vs e o' (ite d d' d'') (choose xs k ys)
      choose_sound = choose_on d.can_fail refl

  pub append_sound : (L vs : List ℕ) (e : Bindings) (o : Option Insts) (d d' : Determinism) (xs ys : Items Bindings) → Sound S θ T known L vs e o d xs → Sound S θ T known L vs e o d' ys → Sound S θ T known L vs e o (disj d d') (append xs ys)
  append_sound L vs e o d d' xs ys s t =
      record {
        each = Lists.each_append (λ a. Grows e a × (BindsOnly vs e a × Reached S θ T L o a)) (λ a. Grows e a × (BindsOnly vs e a × Reached S θ T L o a)) xs ys s.each t.each;
        calls = CallLists.calls_append (GivenCall S) xs ys s.calls t.calls;
        count = λ q. subst (λ m. AtMost m (append xs ys)) (sym (disj_plus d.most d'.most)) (Lists.at_most_append d.most d'.most xs ys (s.count q) (t.count q));
        sure = λ q z. ⊎_elim (λ n. Lists.succeeds_append_left xs ys (s.sure q n)) (λ n. Lists.succeeds_append_right xs ys (t.sure q n)) (and_cases d.can_fail d'.can_fail z);
      }

  negate_count : (e : Bindings) (f : Bool) (m : Most) (xs : Items Bindings) → AtMost m xs → (f ≡ false → Succeeds xs) → AtMost (negated_row f m).most (negate e xs)
  negate_count e false Zero xs c s = Lists.at_most_negate_sure (λ a. ⊥) (λ a. Rattle.mc_model.specs.EventList.End) e xs (s refl)
  negate_count e false One xs c s = Lists.at_most_negate_sure (λ a. ⊥) (λ a. Rattle.mc_model.specs.EventList.End) e xs (s refl)
  negate_count e false Many xs c s = Lists.at_most_negate_sure (λ a. ⊥) (λ a. Rattle.mc_model.specs.EventList.End) e xs (s refl)
  negate_count e true Zero xs c s = Lists.at_most_negate (λ a. ⊥) (λ a. Rattle.mc_model.specs.EventList.End) Zero e xs
  negate_count e true One xs c s = Lists.at_most_negate (λ a. ⊥) (λ a. Rattle.mc_model.specs.EventList.End) One e xs
  negate_count e true Many xs c s = Lists.at_most_negate (λ a. ⊥) (λ a. Rattle.mc_model.specs.EventList.End) Many e xs

  negate_sure : (e : Bindings) (f : Bool) (m : Most) (xs : Items Bindings) → AtMost m xs → (f ≡ false → Succeeds xs) → (negated_row f m).can_fail ≡ false → Succeeds (negate e xs)
  negate_sure e false Zero xs c s q = Lists.succeeds_negate (λ a. ⊥) (λ a. Rattle.mc_model.specs.EventList.End) e xs c
  negate_sure e false One xs c s q = absurd (true_not_false q)
  negate_sure e false Many xs c s q = absurd (true_not_false q)
  negate_sure e true Zero xs c s q = Lists.succeeds_negate (λ a. ⊥) (λ a. Rattle.mc_model.specs.EventList.End) e xs c
  negate_sure e true One xs c s q = absurd (true_not_false q)
  negate_sure e true Many xs c s q = absurd (true_not_false q)

  pub negate_sound : (K L vs ws : List ℕ) (b : Insts) (e : Bindings) (o : Option Insts) (d : Determinism) (xs : Items Bindings) → TypedAt S θ T L b e → Sound S θ T known K vs e o d xs → Sound S θ T known L ws e (Some b) (negated d) (negate e xs)
  negate_sound K L vs ws b e o d xs l s =
      record {
        each = Lists.each_negate (λ a. Grows e a × (BindsOnly vs e a × Reached S θ T K o a)) (λ a. Grows e a × (BindsOnly ws e a × TypedAt S θ T L b a)) (λ a. Rattle.mc_model.specs.EventList.End) e xs s.each (Binds.extends_refl e, ((λ y w q. inl q), l));
        calls = CallLists.calls_negate (GivenCall S) e xs s.calls;
        count = λ q. negate_count e d.can_fail d.most xs (s.count q) (s.sure q);
        sure = λ q z. negate_sure e d.can_fail d.most xs (s.count q) (s.sure q) z;
      }

  pub pruned_sound : (L vs : List ℕ) (e : Bindings) (o : Option Insts) (d : Determinism) (m : Bool) (xs : Items Bindings) → Sound S θ T known L vs e o d xs → Sound S θ T known L vs e o (cond m (pruned d) d) (pruned_to m xs)
  pruned_sound L vs e o d false xs s = s
  pruned_sound L vs e o d true xs s =
      record {
        each = Lists.each_first (λ a. Grows e a × (BindsOnly vs e a × Reached S θ T L o a)) (λ a. Grows e a × (BindsOnly vs e a × Reached S θ T L o a)) xs s.each;
        calls = CallLists.calls_first (GivenCall S) xs s.calls;
        count = λ q. Lists.at_most_first d.most xs (s.count q);
        sure = λ q z. Lists.succeeds_first xs (s.sure q z);
      }

  -- where branches are joined
  pub reached_sound : (L vs : List ℕ) (e : Bindings) (o w : Option Insts) (d : Determinism) (xs : Items Bindings) → ((a : Bindings) → Reached S θ T L o a → Reached S θ T L w a) → Sound S θ T known L vs e o d xs → Sound S θ T known L vs e w d xs
  reached_sound L vs e o w d xs f s =
      record { each = Lists.each_map (λ a. Grows e a × (BindsOnly vs e a × Reached S θ T L o a)) (λ a. Grows e a × (BindsOnly vs e a × Reached S θ T L w a)) (λ a h. (h.0, (h.1.0, f a h.1.1))) xs s.each; calls = s.calls; count = s.count; sure = s.sure }
