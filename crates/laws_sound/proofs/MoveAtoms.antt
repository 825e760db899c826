-- What equations do to the world: a state passes from one variable to another, or stays.
use Rattle.std.proofs.Common.{◌≡◌, ◌≢◌, ◌⊎◌, inl, inr, ℕ, List, Bool, true, false, cond, nat_eq, Option, Some, None, refl, sym, ap, ◌∙◌, subst, arith, ⊎_elim}
use Rattle.std.proofs.lemmas.Bool.{eqb-true}
use Rattle.mc_program.specs.Values.{Val}
use Rattle.mc_program.specs.Programs.{TypeTerm, int_type, char_type, string_type, state_type, variable_type, union_type}
use Rattle.mc_model.specs.Insts.{Listed, unique, dead, bound}
use Rattle.mc_model.specs.Lists.{In, Among}
use Rattle.mc_model.specs.EventList.{Items, Each}
use Rattle.mc_model.specs.Stream.{Bindings, put, same_items}
use Rattle.mc_accepted.specs.Ordered.{Insts, also, is_state}
use Rattle.mc_accepted.specs.Determined.{Known}
use Rattle.mc_source.specs.Determinism.{Determinism}
use Rattle.mc_model.specs.Good.{System, TypeChoice}
use Rattle.mc_accepted.specs.ProperTypes.{Parameters}
use Rattle.mc_accepted.specs.Fits.{Fits}
use Rattle.laws_sound.specs.code.Passes.{Grows, BindsOnly, TypedAt, Reached, Sound}
use Rattle.laws_sound.specs.code.Moves.{Calm, World, Live, Holds, HoldsAfter, Tells, Shares, SharesAt}
use Rattle.laws_sound.proofs.Opens.{Loose}
use Rattle.laws_sound.proofs.MoveShares.{stay_shares, put_shares, known_shares}
use Rattle.laws_sound.proofs.Lists
use Rattle.laws_sound.proofs.MoveArms.{Quiet}
use Rattle.laws_sound.proofs.Binds.{true_not_false}

pub quiet_each : {A : Type 0} (P : A → Type 0) (xs : Items A) → Quiet xs → Each P xs → Calm P xs
quiet_each P Items.End q h = tt
quiet_each P Items.Stuck q h = tt
quiet_each P (Items.Stopped w) q h = tt
quiet_each P (Items.Answer a xs) q h = (h.0, quiet_each P xs q h.1)
quiet_each P (Items.Called p xs) q h = absurd q
quiet_each P (Items.Wrote t xs) q h = absurd q
quiet_each P (Items.Read k xs) q h = absurd q

pub each_loose : {A : Type 0} (P R : A → Type 0) (xs : Items A) → Each P xs → Loose R xs → Each (λ a. P a × R a) xs
each_loose P R Items.End h k = tt
each_loose P R Items.Stuck h k = absurd h
each_loose P R (Items.Stopped w) h k = tt
each_loose P R (Items.Answer a xs) h k = ((h.0, k.0), each_loose P R xs h.1 k.1)
each_loose P R (Items.Called p xs) h k = each_loose P R xs h k
each_loose P R (Items.Wrote t xs) h k = each_loose P R xs h k
each_loose P R (Items.Read j xs) h k = each_loose P R xs h k

pub each_is_loose : {A : Type 0} (P : A → Type 0) (xs : Items A) → Each P xs → Loose P xs
each_is_loose P Items.End h = tt
each_is_loose P Items.Stuck h = tt
each_is_loose P (Items.Stopped w) h = tt
each_is_loose P (Items.Answer a xs) h = (h.0, each_is_loose P xs h.1)
each_is_loose P (Items.Called p xs) h = each_is_loose P xs h
each_is_loose P (Items.Wrote t xs) h = each_is_loose P xs h
each_is_loose P (Items.Read j xs) h = each_is_loose P xs h

-- a variable with another inst
pub also_on : (t : Bool) (i k : ℕ) (X : Type 0) → cond t i k ≡ 2 → (t ≡ true → i ≡ 2 → X) → (t ≡ false → k ≡ 2 → X) → X
also_on true i k X q f g = f refl q
also_on false i k X q f g = g refl q

pub state_is : (t : TypeTerm) → t ≡ state_type → is_state t ≡ true
state_is t e = ap is_state e

module _ (S : System) (D : Parameters) (F : Fits S D) (T : ℕ → TypeTerm) where
  -- what is live after was live before
  abbrev pub NoneNew : List ℕ → Insts → Insts → Type 0
  NoneNew L b c = (x : ℕ) → In x L → Live S T c x → Live S T b x

  -- after a goal: nothing is newly live, and each state that a value holds may be shared
  abbrev pub StillAfter : List ℕ → Insts → Bindings → Option Insts → Bindings → Type 0
  StillAfter L b e None a = ⊥
  StillAfter L b e (Some c) a = NoneNew L b c × (Grows e a × SharesAt S T L c a)

  pub still_holds : (W : World) (M L : List ℕ) (b : Insts) (e : Bindings) (o : Option Insts) → Among L M → Holds S T W M b e → (a : Bindings) → StillAfter L b e o a → HoldsAfter S T L o W a
  still_holds W M L b e None lm h a s = absurd s
  still_holds W M L b e (Some c) lm h a s =
      record {
        tells = λ x i l. let t = h.tells x (lm x i) (s.0 x i l) in (t.0, t.1, t.2, s.1.0 x (Rattle.mc_program.specs.Values.state t.0 t.1) t.3);
        alone = λ x y i j l m. h.alone x y (lm x i) (lm y j) (s.0 x i l) (s.0 y j m);
        shares = s.1.1;
      }

  pub not_unique : (i : ℕ) (ls : List Listed) → S.insts i ≡ bound ls → i ≡ 2 → ⊥
  not_unique i ls q e = no (sym F.insts.is_unique ∙ (ap S.insts (sym e) ∙ q))
    where
      no : unique ≡ bound ls → ⊥
      no e = cc

  pub also_none : (L : List ℕ) (b : Insts) (x i : ℕ) → (i ≡ 2 → ⊥) → NoneNew L b (also x i b)
  also_none L b x i n y j l = (l.0, also_on (nat_eq y x) i (b y) (b y ≡ 2) l.1 (λ t q. absurd (n q)) (λ t q. q))

  module _ (θ : TypeChoice) where
    -- an answer of an atom that makes no variable live
    pub still_after : (known : Known) (L vs : List ℕ) (e : Bindings) (b c : Insts) (d : Determinism) (xs : Items Bindings) → Sound S θ T known L vs e (Some c) d xs → Quiet xs → NoneNew L b c → Loose (SharesAt S T L c) xs → Calm (StillAfter L b e (Some c)) xs
    still_after known L vs e b c d xs s q n sh =
        quiet_each (StillAfter L b e (Some c)) xs q (Lists.each_map (λ a. (Grows e a × (BindsOnly vs e a × Reached S θ T L (Some c) a)) × SharesAt S T L c a) (StillAfter L b e (Some c)) (λ a z. (n, (z.0.0, z.1))) xs (each_loose (λ a. Grows e a × (BindsOnly vs e a × Reached S θ T L (Some c) a)) (SharesAt S T L c) xs s.each sh))

    -- an answer of an atom that changes nothing
    pub same_after : (known : Known) (L vs : List ℕ) (e : Bindings) (b : Insts) (d : Determinism) (xs : Items Bindings) → Sound S θ T known L vs e (Some b) d xs → Quiet xs → TypedAt S θ T L b e → (M : List ℕ) → SharesAt S T M b e → Among L M → Calm (StillAfter L b e (Some b)) xs
    same_after known L vs e b d xs s q li M sm lm =
        still_after known L vs e b b d xs s q (λ x i l. l) (each_is_loose (SharesAt S T L b) xs (Lists.each_map (λ a. Grows e a × (BindsOnly vs e a × Reached S θ T L (Some b) a)) (SharesAt S T L b) (λ a z x i n v r. stay_shares S D F θ T L b b e a x v (li x i) (z.1.1 x i) z.0 refl r (λ p. sm x (lm x i) n v p)) xs s.each))

    pub never_after : (known : Known) (L vs : List ℕ) (e : Bindings) (b : Insts) (d : Determinism) (xs : Items Bindings) → Sound S θ T known L vs e None d xs → Quiet xs → Calm (StillAfter L b e None) xs
    never_after known L vs e b d xs s q = quiet_each (StillAfter L b e None) xs q (Lists.each_map (λ a. Grows e a × (BindsOnly vs e a × ⊥)) (StillAfter L b e None) (λ a z. z.1.1) xs s.each)

  assigned_shares : (θ : TypeChoice) (M L : List ℕ) (b : Insts) (e : Bindings) (x y : ℕ) (v : Val) → T x ≡ T y → S.insts (b y) ≢ dead → In y M → Among L M → e y ≡ Some v → SharesAt S T M b e → SharesAt S T L (also x (b y) (cond (is_state (T y)) (also y 3 b) b)) (put x v e)
  assigned_shares θ M L b e x y v t nd ym lm q sm =
      put_shares S D F θ T L (cond (is_state (T y)) (also y 3 b) b) e x (b y) v (subst (λ u. Shares S.world.source S.insts v (b y) u) (sym t) (sm y ym nd v q)) (gone (is_state (T y)))
    where
      gone : (s : Bool) → SharesAt S T L (cond s (also y 3 b) b) e
      gone true = known_shares S D F θ T L b e y 3 v q (λ n. absurd (n F.insts.is_dead)) (λ z i. sm z (lm z i))
      gone false = λ z i. sm z (lm z i)

  -- an assignment passes the state on
  assigned : (θ : TypeChoice) (W : World) (M L : List ℕ) (b : Insts) (e : Bindings) (x y : ℕ) (v : Val) → T x ≡ T y → S.insts (b y) ≢ dead → In y M → Among L M → e y ≡ Some v → Holds S T W M b e → Holds S T W L (also x (b y) (cond (is_state (T y)) (also y 3 b) b)) (put x v e)
  assigned θ W M L b e x y v t nd ym lm q h =
      record {
        tells = λ z i l. told z i l;
        alone = λ z w i j l m. both z w i j l m;
        shares = assigned_shares θ M L b e x y v t nd ym lm q h.shares;
      }
    where
      -- the inst of y after, where y is the state
      moved : (z : ℕ) → T z ≡ state_type → T y ≡ state_type → cond (is_state (T y)) (also y 3 b) b z ≡ 2 → (z ≡ y → ⊥) × (b z ≡ 2)
      moved z tz ty r = on (is_state (T y)) (state_is (T y) ty) r
        where
          three : (◌≡◌ {A = ℕ} 3 2) → ⊥
          three e = omega arith

          on : (s : Bool) → s ≡ true → cond s (also y 3 b) b z ≡ 2 → (z ≡ y → ⊥) × (b z ≡ 2)
          on true s r = inner (nat_eq z y) refl r
            where
              inner : (k : Bool) → nat_eq z y ≡ k → cond k 3 (b z) ≡ 2 → (z ≡ y → ⊥) × (b z ≡ 2)
              inner true p r = absurd (three r)
              inner false p r = ((λ u. true_not_false (sym (Rattle.std.proofs.lemmas.Bool.eq-eqb z y u) ∙ p)), r)
          on false s r = absurd (true_not_false (sym s))

      stayed : (z : ℕ) → (T y ≡ state_type → ⊥) → cond (is_state (T y)) (also y 3 b) b z ≡ 2 → b z ≡ 2
      stayed z n r = on (T y) n r
        where
          on : (u : TypeTerm) → (u ≡ state_type → ⊥) → cond (is_state u) (also y 3 b) b z ≡ 2 → b z ≡ 2
          on int_type n r = r
          on char_type n r = r
          on string_type n r = r
          on state_type n r = absurd (n refl)
          on (variable_type k) n r = r
          on (union_type k ts) n r = r

      other : (u : TypeTerm) → (u ≡ state_type) ⊎ (u ≡ state_type → ⊥)
      other int_type = inr (λ e. no e)
        where
          no : int_type ≡ state_type → ⊥
          no e = cc
      other char_type = inr (λ e. no e)
        where
          no : char_type ≡ state_type → ⊥
          no e = cc
      other string_type = inr (λ e. no e)
        where
          no : string_type ≡ state_type → ⊥
          no e = cc
      other state_type = inl refl
      other (variable_type k) = inr (λ e. no e)
        where
          no : variable_type k ≡ state_type → ⊥
          no e = cc
      other (union_type k ts) = inr (λ e. no e)
        where
          no : union_type k ts ≡ state_type → ⊥
          no e = cc

      before : (z : ℕ) → T z ≡ state_type → cond (is_state (T y)) (also y 3 b) b z ≡ 2 → b z ≡ 2
      before z tz r = ⊎_elim (λ ty. (moved z tz ty r).1) (λ n. stayed z n r) (other (T y))

      told_on : (z : ℕ) (k : Bool) → nat_eq z x ≡ k → In z L → T z ≡ state_type → cond k (b y) (cond (is_state (T y)) (also y 3 b) b z) ≡ 2 → Tells W (cond k (Some v) (e z))
      told_on z true p i tz r = let w = h.tells y ym (sym t ∙ (ap T (sym (eqb-true z x p)) ∙ tz), r) in (w.0, w.1, w.2, sym q ∙ w.3)
      told_on z false p i tz r = h.tells z (lm z i) (tz, before z tz r)

      told : (z : ℕ) → In z L → Live S T (also x (b y) (cond (is_state (T y)) (also y 3 b) b)) z → Tells W (put x v e z)
      told z i l = told_on z (nat_eq z x) refl i l.0 l.1

      both_on : (z w : ℕ) (k m : Bool) → nat_eq z x ≡ k → nat_eq w x ≡ m → In z L → In w L → T z ≡ state_type → T w ≡ state_type → cond k (b y) (cond (is_state (T y)) (also y 3 b) b z) ≡ 2 → cond m (b y) (cond (is_state (T y)) (also y 3 b) b w) ≡ 2 → z ≡ w
      both_on z w true true p p' i j tz tw r r' = eqb-true z x p ∙ sym (eqb-true w x p')
      both_on z w true false p p' i j tz tw r r' =
          let ty : T y ≡ state_type = sym t ∙ (ap T (sym (eqb-true z x p)) ∙ tz) in
          let m = moved w tw ty r' in absurd (m.0 (h.alone w y (lm w j) ym (tw, m.1) (ty, r)))
      both_on z w false true p p' i j tz tw r r' =
          let ty : T y ≡ state_type = sym t ∙ (ap T (sym (eqb-true w x p')) ∙ tw) in
          let m = moved z tz ty r in absurd (m.0 (h.alone z y (lm z i) ym (tz, m.1) (ty, r')))
      both_on z w false false p p' i j tz tw r r' = h.alone z w (lm z i) (lm w j) (tz, before z tz r) (tw, before w tw r')

      both : (z w : ℕ) → In z L → In w L → Live S T (also x (b y) (cond (is_state (T y)) (also y 3 b) b)) z → Live S T (also x (b y) (cond (is_state (T y)) (also y 3 b) b)) w → z ≡ w
      both z w i j l m = both_on z w (nat_eq z x) (nat_eq w x) refl refl i j l.0 m.0 l.1 m.1

  pub assign_moves : (θ : TypeChoice) (W : World) (M L : List ℕ) (b : Insts) (e : Bindings) (x y : ℕ) (v : Val) (o p : Option Val) → e x ≡ o → e y ≡ p → o ≡ None → p ≡ Some v → T x ≡ T y → S.insts (b y) ≢ dead → In y M → Among L M → Holds S T W M b e → Calm (HoldsAfter S T L (Some (also x (b y) (cond (is_state (T y)) (also y 3 b) b))) W) (same_items x y e o p)
  assign_moves θ W M L b e x y v None None ex ey n q t nd ym lm h = tt
  assign_moves θ W M L b e x y v None (Some w) ex ey n q t nd ym lm h = (assigned θ W M L b e x y w t nd ym lm ey h, tt)
  assign_moves θ W M L b e x y v (Some u) p ex ey n q t nd ym lm h = absurd (no n)
    where
      no : Some u ≡ None → ⊥
      no e = cc

  pub assign_shares : (θ : TypeChoice) (M L : List ℕ) (b : Insts) (e : Bindings) (x y : ℕ) (v : Val) (o p : Option Val) → e x ≡ o → e y ≡ p → o ≡ None → p ≡ Some v → T x ≡ T y → S.insts (b y) ≢ dead → In y M → Among L M → SharesAt S T M b e → Calm (SharesAt S T L (also x (b y) (cond (is_state (T y)) (also y 3 b) b))) (same_items x y e o p)
  assign_shares θ M L b e x y v None None ex ey n q t nd ym lm h = tt
  assign_shares θ M L b e x y v None (Some w) ex ey n q t nd ym lm h = (assigned_shares θ M L b e x y w t nd ym lm ey h, tt)
  assign_shares θ M L b e x y v (Some u) p ex ey n q t nd ym lm h = absurd (no n)
    where
      no : Some u ≡ None → ⊥
      no e = cc
