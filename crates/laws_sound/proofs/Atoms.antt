-- The first pass at atoms that are no calls.
use Rattle.std.proofs.Common.{◌≡◌, ◌≢◌, ◌⊎◌, inl, inr, ℕ, ◌≤◌, List, [], ◌∷◌, map, Bool, true, false, cond, not, nat_eq, Option, Some, None, refl, sym, ap, ap₂, ◌∙◌, subst, arith, ⊎_elim}
use Rattle.std.proofs.lemmas.Bool.{eqb-true, not-false}
use Rattle.mc_program.specs.Values.{Val, int, char, str, con, state, Vals, vals, same_value}
use Rattle.mc_program.specs.Programs.{TypeTerm, int_type, char_type, string_type, state_type, variable_type, union_type, TypeTerms}
use Rattle.mc_model.specs.Types.{instance_of, argument_types, OfType, AllOfTypes, IsValue}
use Rattle.mc_model.specs.Insts.{Listed, free, bound, AllowsSymbol, AllowsConstants, Within, AllWithin}
use Rattle.mc_model.specs.Lists.{In}
use Rattle.mc_model.specs.EventList.{Items, End, Answer, Each, EachCall, AtMost, answers, Succeeds, of_option}
use Rattle.mc_model.specs.Stream.{Bindings, put, meet, unify, gather, both, same_items, build_items, made_items}
use Rattle.mc_model.specs.Scheduled.{Label, for_symbol, for_constant}
use Rattle.mc_source.specs.Determinism.{Determinism, det, semidet}
use Rattle.mc_accepted.specs.Ordered.{Insts, also, AllBound, is_state, IsSymbolOver}
use Rattle.mc_accepted.specs.Determined.{Known, knows_symbol, knows_constant}
use Rattle.mc_accepted.specs.Typing.{constructor_types, ConstantOf}
use Rattle.mc_model.specs.Good.{System, TypeChoice, BoundAs, GivenCall}
use Rattle.mc_accepted.specs.ProperTypes.{Parameters, ProperType}
use Rattle.mc_accepted.specs.Fits.{Fits}
use Rattle.laws_sound.specs.code.Passes.{Grows, BindsOnly, TypedAt, Sound, Knows}
use Rattle.mc_source.specs.declared.det.Most.{Most}
use Rattle.mc_source.specs.declared.det.Most.TheVariants.{Zero, One, Many}
use Rattle.laws_sound.proofs.Binds
use Rattle.laws_sound.proofs.Binds.{some_inj, true_not_false}
use Rattle.laws_sound.proofs.Lists
use Rattle.laws_sound.proofs.Typed
use Rattle.laws_sound.proofs.Typed.{bound_is}
use Rattle.laws_sound.proofs.TypeInstances.{IsPlain, arguments_instance}
use Rattle.laws_language.proofs.Equality.{value_same, same_of}

-- what is bound
put_on : (t : Bool) (v w : Val) (o : Option Val) (x y : ℕ) → (t ≡ true → y ≡ x) → cond t (Some v) o ≡ Some w → (o ≡ Some w) ⊎ In y (x ∷ [])
put_on true v w o x y f e = inr (inl (f refl))
put_on false v w o x y f e = inl e

pub put_binds : (x : ℕ) (v : Val) (e : Bindings) → BindsOnly (x ∷ []) e (put x v e)
put_binds x v e y w h = put_on (nat_eq y x) v w (e y) x y (λ q. eqb-true y x q) h

pub binds_none : (xs : List ℕ) (e : Bindings) → BindsOnly xs e e
binds_none xs e y w h = inl h

pub binds_more : (xs ys : List ℕ) (e a : Bindings) → ((x : ℕ) → In x xs → In x ys) → BindsOnly xs e a → BindsOnly ys e a
binds_more xs ys e a f h y w q = ⊎_elim (λ z. inl z) (λ z. inr (f y z)) (h y w q)

pub binds_then : (xs : List ℕ) (e a c : Bindings) → BindsOnly xs e a → BindsOnly xs a c → BindsOnly xs e c
binds_then xs e a c f g y w q = ⊎_elim (λ z. f y w z) (λ z. inr z) (g y w q)

pub meet_binds : (x : ℕ) (v : Val) (e : Bindings) (o : Option Val) → Each (λ a. BindsOnly (x ∷ []) e a) (of_option (meet x v e o))
meet_binds x v e None = (put_binds x v e, tt)
meet_binds x v e (Some w) = Binds.each_cond (λ a. BindsOnly (x ∷ []) e a) (same_value w v) e (λ t. binds_none (x ∷ []) e)

pub unify_binds : (xs : List ℕ) (os : List (Option Val)) (e : Bindings) → Each (λ a. BindsOnly xs e a) (of_option (unify xs os e))
unify_binds [] [] e = (binds_none [] e, tt)
unify_binds [] (v ∷ vs) e = tt
unify_binds (x ∷ xs) [] e = tt
unify_binds (x ∷ xs) (None ∷ vs) e = Binds.each_weaker (λ a. BindsOnly xs e a) (λ a. BindsOnly (x ∷ xs) e a) (unify xs vs e) (λ a h. binds_more xs (x ∷ xs) e a (λ y i. inr i) h) (unify_binds xs vs e)
unify_binds (x ∷ xs) (Some v ∷ vs) e =
    Binds.each_then (λ a. BindsOnly (x ∷ []) e a) (λ a. BindsOnly (x ∷ xs) e a) (meet x v e (e x)) (unify xs vs) (meet_binds x v e (e x))
    (λ a h. Binds.each_weaker (λ c. BindsOnly xs a c) (λ c. BindsOnly (x ∷ xs) e c) (unify xs vs a)
    (λ c k. binds_then (x ∷ xs) e a c (binds_more (x ∷ []) (x ∷ xs) e a (λ y i. ⊎_elim (λ q. inl q) (λ z. absurd z) i) h) (binds_more xs (x ∷ xs) a c (λ y i. inr i) k)) (unify_binds xs vs a))

pub at_most_option : {A : Type 0} (m : Most) (o : Option A) → m ≡ One → AtMost m (of_option o)
at_most_option {A} m None e = subst (λ k. AtMost {A = A} k (of_option None)) (sym e) zero_one
  where
    zero_one : 0 ≤ 1
    zero_one = omega arith
at_most_option {A} m (Some a) e = subst (λ k. AtMost {A = A} k (of_option (Some a))) (sym e) one_one
  where
    one_one : 1 ≤ 1
    one_one = omega arith

pub none_at_most : {A : Type 0} (m : Most) (xs : Items A) → answers xs ≡ 0 → AtMost m xs
none_at_most Zero xs e = e
none_at_most One xs e = omega arith
none_at_most Many xs e = tt

pub calls_option : {A : Type 0} (S : System) (o : Option A) → EachCall (GivenCall S) (of_option o)
calls_option S None = tt
calls_option S (Some a) = tt

-- a constructor's type is a union
pub union_view : (P : Rattle.mc_program.specs.Programs.Source) (s : ℕ) (t : TypeTerm) (us : List TypeTerm) → constructor_types P s t ≡ Some us → (u : ℕ) × (ts : TypeTerms) × (t ≡ union_type u ts) × (argument_types P s (union_type u ts) ≡ Some us)
union_view P s int_type us e = cc
union_view P s char_type us e = cc
union_view P s string_type us e = cc
union_view P s state_type us e = cc
union_view P s (variable_type v) us e = cc
union_view P s (union_type u ts) us e = (u, ts, refl, e)

constant_of : (P : Rattle.mc_program.specs.Programs.Source) (θ : TypeChoice) (v : Val) (t : TypeTerm) → IsValue P v → ConstantOf v t → OfType P v (instance_of θ t)
constant_of P θ (int n) t i c = (i.0, ap (λ k. Rattle.mc_model.specs.Types.takes int_type (instance_of θ k)) c)
constant_of P θ (char n) t i c = (i.0, ap (λ k. Rattle.mc_model.specs.Types.takes char_type (instance_of θ k)) c)
constant_of P θ (str n) t i c = (i.0, ap (λ k. Rattle.mc_model.specs.Types.takes string_type (instance_of θ k)) c)
constant_of P θ (con s vs) t i c = absurd c
constant_of P θ (state w k) t i c = absurd c

module _ (S : System) (D : Parameters) (F : Fits S D) (θ : TypeChoice) (T : ℕ → TypeTerm) (proper : (x : ℕ) → ProperType D (T x)) (known : Known) (L : List ℕ) where
  pub sound_option : (vs : List ℕ) (e : Bindings) (b : Insts) (d : Determinism) (o : Option Bindings) → d.most ≡ One → Each (λ a. Grows e a) (of_option o) → Each (λ a. BindsOnly vs e a) (of_option o) → Each (TypedAt S θ T L b) (of_option o) → (Knows known e → d.can_fail ≡ false → Succeeds (of_option o)) →
      Sound S θ T known L vs e (Some b) d (of_option o)
  sound_option vs e b d o m x y t s =
      record {
        each = Lists.each_both (λ a. Grows e a) (λ a. BindsOnly vs e a × TypedAt S θ T L b a) (of_option o) x (Lists.each_both (λ a. BindsOnly vs e a) (TypedAt S θ T L b) (of_option o) y t);
        calls = calls_option S o;
        count = λ k. at_most_option d.most o m;
        sure = s;
      }

  pub sound_none : (vs : List ℕ) (e : Bindings) (o : Option Insts) (d : Determinism) → (Knows known e → d.can_fail ≡ false → ⊥) → Sound S θ T known L vs e o d End
  sound_none vs e o d n = record { each = tt; calls = tt; count = λ k. none_at_most d.most End refl; sure = n }

  pub sound_put : (vs : List ℕ) (e : Bindings) (x : ℕ) (w : Val) (c : Insts) (d : Determinism) → d.most ≡ One → In x vs → e x ≡ None → TypedAt S θ T L c (put x w e) → Sound S θ T known L vs e (Some c) d (Answer (put x w e) End)
  sound_put vs e x w c d m i n t =
      record {
        each = ((Binds.put_extends x w e n, (binds_more (x ∷ []) vs e (put x w e) (λ y j. ⊎_elim (λ q. subst (λ z. In z vs) (sym q) i) (λ z. absurd z) j) (put_binds x w e), t)), tt);
        calls = tt;
        count = λ k. at_most_option d.most (Some (put x w e)) m;
        sure = λ k q. tt;
      }

  dead_bound : (t : TypeTerm) (i : ℕ) (w : Val) → BoundAs S θ i t (Some w) → BoundAs S θ 3 t (Some w)
  dead_bound t i w h = Typed.plain_bound S D F θ 3 t w (λ e. no e) (subst IsPlain (sym F.insts.is_dead) tt) h.1
    where
      no : (◌≡◌ {A = ℕ} 3 0) → ⊥
      no e = omega arith

  dies_typed : (t : Bool) (b : Insts) (e : Bindings) (y : ℕ) (w : Val) → e y ≡ Some w → BoundAs S θ (b y) (T y) (Some w) → TypedAt S θ T L b e → TypedAt S θ T L (cond t (also y 3 b) b) e
  dies_typed true b e y w q h t = Typed.known_typed S D F θ T proper L b e y 3 w q (dead_bound (T y) (b y) w h) t
  dies_typed false b e y w q h t = t

  pub assign_sound : (b : Insts) (e : Bindings) (x y : ℕ) → b x ≡ 0 → b y ≢ 0 → T x ≡ T y → TypedAt S θ T (x ∷ y ∷ []) b e → TypedAt S θ T L b e → Sound S θ T known L (x ∷ y ∷ []) e (Some (also x (b y) (cond (is_state (T y)) (also y 3 b) b))) det (same_items x y e (e x) (e y))
  assign_sound b e x y n m t u l =
      let p = Typed.free_at S D F θ (b x) (T x) (e x) n (u x (inl refl)) in
      let w = Typed.bound_at S D F θ (b y) (T y) (e y) m (u y (inr (inl refl))) in
      subst (λ o. Sound S θ T known L (x ∷ y ∷ []) e (Some (also x (b y) (cond (is_state (T y)) (also y 3 b) b))) det (same_items x y e o (e y))) (sym p)
      (subst (λ o. Sound S θ T known L (x ∷ y ∷ []) e (Some (also x (b y) (cond (is_state (T y)) (also y 3 b) b))) det (same_items x y e None o)) (sym w.1)
      (sound_put (x ∷ y ∷ []) e x w.0 (also x (b y) (cond (is_state (T y)) (also y 3 b) b)) det refl (inl refl) p
      (Typed.put_typed S D F θ T proper L (cond (is_state (T y)) (also y 3 b) b) e x (b y) w.0 (subst (λ k. BoundAs S θ (b y) k (Some w.0)) (sym t) w.2) (dies_typed (is_state (T y)) b e y w.0 w.1 w.2 l))))

  pub sound_test : (vs : List ℕ) (b : Insts) (e : Bindings) (t : Bool) (d : Determinism) → d.most ≡ One → (Knows known e → d.can_fail ≡ false → t ≡ true) → TypedAt S θ T L b e → Sound S θ T known L vs e (Some b) d (of_option (cond t (Some e) None))
  sound_test vs b e t d m s l =
      sound_option vs e b d (cond t (Some e) None) m (Binds.each_cond (λ a. Grows e a) t e (λ q. Binds.extends_refl e)) (Binds.each_cond (λ a. BindsOnly vs e a) t e (λ q. binds_none vs e)) (Binds.each_cond (TypedAt S θ T L b) t e (λ q. l)) (λ k q. Binds.succeeds_cond t e (s k q))

  pub test_sound : (vs : List ℕ) (b : Insts) (e : Bindings) (x y : ℕ) → b x ≢ 0 → b y ≢ 0 → TypedAt S θ T (x ∷ y ∷ []) b e → TypedAt S θ T L b e → Sound S θ T known L vs e (Some b) semidet (same_items x y e (e x) (e y))
  test_sound vs b e x y n m u l =
      let v = Typed.bound_at S D F θ (b x) (T x) (e x) n (u x (inl refl)) in
      let w = Typed.bound_at S D F θ (b y) (T y) (e y) m (u y (inr (inl refl))) in
      subst (λ o. Sound S θ T known L vs e (Some b) semidet (same_items x y e o (e y))) (sym v.1)
      (subst (λ o. Sound S θ T known L vs e (Some b) semidet (same_items x y e (Some v.0) o)) (sym w.1)
      (sound_test vs b e (same_value v.0 w.0) semidet refl (λ k q. absurd (true_not_false q)) l))

  -- building
  pub gather_typed : (ys : List ℕ) (b : Insts) (e : Bindings) → AllBound ys b → TypedAt S θ T ys b e → (vs : List Val) × (gather ys e ≡ Some vs) × AllOfTypes S.world.source (vals vs) (Some (map (instance_of θ) (map T ys))) × AllWithin S.world.source S.insts (vals vs) (map b ys)
  gather_typed [] b e a u = ([], refl, tt, tt)
  gather_typed (y ∷ ys) b e a u =
      let v = Typed.bound_at S D F θ (b y) (T y) (e y) (bound_is (b y) a.0) (u y (inl refl)) in
      let r = gather_typed ys b e a.1 (λ z j. u z (inr j)) in
      (v.0 ∷ r.0, ap₂ both v.1 r.1, (v.2.1, r.2), (v.2.2, r.3))

  bound_free : (i : ℕ) (ls : List Listed) → S.insts i ≡ bound ls → i ≢ 0
  bound_free i ls e z = no (sym (Typed.zero_free S D F i z) ∙ e)
    where
      no : free ≡ bound ls → ⊥
      no e = cc

  -- a value over arguments of their insts is of the inst of its symbol over those
  pub symbol_bound : (i s : ℕ) (is : List ℕ) (vs : Vals) (t : TypeTerm) → IsSymbolOver S T i s is → OfType S.world.source (con s vs) (instance_of θ t) → AllWithin S.world.source S.insts vs is → BoundAs S θ i t (Some (con s vs))
  symbol_bound i s is vs t e o w = (bound_free i _ e, o, subst (λ N. AllowsSymbol S.world.source N i s (AllWithin S.world.source S.insts vs)) (sym e) (inl (refl, refl, w)))

  pub con_type : (s : ℕ) (vs : Vals) (t : TypeTerm) (us : List TypeTerm) → ProperType D t → constructor_types S.world.source s t ≡ Some us → AllOfTypes S.world.source vs (Some (map (instance_of θ) us)) → OfType S.world.source (con s vs) (instance_of θ t)
  con_type s vs t us p c o =
      let r = union_view S.world.source s t us c in
      subst (λ k. OfType S.world.source (con s vs) (instance_of θ k)) (sym r.2) (subst (λ k. AllOfTypes S.world.source vs k) (sym (arguments_instance S D F s r.0 r.1 θ us (subst (λ k. ProperType D k) r.2 p) r.3)) o)

  pub type_con : (s : ℕ) (vs : Vals) (t : TypeTerm) (us : List TypeTerm) → ProperType D t → constructor_types S.world.source s t ≡ Some us → OfType S.world.source (con s vs) (instance_of θ t) → AllOfTypes S.world.source vs (Some (map (instance_of θ) us))
  type_con s vs t us p c o =
      let r = union_view S.world.source s t us c in
      subst (λ k. AllOfTypes S.world.source vs k) (arguments_instance S D F s r.0 r.1 θ us (subst (λ k. ProperType D k) r.2 p) r.3) (subst (λ k. OfType S.world.source (con s vs) (instance_of θ k)) r.2 o)

  pub build_sound : (b : Insts) (e : Bindings) (x s i : ℕ) (ys : List ℕ) → b x ≡ 0 → AllBound ys b → IsSymbolOver S T i s (map b ys) → constructor_types S.world.source s (T x) ≡ Some (map T ys) → TypedAt S θ T (x ∷ ys) b e → TypedAt S θ T L b e → Sound S θ T known L (x ∷ ys) e (Some (also x i b)) det (made_items x s ys e (e x))
  build_sound b e x s i ys n a w c u l =
      let p = Typed.free_at S D F θ (b x) (T x) (e x) n (u x (inl refl)) in
      let r = gather_typed ys b e a (λ z j. u z (inr j)) in
      subst (λ o. Sound S θ T known L (x ∷ ys) e (Some (also x i b)) det (made_items x s ys e o)) (sym p)
      (subst (λ o. Sound S θ T known L (x ∷ ys) e (Some (also x i b)) det (build_items x s e o)) (sym r.1)
      (sound_put (x ∷ ys) e x (con s (vals r.0)) (also x i b) det refl (inl refl) p
      (Typed.put_typed S D F θ T proper L b e x i (con s (vals r.0)) (symbol_bound i s (map b ys) (vals r.0) (T x) w (con_type s (vals r.0) (T x) (map T ys) (proper x) c r.2) r.3) l)))

  -- constants
  pub const_sound : (b : Insts) (e : Bindings) (x : ℕ) (v : Val) → b x ≡ 0 → IsValue S.world.source v → ConstantOf v (T x) → TypedAt S θ T (x ∷ []) b e → TypedAt S θ T L b e → Sound S θ T known L (x ∷ []) e (Some (also x 1 b)) det (of_option (meet x v e (e x)))
  const_sound b e x v n i c u l =
      let p = Typed.free_at S D F θ (b x) (T x) (e x) n (u x (inl refl)) in
      subst (λ o. Sound S θ T known L (x ∷ []) e (Some (also x 1 b)) det (of_option (meet x v e o))) (sym p)
      (sound_put (x ∷ []) e x v (also x 1 b) det refl (inl refl) p
      (Typed.put_typed S D F θ T proper L b e x 1 v (Typed.plain_bound S D F θ 1 (T x) v (λ e. no e) (subst IsPlain (sym F.insts.is_ground) tt) (constant_of S.world.source θ v (T x) i c)) l))
    where
      no : (◌≡◌ {A = ℕ} 1 0) → ⊥
      no e = omega arith

  -- a constant that is known is that of the value
  pub known_constant : (e : Bindings) (x : ℕ) (v w : Val) → e x ≡ Some w → Knows known e → knows_constant (known x) v ≡ true → w ≡ v
  known_constant e x v w q k h = on (known x) refl h
    where
      on : (o : Option Label) → known x ≡ o → knows_constant o v ≡ true → w ≡ v
      on None r h = absurd (true_not_false (sym h))
      on (Some (for_symbol f)) r h = absurd (true_not_false (sym h))
      on (Some (for_constant u)) r h = let z = k x (for_constant u) r in some_inj w z.0 (sym q ∙ z.1) ∙ (z.2 ∙ value_same u v h)

  pub known_symbol : (e : Bindings) (x s : ℕ) (w : Val) → e x ≡ Some w → Knows known e → knows_symbol (known x) s ≡ true → (vs : Vals) × (w ≡ con s vs)
  known_symbol e x s w q k h = on (known x) refl h
    where
      on : (o : Option Label) → known x ≡ o → knows_symbol o s ≡ true → (vs : Vals) × (w ≡ con s vs)
      on None r h = absurd (true_not_false (sym h))
      on (Some (for_symbol f)) r h = let z = k x (for_symbol f) r in (z.2.0, some_inj w z.0 (sym q ∙ z.1) ∙ (z.2.1 ∙ ap (λ j. con j z.2.0) (eqb-true f s h)))
      on (Some (for_constant u)) r h = absurd (true_not_false (sym h))

  pub test_constant_sound : (b : Insts) (e : Bindings) (x : ℕ) (v : Val) → b x ≢ 0 → TypedAt S θ T (x ∷ []) b e → TypedAt S θ T L b e → Sound S θ T known L (x ∷ []) e (Some b) (record { can_fail = not (knows_constant (known x) v); most = One }) (of_option (meet x v e (e x)))
  test_constant_sound b e x v n u l =
      let w = Typed.bound_at S D F θ (b x) (T x) (e x) n (u x (inl refl)) in
      subst (λ o. Sound S θ T known L (x ∷ []) e (Some b) (record { can_fail = not (knows_constant (known x) v); most = One }) (of_option (meet x v e o))) (sym w.1)
      (sound_test (x ∷ []) b e (same_value w.0 v) (record { can_fail = not (knows_constant (known x) v); most = One }) refl (λ k q. same_of w.0 v (known_constant e x v w.0 w.1 k (not-false (knows_constant (known x) v) q))) l)

  pub constant_within : (i : ℕ) (v : Val) (t : TypeTerm) → ConstantOf v t → Within S.world.source S.insts v i → AllowsConstants (S.insts i)
  constant_within i (int n) t c w = w
  constant_within i (char n) t c w = w
  constant_within i (str n) t c w = w
  constant_within i (con s vs) t c w = absurd c
  constant_within i (state o k) t c w = absurd c

  pub test_never_sound : (b : Insts) (e : Bindings) (x : ℕ) (v : Val) → b x ≢ 0 → ConstantOf v (T x) → (AllowsConstants (S.insts (b x)) → ⊥) → TypedAt S θ T (x ∷ []) b e → Sound S θ T known L (x ∷ []) e None (record { can_fail = not (knows_constant (known x) v); most = One }) (of_option (meet x v e (e x)))
  test_never_sound b e x v n c a u =
      let w = Typed.bound_at S D F θ (b x) (T x) (e x) n (u x (inl refl)) in
      let differ : w.0 ≡ v → ⊥ = λ q. a (constant_within (b x) v (T x) c (subst (λ k. Within S.world.source S.insts k (b x)) q w.2.2)) in
      subst (λ o. Sound S θ T known L (x ∷ []) e None (record { can_fail = not (knows_constant (known x) v); most = One }) (of_option (meet x v e o))) (sym w.1)
      (on w.0 (same_value w.0 v) refl differ (λ k q. differ (known_constant e x v w.0 w.1 k (not-false (knows_constant (known x) v) q))))
    where
      on : (w : Val) (t : Bool) → same_value w v ≡ t → (w ≡ v → ⊥) → (Knows known e → not (knows_constant (known x) v) ≡ false → ⊥) → Sound S θ T known L (x ∷ []) e None (record { can_fail = not (knows_constant (known x) v); most = One }) (of_option (cond t (Some e) None))
      on w true q f g = absurd (f (value_same w v q))
      on w false q f g = sound_none (x ∷ []) e None (record { can_fail = not (knows_constant (known x) v); most = One }) g
