-- Each equation moves the world as it should.
use Rattle.std.proofs.Common.{◌≡◌, ◌≢◌, inl, inr, ℕ, ◌<◌, List, ◌∷◌, length, map, Bool, true, false, cond, nat_eq, Option, Some, None, refl, sym, ap, ◌∙◌, arith, subst}
use Rattle.mc_program.specs.Programs.{TypeTerm}
use Rattle.mc_model.specs.Lists.{In, Among}
use Rattle.mc_model.specs.Flat.{Flat_goal, variables_of}
use Rattle.mc_model.specs.Stream.{Bindings, Calls, meet, made_items, same_items, stream_of}
use Rattle.mc_model.specs.Scheduled.{Scheduled, Assign, Test, Build, Take, Const, TestConst}
use Rattle.mc_accepted.specs.Ordered.{Insts, also, take_all, is_state, Ordered}
use Rattle.mc_accepted.specs.Determined.{Known}
use Rattle.mc_accepted.specs.Typing.{TypedGoal}
use Rattle.mc_model.specs.Good.{System, TypeChoice}
use Rattle.mc_accepted.specs.ProperTypes.{Parameters, ProperType}
use Rattle.mc_accepted.specs.Fits.{Fits}
use Rattle.laws_sound.specs.code.Passes.{Closed, TypedAt, CallsSound}
use Rattle.laws_sound.specs.code.Moves.{Calm, World, Holds, HoldsAfter}
use Rattle.mc_accepted.specs.Ordered as O
use Rattle.laws_sound.proofs.MoveArms.{quiet_same, quiet_made, quiet_option}
use Rattle.mc_program.specs.Values.{Val, int, char, str, con, state, listed}
use Rattle.mc_model.specs.Insts.{dead, AllowsSymbol, AllWithin}
use Rattle.mc_model.specs.EventList.{of_option}
use Rattle.mc_model.specs.Good.{BoundAs}
use Rattle.mc_source.specs.Determinism.{Determinism}
use Rattle.mc_accepted.specs.Ordered.{IsSymbolOver}
use Rattle.mc_accepted.specs.Determined.{take_determinism}
use Rattle.mc_accepted.specs.Typing.{constructor_types}
use Rattle.mc_model.specs.Stream.{unify, gather}
use Rattle.laws_sound.specs.code.Passes.{Sound}
use Rattle.laws_sound.specs.code.Moves.{Shares, SharesAt}
use Rattle.std.proofs.lemmas.Bool.{eqb-true}
use Rattle.laws_language.proofs.Inclusions.{allows_over, over_one}
use Rattle.laws_sound.proofs.Atoms
use Rattle.laws_sound.proofs.MoveLists
use Rattle.laws_sound.proofs.Opens.{Loose}
use Rattle.laws_sound.proofs.MoveShares.{argument_shares, argument_below, con_shares, each_allows, take_live, unify_shares, known_shares, build_shares, meet_shares, ground_allows}
use Rattle.laws_sound.proofs.MoveAtoms
use Rattle.laws_sound.proofs.MoveAtoms.{StillAfter, also_none, still_after, same_after, never_after, still_holds, assign_moves, assign_shares, not_unique}
use Rattle.laws_sound.proofs.Sound as Sounds
use Rattle.laws_sound.proofs.Typed

-- an equation that assigns nothing
abbrev pub IsTested : Scheduled → Type 0
IsTested (Test x y) = Unit {0}
IsTested (Build x s ys) = Unit {0}
IsTested (Take x s ys) = Unit {0}
IsTested (Const x v) = Unit {0}
IsTested (TestConst x v) = Unit {0}
IsTested s = ⊥

one_two : (◌≡◌ {A = ℕ} 1 2) → ⊥
one_two e = omega arith

module _ (S : System) (D : Parameters) (F : Fits S D) (C : Calls) (called : CallsSound S C) (lined : (k : ℕ) → k < S.count → length (S.procs k).first ≡ length (S.procs k).last) (T : ℕ → TypeTerm) (proper : (x : ℕ) → ProperType D (T x)) (θ : TypeChoice) where
  -- a deconstruction leaves no new variable that may be used alone
  take_after : (known : Known) (L : List ℕ) (b : Insts) (e : Bindings) (x s j : ℕ) (ys is : List ℕ) (d : Determinism) → b x ≢ 0 → S.insts (b x) ≢ dead → AllowsSymbol S.world.source (S.insts (b x)) (b x) s (λ js. js ≡ is) → IsSymbolOver S T j s is → constructor_types S.world.source s (T x) ≡ Some (map T ys) → TypedAt S θ T (x ∷ ys) b e → TypedAt S θ T L b e →
      (M : List ℕ) → SharesAt S T M b e → In x M → Among L M → (w : Val) → e x ≡ Some w → BoundAs S θ (b x) (T x) (Some w) → Sound S θ T known L (x ∷ ys) e (Some (take_all ys is (also x j b))) d (made_items x s ys e (Some w)) → Calm (StillAfter S D F T L b e (Some (take_all ys is (also x j b)))) (made_items x s ys e (Some w))
  take_after known L b e x s j ys is d n nd a io c u l M sm xm lm (int m) q h so = tt
  take_after known L b e x s j ys is d n nd a io c u l M sm xm lm (char m) q h so = tt
  take_after known L b e x s j ys is d n nd a io c u l M sm xm lm (str m) q h so = tt
  take_after known L b e x s j ys is d n nd a io c u l M sm xm lm (state m k) q h so = tt
  take_after known L b e x s j ys is d n nd a io c u l M sm xm lm (con g vs) q h so = on (nat_eq s g) refl so
    where
      on : (t : Bool) → nat_eq s g ≡ t → Sound S θ T known L (x ∷ ys) e (Some (take_all ys is (also x j b))) d (of_option (cond t (unify ys (map Some (listed vs)) e) None)) → Calm (StillAfter S D F T L b e (Some (take_all ys is (also x j b)))) (of_option (cond t (unify ys (map Some (listed vs)) e) None))
      on false t so = tt
      on true t so =
          let gs = eqb-true s g t in
          let q' : e x ≡ Some (con s vs) = q ∙ ap (λ k. Some (con k vs)) (sym gs) in
          let h' : BoundAs S θ (b x) (T x) (Some (con s vs)) = subst (λ k. BoundAs S θ (b x) (T x) (Some (con k vs))) (sym gs) h in
          let r = allows_over S.world.source (S.insts (b x)) (b x) s (AllWithin S.world.source S.insts vs) h'.2 in
          let ws = subst (λ ks. AllWithin S.world.source S.insts vs ks) (over_one S.world.source (S.insts (b x)) (b x) s r.0 is (F.insts.proper (b x)) r.1 a) r.2 in
          let os = Atoms.type_con S D F θ T proper known L s vs (T x) (map T ys) (proper x) c h'.1 in
          let xb = Atoms.symbol_bound S D F θ T proper known L j s is vs (T x) io h'.1 ws in
          let sx = sm x xm nd (con s vs) q' in
          let arg = argument_shares S.world.source S.insts s vs (b x) (T x) is (F.insts.proper (b x)) a sx in
          let ea = each_allows S D F θ T vs is arg in
          let sj : Shares S.world.source S.insts (con s vs) j (T x) = con_shares S.world.source S.insts s vs j (T x) is (subst (λ N. AllowsSymbol S.world.source N j s (λ js. js ≡ is)) (sym io) (inl (refl, refl, refl))) (λ k path y. (argument_below S.world.source S.insts vs is ws k path y, arg k path y)) in
          let nj : j ≡ 2 → ⊥ = λ z. not_unique S D F T j _ io z in
          still_after S D F T θ known L (x ∷ ys) e b (take_all ys is (also x j b)) d (of_option (unify ys (map Some (listed vs)) e)) so (quiet_option (unify ys (map Some (listed vs)) e))
          (λ z i v. also_none S D F T L b x j nj z i (v.0, take_live S D F θ T ys is vs (also x j b) os ea z v.0 v.1))
          (MoveAtoms.each_is_loose (SharesAt S T L (take_all ys is (also x j b))) (of_option (unify ys (map Some (listed vs)) e))
          (unify_shares S D F θ T proper L ys is vs (also x j b) e (Typed.allows_free S D F (b x) s is n a) os ws ea (known_shares S D F θ T L b e x j (con s vs) q' (λ z. sj) (λ z i. sm z (lm z i))) (Typed.known_typed S D F θ T proper ys b e x j (con s vs) q' xb (λ y k. u y (inr k)))))

  -- an equation that assigns nothing makes no variable live
  pub equation_still : {O Q : List ℕ} {b : Insts} {g : Flat_goal} {s : Scheduled} {o : Option Insts} → Ordered S T O Q b g s o → IsTested s → TypedGoal S.world.source T g → (known : Known) (h : ℕ) →
      (L : List ℕ) → Among L O → (e : Bindings) → Closed O Q b e → TypedAt S θ T (variables_of g) b e → TypedAt S θ T L b e →
      (M : List ℕ) → SharesAt S T M b e → Among L M → Among (variables_of g) M → Calm (StillAfter S D F T L b e o) (stream_of S.world.outcome C h s e)
  equation_still (O.assign n m a) i tg known h L u e cl ty li M sm lm gm = absurd i
  equation_still (O.assign_back n m a) i tg known h L u e cl ty li M sm lm gm = absurd i
  equation_still (O.test {b = b} {x = x} {y = y} n m s a) i tg known h L u e cl ty li M sm lm gm =
      same_after S D F T θ known L _ e b _ (same_items x y e (e x) (e y)) (Sounds.sound S D F C called lined T proper θ (O.test n m s a) tg known h L u e cl ty li) (quiet_same x y e (e x) (e y)) li M sm lm
  equation_still (O.build {b = b} {x = x} {s = s} {i = j} {ys = ys} n a m d w) i tg known h L u e cl ty li M sm lm gm =
      still_after S D F T θ known L _ e b (also x j b) _ (made_items x s ys e (e x)) (Sounds.sound S D F C called lined T proper θ (O.build n a m d w) tg known h L u e cl ty li) (quiet_made x s ys e (e x)) (also_none S D F T L b x j (λ q. not_unique S D F T j _ w q))
      (subst (λ z. Loose (SharesAt S T L (also x j b)) (made_items x s ys e z)) (sym (Typed.free_at S D F θ (b x) (T x) (e x) n (ty x (inl refl)))) (build_shares S D F θ T L ys b e x s j w m d (λ z i. sm z (gm z (inr i))) (λ z i. sm z (lm z i)) (gather ys e) refl))
  equation_still (O.take {b = b} {x = x} {s = s} {i = j} {ys = ys} {is = is} n d a w) i tg known h L u e cl ty li M sm lm gm =
      let v = Typed.bound_at S D F θ (b x) (T x) (e x) n (ty x (inl refl)) in
      let so = Sounds.sound S D F C called lined T proper θ (O.take n d a w) tg known h L u e cl ty li in
      subst (λ o. Calm (StillAfter S D F T L b e (Some (take_all ys is (also x j b)))) (made_items x s ys e o)) (sym v.1)
      (take_after known L b e x s j ys is (take_determinism S T b known x s ys) n d.0 a w tg ty li M sm (gm x (inl refl)) lm v.0 v.1 v.2 (subst (λ o. Sound S θ T known L (x ∷ ys) e (Some (take_all ys is (also x j b))) (take_determinism S T b known x s ys) (made_items x s ys e o)) v.1 so))
  equation_still (O.take_never {b = b} {x = x} {s = s} {ys = ys} n d a) i tg known h L u e cl ty li M sm lm gm =
      never_after S D F T θ known L _ e b _ (made_items x s ys e (e x)) (Sounds.sound S D F C called lined T proper θ (O.take_never n d a) tg known h L u e cl ty li) (quiet_made x s ys e (e x))
  equation_still (O.put {b = b} {x = x} {v = v} n) i tg known h L u e cl ty li M sm lm gm =
      still_after S D F T θ known L _ e b (also x 1 b) _ _ (Sounds.sound S D F C called lined T proper θ (O.put n) tg known h L u e cl ty li) (quiet_option (meet x v e (e x))) (also_none S D F T L b x 1 one_two) (MoveAtoms.each_is_loose (SharesAt S T L (also x 1 b)) (of_option (meet x v e (e x))) (meet_shares S D F θ T L b x 1 v e (e x) refl (λ path z. inr (ground_allows S.world.source S.insts F.types.arities v 1 F.insts.is_ground tg.0 path z)) (λ z i. sm z (lm z i))))
  equation_still (O.test_constant {b = b} {x = x} {v = v} n d a) i tg known h L u e cl ty li M sm lm gm =
      same_after S D F T θ known L _ e b _ _ (Sounds.sound S D F C called lined T proper θ (O.test_constant n d a) tg known h L u e cl ty li) (quiet_option (meet x v e (e x))) li M sm lm
  equation_still (O.test_never {b = b} {x = x} {v = v} n d a) i tg known h L u e cl ty li M sm lm gm =
      never_after S D F T θ known L _ e b _ _ (Sounds.sound S D F C called lined T proper θ (O.test_never n d a) tg known h L u e cl ty li) (quiet_option (meet x v e (e x)))
  equation_still (O.call l us d a) i tg known h L u e cl ty li M sm lm gm = absurd i
  equation_still (O.apply q us d k a) i tg known h L u e cl ty li M sm lm gm = absurd i
  equation_still (O.implied_alone r) i tg known h L u e cl ty li M sm lm gm = absurd i
  equation_still (O.conj r) i tg known h L u e cl ty li M sm lm gm = absurd i
  equation_still (O.disj r j) i tg known h L u e cl ty li M sm lm gm = absurd i
  equation_still (O.switch n k r j) i tg known h L u e cl ty li M sm lm gm = absurd i
  equation_still (O.ite a rc bn rt re jn) i tg known h L u e cl ty li M sm lm gm = absurd i
  equation_still (O.ite_never a rc m re jn) i tg known h L u e cl ty li M sm lm gm = absurd i
  equation_still (O.neg r m) i tg known h L u e cl ty li M sm lm gm = absurd i
  equation_still (O.some a r) i tg known h L u e cl ty li M sm lm gm = absurd i

  -- so what holds the world before holds it after
  pub tested_moves : {O Q : List ℕ} {b : Insts} {g : Flat_goal} {s : Scheduled} {o : Option Insts} → Ordered S T O Q b g s o → IsTested s → TypedGoal S.world.source T g → (known : Known) (h : ℕ) →
      (L : List ℕ) → Among L O → (e : Bindings) → Closed O Q b e → TypedAt S θ T (variables_of g) b e → TypedAt S θ T L b e →
      (W : World) (M : List ℕ) → Holds S T W M b e → Among L M → Among (variables_of g) M → Calm (HoldsAfter S T L o W) (stream_of S.world.outcome C h s e)
  tested_moves {b = b} {s = s} {o = o} r i tg known h L u e cl ty li W M hw lm gm =
      MoveLists.calm_map (StillAfter S D F T L b e o) (HoldsAfter S T L o W) (λ a z. still_holds S D F T W M L b e o lm hw a z) (stream_of S.world.outcome C h s e) (equation_still r i tg known h L u e cl ty li M hw.shares lm gm)

  -- an assignment passes the state on
  pub assign_goal : {b : Insts} {x y : ℕ} → b x ≡ 0 → b y ≢ 0 → S.insts (b y) ≢ dead → T x ≡ T y → (h : ℕ) (L : List ℕ) (e : Bindings) → BoundAs S θ (b x) (T x) (e x) → BoundAs S θ (b y) (T y) (e y) → (W : World) (M : List ℕ) → Holds S T W M b e → Among L M → In y M → Calm (HoldsAfter S T L (Some (also x (b y) (cond (is_state (T y)) (also y 3 b) b))) W) (stream_of S.world.outcome C h (Assign x y) e)
  assign_goal {b = b} {x = x} {y = y} n m nd t h L e tx ty W M hw lm ym =
      let w = Typed.bound_at S D F θ (b y) (T y) (e y) m ty in
      assign_moves S D F T θ W M L b e x y w.0 (e x) (e y) refl refl (Typed.free_at S D F θ (b x) (T x) (e x) n tx) w.1 t nd ym lm hw

  -- and the states that it holds
  pub assign_goal_shares : {b : Insts} {x y : ℕ} → b x ≡ 0 → b y ≢ 0 → S.insts (b y) ≢ dead → T x ≡ T y → (h : ℕ) (L : List ℕ) (e : Bindings) → BoundAs S θ (b x) (T x) (e x) → BoundAs S θ (b y) (T y) (e y) → (M : List ℕ) → SharesAt S T M b e → Among L M → In y M → Calm (SharesAt S T L (also x (b y) (cond (is_state (T y)) (also y 3 b) b))) (stream_of S.world.outcome C h (Assign x y) e)
  assign_goal_shares {b = b} {x = x} {y = y} n m nd t h L e tx ty M sm lm ym =
      let w = Typed.bound_at S D F θ (b y) (T y) (e y) m ty in
      assign_shares S D F T θ M L b e x y w.0 (e x) (e y) refl refl (Typed.free_at S D F θ (b x) (T x) (e x) n tx) w.1 t nd ym lm sm
