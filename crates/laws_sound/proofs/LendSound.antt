-- The pass of what is lent: a goal that takes no state is calm, and makes none.
use Rattle.std.proofs.Common.{◌≡◌, ◌≢◌, ◌⊎◌, inl, inr, ℕ, ◌<◌, List, [], ◌∷◌, ◌++◌, length, map, Bool, true, false, cond, nat_eq, ◌||◌, ◌&&◌, Option, Some, None, refl, sym, ap, ◌∙◌, subst, arith, ⊎_elim}
use Rattle.std.proofs.lemmas.Bool.{eqb-true, or_parts}
use Rattle.mc_program.specs.Values.{Val}
use Rattle.mc_program.specs.Programs.{TypeTerm, state_type}
use Rattle.mc_model.specs.Insts.{dead}
use Rattle.mc_model.specs.Flat.{Flat_goal, Flat_goals, variables_of, variables_of_all, free_in}
use Rattle.mc_model.specs.Lists.{without, In, Among}
use Rattle.mc_model.specs.EventList.{Items, End, Stuck, Stopped, Answer, Called, Wrote, Read, Each, Succeeds}
use Rattle.mc_model.specs.Stream.{Bindings, Calls, is_bound, stream, stream_of, stream_all, stream_any, stream_arms}
use Rattle.mc_model.specs.Scheduled.{Node, node, Scheduled, Ite, Assign, Call, Apply, Nodes, Arms}
use Rattle.mc_source.specs.Determinism.{Determinism}
use Rattle.mc_model.specs.Outcomes.{inputs_of}
use Rattle.mc_accepted.specs.Ordered.{Insts, Mode, arm_goal, zipped, also, is_state, Usable, After, Joined, reachable, TestsInOrder, implied_places, modes_of, modes_of_procedure, firsts, unless_never, builtin_most, at_inputs, at_outputs, tested_by, Ordered, OrderedNode, OrderedAll, OrderedAny, OrderedArms, variables_of_node, variables_of_nodes}
use Rattle.mc_accepted.specs.Determined.{Known, learned, insts_after, determined, determined_in, is_io, is_io_in, one_is_io, arm_is_io, is_dead, leaves_dead, is_io_builtin, none_fails, IoPlaced, IoPlacedIn, IoAllPlaced, IoEachPlaced, IoArmsPlaced}
use Rattle.mc_accepted.specs.Typing.{TypedGoal, TypedGoals}
use Rattle.mc_accepted.specs.BuiltinTypes.{Library_types}
use Rattle.mc_model.specs.Good.{System, TypeChoice, BoundAs, types_of}
use Rattle.mc_accepted.specs.ProperTypes.{Parameters, ProperType}
use Rattle.mc_accepted.specs.Fits.{Fits}
use Rattle.laws_sound.specs.code.Passes.{Grows, BindsOnly, Closed, Knows, TypedAt, Reached, Sound, CallsSound}
use Rattle.mc_accepted.specs.IoFits.{FitsIo}
use Rattle.laws_sound.specs.code.Moves.{Never, Calm, Live, SharesAt, TakenAt, CallsLend, TidyProcedures, Lends, Lent, all_lent, LiveWithin, LentAfter, Alive, Survives, AliveAfter}
use Rattle.mc_accepted.specs.Ordered as O
use Rattle.mc_model.specs.Flat as G
use Rattle.mc_program.specs.declared.builtin.Builtin.{Builtin}
use Rattle.mc_source.specs.declared.det.Most.{Most}
use Rattle.mc_source.specs.declared.det.Most.TheVariants.{Zero, One, Many}
use Rattle.laws_sound.proofs.Arguments
use Rattle.laws_sound.proofs.Callings
use Rattle.laws_sound.proofs.Changes.{node_after, closed_after, closed_more, node_from, apply_from}
use Rattle.laws_sound.proofs.Combine
use Rattle.laws_sound.proofs.Combine.{among_left, among_both, among_two, knows_more}
use Rattle.laws_sound.proofs.LendDead.{StaysDead, merged_dead, fewer_dead, all_dead, node_dead}
use Rattle.laws_sound.proofs.MoveArms.{calm_pruned, opens_calm}
use Rattle.laws_sound.proofs.MoveAtoms.{StillAfter, also_on, state_is}
use Rattle.laws_sound.proofs.MoveBuiltins
use Rattle.laws_sound.proofs.MoveCallAtoms.{lent_atom}
use Rattle.laws_sound.proofs.MoveCalls.{also_here, taken_once, taken_dies, split}
use Rattle.laws_sound.proofs.MoveEquations.{IsTested, equation_still, assign_goal_shares}
use Rattle.laws_sound.proofs.MoveHolds.{lent_joined, placed_free}
use Rattle.laws_sound.proofs.MoveLists
use Rattle.laws_sound.proofs.MoveSound.{io_sure, same_bound}
use Rattle.laws_sound.proofs.Sound as Sounds
use Rattle.laws_sound.proofs.Sound.{picks_goal, picks_rest, picks_typed, parts_typed, parts_some, parts_others, arm_typed, arm_variables, knows_learned, PairsIn, fresh_split, fresh_pairs, in_inputs, in_outputs}
use Rattle.laws_sound.proofs.Typed
use Rattle.laws_sound.proofs.Typed.{Is, is_at, is_reachable, merged_view}
use Rattle.laws_language.proofs.FlatGoals.{in_either, in_left, in_right}
use Rattle.laws_sound.proofs.Binds.{true_not_false}

-- a list that answers where it ends, and whose answers can't be
each_never : {A : Type 0} (P : A → Type 0) → ((a : A) → P a → ⊥) → (xs : Items A) → Each P xs → Succeeds xs → Never xs
each_never P f End h s = s
each_never P f Stuck h s = tt
each_never P f (Stopped w) h s = tt
each_never P f (Answer a xs) h s = f a h.0
each_never P f (Called c xs) h s = each_never P f xs h s
each_never P f (Wrote t xs) h s = each_never P f xs h s
each_never P f (Read k xs) h s = each_never P f xs h s

module _ (S : System) (D : Parameters) (F : Fits S D) (T : ℕ → TypeTerm) where
  -- a goal without io, at any variables; or one after which those that are lent are alive
  abbrev pub Lasts : Lent → List ℕ → Bool → Option Insts → Type 0
  Lasts N O io o = ((io ≡ false) × ((x : ℕ) → N x ≡ true)) ⊎ AliveAfter S T N O o

  -- or whose end is unreachable
  abbrev pub Spares : Lent → List ℕ → Bool → Option Insts → Type 0
  Spares N O io o = ((io ≡ false) × ((x : ℕ) → N x ≡ true)) ⊎ Survives S T N O o

  alive_survives : (N : Lent) (O : List ℕ) (o : Option Insts) → AliveAfter S T N O o → Survives S T N O o
  alive_survives N O None h = tt
  alive_survives N O (Some c) h = h

  lasts_spares : (N : Lent) (O : List ℕ) (io : Bool) (o : Option Insts) → Lasts N O io o → Spares N O io o
  lasts_spares N O io o h = ⊎_elim (λ z. inl z) (λ z. inr (alive_survives N O o z)) h

  alive_in : (N : Lent) (O P : List ℕ) (c : Insts) → ((x : ℕ) → In x O → In x P) → Alive S T N O c → Alive S T N P c
  alive_in N O P c f h = λ x n. (f x (h x n).0, (h x n).1)

  after_in : (N : Lent) (O P : List ℕ) (o : Option Insts) → ((x : ℕ) → In x O → In x P) → AliveAfter S T N O o → AliveAfter S T N P o
  after_in N O P None f h = h
  after_in N O P (Some c) f h = alive_in N O P c f h

  survives_in : (N : Lent) (O P : List ℕ) (o : Option Insts) → ((x : ℕ) → In x O → In x P) → Survives S T N O o → Survives S T N P o
  survives_in N O P None f h = tt
  survives_in N O P (Some c) f h = alive_in N O P c f h

  spares_in : (N : Lent) (O P : List ℕ) (io : Bool) (o : Option Insts) → ((x : ℕ) → In x O → In x P) → Spares N O io o → Spares N P io o
  spares_in N O P io o f h = ⊎_elim (λ z. inl z) (λ z. inr (survives_in N O P o f z)) h

  -- what is alive after was alive before
  alive_before : (N : Lent) (O : List ℕ) (b : Insts) (o : Option Insts) → StaysDead S D F T O b o → AliveAfter S T N O o → Alive S T N O b
  alive_before N O b None s h = absurd h
  alive_before N O b (Some c) s h = λ x n. ((h x n).0, (λ d. (h x n).1 (s x (h x n).0 d)))

  joined_alive : (N : Lent) (O : List ℕ) (b : Insts) (os : List (Option Insts)) (w : Option Insts) → Joined S T O b (reachable os) w → AliveAfter S T N O w → (o : Option Insts) → Is o os → Survives S T N O o
  joined_alive N O b os w j h None i = tt
  joined_alive N O b os None j h (Some c) i = absurd h
  joined_alive N O b os (Some e) j h (Some c) i = on (reachable os) j (is_reachable c os i)
    where
      on : (ends : List Insts) → Joined S T O b ends (Some e) → Is c ends → Alive S T N O c
      on [] j i = absurd i
      on (d ∷ ends) j i =
          λ x n. ((h x n).0, (λ q. (h x n).1 (merged_dead S D F T (c x) (e x) _ (merged_view S.world.source S.insts (map (λ (f : Insts). f x) (d ∷ ends)) (c x) (e x) (T x) (is_at x c (d ∷ ends) i) ((j x).0 (h x n).0)) q)))

  still_lent : (N : Lent) (M L : List ℕ) (b : Insts) (e : Bindings) (o : Option Insts) → Among L M → LiveWithin S T N M b → (a : Bindings) → StillAfter S D F T L b e o a → LentAfter S T N L o a
  still_lent N M L b e None lm w a s = absurd s
  still_lent N M L b e (Some c) lm w a s = ((λ x i l. w x (lm x i) (s.0 x i l)), s.1.1)

  -- an assignment of a state that is lent would leave it dead
  assign_within : (N : Lent) (O M L : List ℕ) (b : Insts) (x y : ℕ) → Lasts N O false (Some (also x (b y) (cond (is_state (T y)) (also y 3 b) b))) → LiveWithin S T N M b → In y M → Among L M → b x ≡ 0 → T x ≡ T y → LiveWithin S T N L (also x (b y) (cond (is_state (T y)) (also y 3 b) b))
  assign_within N O M L b x y sp w ym lm n t z i l =
      ⊎_elim (λ al. al.1 z)
      (λ al. also_on (nat_eq z x) (b y) (cond (is_state (T y)) (also y 3 b) b z) (N z ≡ true) l.1
      (λ tz q. let ty : T y ≡ state_type = sym t ∙ (ap T (sym (eqb-true z x tz)) ∙ l.0) in absurd ((al y (w y ym (ty, q))).1 (dies q (is_state (T y)) (state_is (T y) ty) (nat_eq y x) refl)))
      (λ tz q. w z (lm z i) (l.0, before (is_state (T y)) q))) sp
    where
      three : (◌≡◌ {A = ℕ} 3 2) → ⊥
      three e = omega arith

      dies : b y ≡ 2 → (s : Bool) → s ≡ true → (k : Bool) → nat_eq y x ≡ k → S.insts (cond k (b y) (cond s (also y 3 b) b y)) ≡ dead
      dies q true e true k = absurd (omega (arith, q, ap b (eqb-true y x k), n))
      dies q true e false k = ap S.insts (also_here y 3 b) ∙ F.insts.is_dead
      dies q false e k m = absurd (true_not_false (sym e))

      before : (s : Bool) → cond s (also y 3 b) b z ≡ 2 → b z ≡ 2
      before true r = also_on (nat_eq z y) 3 (b z) (b z ≡ 2) r (λ t q. absurd (three q)) (λ t q. q)
      before false r = r

  not_leaving : (is ls : List ℕ) → leaves_dead S T ls ≡ false → Lends S (zipped is ls)
  not_leaving [] ls h = tt
  not_leaving (i ∷ is) [] h = tt
  not_leaving (i ∷ is) (l ∷ ls) h = let p = or_parts (is_dead (S.insts l)) (leaves_dead S T ls) h in ((λ q d. true_not_false (sym (ap is_dead d) ∙ p.0)), not_leaving is ls p.1)

  never_alive : (N : Lent) (O : List ℕ) (c : Insts) (m : Most) → AliveAfter S T N O (unless_never m c) → Alive S T N O c
  never_alive N O c Zero h = absurd h
  never_alive N O c One h = h
  never_alive N O c Many h = h

  -- by the end that a goal has
  by_end : (θ : TypeChoice) (known : Known) (vs : List ℕ) (e : Bindings) (d : Determinism) (N : Lent) (O M L : List ℕ) (b : Insts) (io : Bool) (o : Option Insts) (xs : Items Bindings) → Sound S θ T known L vs e o d xs → Knows known e → (io ≡ true → d.can_fail ≡ false) → LiveWithin S T N M b → Spares N O io o →
      ((N' : Lent) → LiveWithin S T N' M b → Lasts N' O io o → Calm (LentAfter S T N' L o) xs) → Calm (LentAfter S T N L o) xs
  by_end θ known vs e d N O M L b io (Some c) xs s kk f w sp go = go N w sp
  by_end θ known vs e d N O M L b true None xs s kk f w sp go =
      MoveLists.never_calm (LentAfter S T N L None) xs (each_never (λ a. Grows e a × (BindsOnly vs e a × ⊥)) (λ a z. z.1.1) xs s.each (s.sure kk (f refl)))
  by_end θ known vs e d N O M L b false None xs s kk f w sp go =
      MoveLists.calm_map (LentAfter S T all_lent L None) (LentAfter S T N L None) (λ a z. absurd z) xs (go all_lent (λ x i l. refl) (inl (refl, (λ x. refl))))

  -- a condition, by the end of what comes after it
  by_then : (θ : TypeChoice) (X : Type 0) (N : Lent) (M L O Oc : List ℕ) (b c : Insts) (ioc iot : Bool) (o w : Option Insts) → ioc ≡ false → LiveWithin S T N M b → Spares N O iot o → ((d : Insts) → o ≡ Some d → Alive S T N O d → Alive S T N Oc c) → ((a : Bindings) → Reached S θ T L o a → LentAfter S T N L o a → LentAfter S T N L w a) →
      ((N' : Lent) → LiveWithin S T N' M b → Spares N' Oc ioc (Some c) → Spares N' O iot o → ((a : Bindings) → Reached S θ T L o a → LentAfter S T N' L o a → LentAfter S T N L w a) → X) → X
  by_then θ X N M L O Oc b c ioc iot (Some d) w f wn sp k tr go = ⊎_elim (λ z. go N wn (inl (f, z.1)) (inl z) tr) (λ z. go N wn (inr (k d refl z)) (inr z) tr) sp
  by_then θ X N M L O Oc b c ioc iot None w f wn sp k tr go = go all_lent (λ x i l. refl) (inl (f, (λ x. refl))) (inr tt) (λ a r h. absurd h)

module _ (S : System) (D : Parameters) (F : Fits S D) (C : Calls) (called : CallsSound S C) (lined : (k : ℕ) → k < S.count → length (S.procs k).first ≡ length (S.procs k).last) (T : ℕ → TypeTerm) (proper : (x : ℕ) → ProperType D (T x)) (θ : TypeChoice) where
  -- tests of fresh variables
  tests_calm : (P : Bindings → Type 0) (h : ℕ) (K : List ℕ) (c : Insts) (ns : Nodes) (tests : List (ℕ × ℕ)) → TestsInOrder S T tests c → PairsIn K tests → (a : Bindings) → TypedAt S θ T K c a → Calm P (stream_all S.world.outcome C h ns a) → Calm P (stream_all S.world.outcome C h (tested_by tests ns) a)
  tests_calm P h K c ns [] u p a m k = k
  tests_calm P h K c ns (s ∷ ts) u p a m k =
      let v = Typed.bound_at S D F θ (c s.0) (T s.0) (a s.0) u.1 (m s.0 p.0) in
      let w = Typed.bound_at S D F θ (c s.1) (T s.1) (a s.1) u.2 (m s.1 p.1) in
      same_bound S D F C called lined T proper θ (λ V. P) false true None a s.0 s.1 v.0 w.0 (λ d. stream_all S.world.outcome C h (tested_by ts ns) d) (tests_calm P h K c ns ts u.3 p.2 a m k) (a s.0) (a s.1) v.1 w.1

  tests_io : (tests : List (ℕ × ℕ)) (ns : Nodes) → one_is_io S T (tested_by tests ns) ≡ false → one_is_io S T ns ≡ false
  tests_io [] ns h = h
  tests_io (t ∷ tests) ns h = tests_io tests ns h

  tests_placed : (c : Insts) (known : Known) (one : Bool) (tests : List (ℕ × ℕ)) (ns : Nodes) → IoAllPlaced S T c known one (tested_by tests ns) → IoAllPlaced S T c known one ns
  tests_placed c known one [] ns h = h
  tests_placed c known one (t ∷ tests) ns h = tests_placed c known one tests ns h.1

  zero_two : (◌≡◌ {A = ℕ} 0 2) → ⊥
  zero_two e = omega arith

  none_some : (v : Val) → None ≡ Some v → ⊥
  none_some v e = cc

  module _ (lends : CallsLend S C) (tidy : TidyProcedures S) (lib : Library_types) (io : FitsIo S.world lib) where
    -- an equation that assigns nothing, an assignment, a builtin and a call
    tested_lends : {O Q : List ℕ} {b : Insts} {g : Flat_goal} {s : Scheduled} {o : Option Insts} → Ordered S T O Q b g s o → IsTested s → TypedGoal S.world.source T g → (known : Known) (h : ℕ) → (L : List ℕ) → Among L O → (e : Bindings) → Closed O Q b e → TypedAt S θ T (variables_of g) b e → TypedAt S θ T L b e →
        (N : Lent) (M : List ℕ) → LiveWithin S T N M b → SharesAt S T M b e → Among L M → Among (variables_of g) M → Calm (LentAfter S T N L o) (stream_of S.world.outcome C h s e)
    tested_lends {b = b} {s = s} {o = o} r i tg known h L u e cl ty li N M w sm lm gm =
        MoveLists.calm_map (StillAfter S D F T L b e o) (LentAfter S T N L o) (still_lent S D F T N M L b e o lm w) (stream_of S.world.outcome C h s e) (equation_still S D F C called lined T proper θ r i tg known h L u e cl ty li M sm lm gm)

    assign_lends : (O : List ℕ) {b : Insts} {x y : ℕ} → b x ≡ 0 → b y ≢ 0 → S.insts (b y) ≢ dead → T x ≡ T y → (h : ℕ) (L : List ℕ) (e : Bindings) → BoundAs S θ (b x) (T x) (e x) → BoundAs S θ (b y) (T y) (e y) → (N : Lent) (M : List ℕ) → LiveWithin S T N M b → SharesAt S T M b e → Among L M → In y M →
        Lasts S D F T N O false (Some (also x (b y) (cond (is_state (T y)) (also y 3 b) b))) → Calm (LentAfter S T N L (Some (also x (b y) (cond (is_state (T y)) (also y 3 b) b)))) (stream_of S.world.outcome C h (Assign x y) e)
    assign_lends O {b = b} {x = x} {y = y} n m nd t h L e tx ty N M w sm lm ym sp =
        let c = also x (b y) (cond (is_state (T y)) (also y 3 b) b) in
        MoveLists.calm_map (SharesAt S T L c) (LentAfter S T N L (Some c)) (λ a z. (assign_within S D F T N O M L b x y sp w ym lm n t, z)) (stream_of S.world.outcome C h (Assign x y) e) (assign_goal_shares S D F C called lined T proper θ n m nd t h L e tx ty M sm lm ym)

    -- a variable that a call takes is dead after it, and it was lent
    taken_alive : (N : Lent) (O M : List ℕ) (b c : Insts) (ms : List Mode) (xs : List ℕ) → LiveWithin S T N M b → Among xs M → Usable S T ms xs b → After S T ms xs b c → Alive S T N O c → (y : ℕ) → In y xs → Live S T b y → TakenAt S y ms xs → ⊥
    taken_alive N O M b c ms xs w xm us a al y yi ly ty = (al y (w y (xm y yi) ly)).1 (taken_dies S T a y ty (omega (arith, taken_once S T b xs y ms xs us ty)))

    apply_lends : (b c : Insts) (p : ℕ) (op : Builtin) (xs : List ℕ) → (q : (S.world.source.preds p).builtin ≡ Some op) → Usable S T (modes_of op) xs b → implied_places 0 (modes_of op) xs (λ x. is_bound (b x)) ≡ [] → After S T (modes_of op) xs b c → (known : Known) (h : ℕ) (σ : ℕ → TypeTerm) → Arguments.TypesAt S D F θ T proper σ xs (S.world.source.preds p).types →
        (O L : List ℕ) (e : Bindings) → TypedAt S θ T xs b e → TypedAt S θ T L b e → (N : Lent) (M : List ℕ) → LiveWithin S T N M b → SharesAt S T M b e → Among L M → Among xs M → Lasts S D F T N O (is_io_builtin op) (unless_never (builtin_most op) c) → Calm (LentAfter S T N L (unless_never (builtin_most op) c)) (stream_of S.world.outcome C h (Apply op (at_inputs (inputs_of op) xs) (at_outputs (inputs_of op) xs)) e)
    apply_lends b c p op xs q us i a known h σ types O L e ty li N M w sm lm xm sp =
        let o = unless_never (builtin_most op) c in
        MoveLists.calm_map (StillAfter S D F T L b e o) (LentAfter S T N L o) (still_lent S D F T N M L b e o lm w) (stream_of S.world.outcome C h (Apply op (at_inputs (inputs_of op) xs) (at_outputs (inputs_of op) xs)) e)
        (MoveBuiltins.quiet_apply S D F θ T proper σ b e M sm lib io known L p op xs c q types us i a ty li lm xm (on (is_io_builtin op) refl))
      where
        on : (t : Bool) → is_io_builtin op ≡ t → is_io_builtin op ≡ false
        on false t = t
        on true t =
            ⊎_elim (λ z. z.0)
            (λ al. let y = MoveBuiltins.apply_taken S D F θ T proper σ b e M sm lib io known L p op xs c q types us i a ty li lm xm t in absurd (taken_alive N O M b c (modes_of op) xs w xm us a (never_alive S D F T N O c (builtin_most op) al) y.0 y.1 y.2 y.3)) sp

    call_lends : (b c : Insts) (p : ℕ) (xs : List ℕ) (last : Bool) → (l : p < S.count) → Usable S T (modes_of_procedure (S.procs p)) xs b → After S T (modes_of_procedure (S.procs p)) xs b c → TypedGoal S.world.source T (G.Call (S.procs p).pred xs) → (known : Known) (h : ℕ) (O L : List ℕ) (e : Bindings) → TypedAt S θ T xs b e → TypedAt S θ T L b e →
        (N : Lent) (M : List ℕ) → LiveWithin S T N M b → SharesAt S T M b e → Among L M → Among xs M → Lasts S D F T N O (leaves_dead S T (S.procs p).last) (unless_never (S.procs p).det.most c) →
        Calm (LentAfter S T N L (unless_never (S.procs p).det.most c)) (stream_of S.world.outcome C h (Call p xs (implied_places 0 (modes_of_procedure (S.procs p)) xs (λ x. is_bound (b x))) last) e)
    call_lends b c p xs last l us a tg known h O L e ty li N M w sm lm xm sp =
        let o = unless_never (S.procs p).det.most c in
        let ms = modes_of_procedure (S.procs p) in
        let types = Sounds.map_types S T D F θ proper tg.0 xs (types_of S (S.procs p)) tg.1 in
        MoveLists.calm_map (StillAfter S D F T L b e o) (LentAfter S T N L o) (still_lent S D F T N M L b e o lm w) (stream_of S.world.outcome C h (Call p xs (implied_places 0 ms xs (λ x. is_bound (b x))) last) e)
        (lent_atom S D F C called lends tidy lined T proper θ b c p xs last l us a tg known h L e ty li M sm lm xm
        (⊎_elim (λ z. not_leaving S D F T (S.procs p).first (S.procs p).last z.0)
        (λ al. ⊎_elim (λ n. n) (λ y. absurd (taken_alive N O M b c ms xs w xm us a (never_alive S D F T N O c (S.procs p).det.most al) y.0 y.1 y.2 y.3)) (split S D F θ T proper tg.0 b e xs ms xs (types_of S (S.procs p)) us (tidy p l) types ty)) sp))

    mutual
      pub lends_node : {O Q : List ℕ} {b : Insts} {g : Flat_goal} {n : Node} {o : Option Insts} → OrderedNode S T O Q b g n o → TypedGoal S.world.source T g → (known : Known) (h : ℕ) (one : Bool) → IoPlaced S T b known one n →
          (L : List ℕ) → Among L O → (e : Bindings) → Closed O Q b e → TypedAt S θ T (variables_of g) b e → TypedAt S θ T L b e → Knows known e →
          (N : Lent) (M : List ℕ) → LiveWithin S T N M b → SharesAt S T M b e → Among L M → Among (variables_of g) M → Spares S D F T N O (is_io S T n) o → Calm (LentAfter S T N L o) (stream S.world.outcome C h n e)
      lends_node (O.kept {O = P} {Q = Q} {b = b} {g = g} {s = s} {changes = changes} {det = d} {o = o} r k) tg known h one pl L u e cl ty li kk N M w sm lm gm sp =
          let m = Rattle.mc_accepted.specs.Ordered.is_pruned Q b o in
          let n = node s changes d m in
          by_end S D F T θ known (variables_of_node n) e (determined S T b known n) N P M L b (is_io_in S T s) o (stream S.world.outcome C h n e) (Sounds.sound_node S D F C called lined T proper θ (O.kept {det = d} r k) tg known h L u e cl ty li) kk (io_sure S T b known one n pl) w sp
          (λ N' w' z. calm_pruned (LentAfter S T N' L o) m (stream_of S.world.outcome C h s e) (lends_in r tg known h (one || m) pl.1 L u e cl ty li kk N' M w' sm lm gm z))

      pub lends_in : {O Q : List ℕ} {b : Insts} {g : Flat_goal} {s : Scheduled} {o : Option Insts} → Ordered S T O Q b g s o → TypedGoal S.world.source T g → (known : Known) (h : ℕ) (one : Bool) → IoPlacedIn S T b known one s →
          (L : List ℕ) → Among L O → (e : Bindings) → Closed O Q b e → TypedAt S θ T (variables_of g) b e → TypedAt S θ T L b e → Knows known e →
          (N : Lent) (M : List ℕ) → LiveWithin S T N M b → SharesAt S T M b e → Among L M → Among (variables_of g) M → Lasts S D F T N O (is_io_in S T s) o → Calm (LentAfter S T N L o) (stream_of S.world.outcome C h s e)
      lends_in (O.conj r) tg known h one pl L u e cl ty li kk N M w sm lm gm sp = lends_all r tg known h one pl L u e cl ty li kk N M w sm lm gm sp
      lends_in (O.implied_alone {xs = xs} r) tg known h one pl L u e cl ty li kk N M w sm lm gm sp =
          lends_all r (tg, tt) known h one pl L u e cl (λ x i. ty x (⊎_elim (λ j. j) (λ j. absurd j) (in_either x xs [] i))) li kk N M w sm lm (λ x i. gm x (⊎_elim (λ j. j) (λ j. absurd j) (in_either x xs [] i))) sp
      lends_in (O.some {O = O} {vs = vs} {g = g} {n = n} {o = o} a r) tg known h one pl L u e cl ty li kk N M w sm lm gm sp =
          lends_node r tg known h one pl L u e cl (λ x i. ty x (in_right x vs (variables_of g) i)) li kk N M w sm lm (λ x i. gm x (in_right x vs (variables_of g) i)) (lasts_spares S D F T N O (is_io S T n) o sp)
      lends_in (O.neg {O = O} {Q = Q} {b = b} {g = g} {n = n} {o = o} r m) tg known h one pl L u e cl ty li kk N M w sm lm gm sp =
          let k = lends_node r tg known h one (placed_free S T n b known one pl) [] (λ x i. absurd i) e (λ x. ⊎_elim (λ z. inl (⊎_elim (λ y. inl (in_left x O (free_in g) y)) (λ y. inr y) z)) (λ z. inr z) (cl x)) ty (λ x i. absurd i) kk all_lent M (λ x i l. refl) sm (λ x i. absurd i) gm (inl (pl, (λ x. refl))) in
          MoveLists.calm_negate (LentAfter S T all_lent [] o) (LentAfter S T N L (Some b)) e (stream S.world.outcome C h n e) k ((λ x i l. w x (lm x i) l), (λ x i. sm x (lm x i)))
      lends_in (O.assign {O = O} {x = x} {y = y} n m a) tg known h one pl L u e cl ty li kk N M w sm lm gm sp = assign_lends O n m a.1.0 tg h L e (ty x (inl refl)) (ty y (inr (inl refl))) N M w sm lm (gm y (inr (inl refl))) sp
      lends_in (O.assign_back {O = O} {x = x} {y = y} n m a) tg known h one pl L u e cl ty li kk N M w sm lm gm sp = assign_lends O n m a.1.0 (sym tg) h L e (ty x (inr (inl refl))) (ty y (inl refl)) N M w sm lm (gm y (inl refl)) sp
      lends_in (O.test n m s a) tg known h one pl L u e cl ty li kk N M w sm lm gm sp = tested_lends (O.test n m s a) tt tg known h L u e cl ty li N M w sm lm gm
      lends_in (O.build n a m d q) tg known h one pl L u e cl ty li kk N M w sm lm gm sp = tested_lends (O.build n a m d q) tt tg known h L u e cl ty li N M w sm lm gm
      lends_in (O.take n d a q) tg known h one pl L u e cl ty li kk N M w sm lm gm sp = tested_lends (O.take n d a q) tt tg known h L u e cl ty li N M w sm lm gm
      lends_in (O.take_never n d a) tg known h one pl L u e cl ty li kk N M w sm lm gm sp = tested_lends (O.take_never n d a) tt tg known h L u e cl ty li N M w sm lm gm
      lends_in (O.put n) tg known h one pl L u e cl ty li kk N M w sm lm gm sp = tested_lends (O.put n) tt tg known h L u e cl ty li N M w sm lm gm
      lends_in (O.test_constant n d a) tg known h one pl L u e cl ty li kk N M w sm lm gm sp = tested_lends (O.test_constant n d a) tt tg known h L u e cl ty li N M w sm lm gm
      lends_in (O.test_never n d a) tg known h one pl L u e cl ty li kk N M w sm lm gm sp = tested_lends (O.test_never n d a) tt tg known h L u e cl ty li N M w sm lm gm
      lends_in (O.call {O = O} {b = b} {c = c} {p = p} {xs = xs} {last = last} l us d a) tg known h one pl L u e cl ty li kk N M w sm lm gm sp = call_lends b c p xs last l us a tg known h O L e ty li N M w sm lm gm sp
      lends_in (O.apply {O = O} {b = b} {c = c} {p = p} {op = op} {xs = xs} q us d i a) tg known h one pl L u e cl ty li kk N M w sm lm gm sp =
          apply_lends b c p op xs q us i a known h tg.0 (Sounds.map_types S T D F θ proper tg.0 xs (S.world.source.preds p).types tg.1) O L e ty li N M w sm lm gm sp
      lends_in (O.disj {O = O} {b = b} {ns = ns} {os = os} {o = o} r jn) tg known h one pl L u e cl ty li kk N M w sm lm gm sp =
          lends_any r tg known h one pl.1 L u e cl ty li kk N M w sm lm gm o (⊎_elim (λ z. inl z) (λ al. inr (joined_alive S D F T N O b os o jn al)) sp) (lent_joined S D F θ T proper N L O b os o u jn)
      lends_in (O.switch {O = O} {b = b} {x = x} {gs = gs} {os = os} {o = o} n i r jn) tg known h one pl L u e cl ty li kk N M w sm lm gm sp =
          let v = Typed.bound_at S D F θ (b x) (T x) (e x) n (ty x (Sounds.frees_in gs x i)) in
          lends_arms r tg known h one pl L u e cl ty li kk N M w sm lm gm v.0 v.1 o (⊎_elim (λ z. inl z) (λ al. inr (joined_alive S D F T N O b os o jn al)) sp) (lent_joined S D F θ T proper N L O b os o u jn)
      lends_in (O.ite {O = O} {Q = Q} {b = b} {c = c} {vs = vs} {g = g} {h = i} {k = j} {n = n} {t = t} {u = f} {o = o} {o' = o'} {o'' = o''} a rc bn rt re jn) tg known h one pl L u e cl ty li kk N M w sm lm gm sp =
          let vn = variables_of_node n in
          let vt = variables_of_node t in
          let vf = variables_of_node f in
          let V = vs ++ (variables_of g ++ (variables_of i ++ variables_of j)) in
          let xs = stream S.world.outcome C h n e in
          let ys = stream S.world.outcome C h f e in
          let vg : (x : ℕ) → In x (variables_of g) → In x V = λ x z. in_right x vs (variables_of g ++ (variables_of i ++ variables_of j)) (in_left x (variables_of g) (variables_of i ++ variables_of j) z) in
          let vi : (x : ℕ) → In x (variables_of i) → In x V = λ x z. in_right x vs (variables_of g ++ (variables_of i ++ variables_of j)) (in_right x (variables_of g) (variables_of i ++ variables_of j) (in_left x (variables_of i) (variables_of j) z)) in
          let vj : (x : ℕ) → In x (variables_of j) → In x V = λ x z. in_right x vs (variables_of g ++ (variables_of i ++ variables_of j)) (in_right x (variables_of g) (variables_of i ++ variables_of j) (in_right x (variables_of i) (variables_of j) z)) in
          let tc : TypedAt S θ T (variables_of g) b e = λ x z. ty x (vg x z) in
          let te : TypedAt S θ T (variables_of j) b e = λ x z. ty x (vj x z) in
          let K = L ++ variables_of i in
          let tk : TypedAt S θ T K b e = λ x z. ⊎_elim (λ y. li x y) (λ y. ty x (vi x y)) (in_either x L (variables_of i) z) in
          let eqc : insts_after n b ≡ c = node_after rc in
          let wo = without (free_in g) vs ++ variables_of i in
          let ko = among_two L O (without (free_in g) vs) (variables_of i) u in
          let clc = closed_more O Q wo vt b e cl in
          let joined = lent_joined S D F θ T proper N L O b (o ∷ o' ∷ []) o'' u jn in
          let alive = joined_alive S D F T N O b (o ∷ o' ∷ []) o'' jn in
          let iot = is_io S T t in
          let iof = is_io S T f in
          let Og = O ++ variables_of g in
          let st : Spares S D F T N O iot o = ⊎_elim (λ z. inl ((or_parts iot iof (or_parts (is_io S T n) (iot || iof) z.0).1).0, z.1)) (λ al. inr (alive al o (inl refl))) sp in
          let sf : Spares S D F T N O iof o' = ⊎_elim (λ z. inl ((or_parts iot iof (or_parts (is_io S T n) (iot || iof) z.0).1).1, z.1)) (λ al. inr (alive al o' (inr (inl refl)))) sp in
          by_then S D F T θ (Calm (LentAfter S T N L o'') (stream_of S.world.outcome C h (Ite vs n t f) e)) N M L O (O ++ wo) b c (is_io S T n) iot o o'' pl.0 w st
          (λ d q al. alive_in S D F T N O (O ++ wo) c (λ x k. in_left x O wo k) (alive_before S D F T N O c (Some d) (subst (λ p. StaysDead S D F T O c p) q (fewer_dead S D F T O Og c o (λ x k. in_left x O (variables_of g) k) (node_dead S D F T rt))) al))
          (joined o (inl refl))
          (λ N' w' sc st' tr.
          MoveLists.calm_choose_each (λ d. stream S.world.outcome C h t d) (λ d. Grows e d × (BindsOnly vn e d × TypedAt S θ T K c d)) (LentAfter S T N' K (Some c)) (LentAfter S T N L o'') xs ys
          (Sounds.sound_node S D F C called lined T proper θ rc tg.0 known h K ko e clc tc tk).each
          (lends_node rc tg.0 known h one (placed_free S T n b known one pl.0) K ko e clc tc tk kk N' M w' sm (λ x z. ⊎_elim (λ y. lm x y) (λ y. gm x (vi x y)) (in_either x L (variables_of i) z)) (λ x z. gm x (vg x z)) sc)
          (λ d y z.
          let cd = closed_after O Q (variables_of g) vn b c e d (node_from S D F T rc) y.1.0 cl in
          let lo = among_left L O (variables_of g) u in
          let ti : TypedAt S θ T (variables_of i) c d = λ x q. y.1.1 x (in_right x L (variables_of i) q) in
          let tl : TypedAt S θ T L c d = λ x q. y.1.1 x (in_left x L (variables_of i) q) in
          MoveLists.calm_each (λ k. Grows d k × (BindsOnly vt d k × Reached S θ T L o k)) (LentAfter S T N' L o) (LentAfter S T N L o'') (λ k r q. tr k r.1.1 q) (stream S.world.outcome C h t d) (Sounds.sound_node S D F C called lined T proper θ rt tg.1 known h L lo d cd ti tl).each
          (lends_node rt tg.1 known h one (subst (λ k. IoPlaced S T k known one t) eqc pl.1) L lo d cd ti tl (knows_more known e d y.0 kk) N' K z.0 z.1 (λ x q. in_left x L (variables_of i) q) (λ x q. in_right x L (variables_of i) q) (spares_in S D F T N' O Og iot o (λ x k. in_left x O (variables_of g) k) st')))
          (MoveLists.calm_each (λ k. Grows e k × (BindsOnly vf e k × Reached S θ T L o' k)) (LentAfter S T N L o') (LentAfter S T N L o'') (λ k r q. joined o' (inr (inl refl)) k r.1.1 q) ys (Sounds.sound_node S D F C called lined T proper θ re tg.2 known h L u e cl te li).each
          (lends_node re tg.2 known h one pl.2 L u e cl te li kk N M w sm lm (λ x z. gm x (vj x z)) sf)))
      lends_in (O.ite_never {O = O} {Q = Q} {b = b} {vs = vs} {g = g} {h = i} {k = j} {n = n} {t = t} {u = f} {o = o} {o'' = o''} a rc em re jn) tg known h one pl L u e cl ty li kk N M w sm lm gm sp =
          let vf = variables_of_node f in
          let V = vs ++ (variables_of g ++ (variables_of i ++ variables_of j)) in
          let xs = stream S.world.outcome C h n e in
          let ys = stream S.world.outcome C h f e in
          let vg : (x : ℕ) → In x (variables_of g) → In x V = λ x z. in_right x vs (variables_of g ++ (variables_of i ++ variables_of j)) (in_left x (variables_of g) (variables_of i ++ variables_of j) z) in
          let vj : (x : ℕ) → In x (variables_of j) → In x V = λ x z. in_right x vs (variables_of g ++ (variables_of i ++ variables_of j)) (in_right x (variables_of g) (variables_of i ++ variables_of j) (in_right x (variables_of i) (variables_of j) z)) in
          let tc : TypedAt S θ T (variables_of g) b e = λ x z. ty x (vg x z) in
          let te : TypedAt S θ T (variables_of j) b e = λ x z. ty x (vj x z) in
          let wo = without (free_in g) vs in
          let clc : Closed (O ++ (wo ++ variables_of i)) Q b e = λ x. ⊎_elim (λ z. inl (⊎_elim (λ y. inl (in_left x O (wo ++ variables_of i) y)) (λ y. inr y) z)) (λ z. inr z) (cl x) in
          let lo = among_left L O (wo ++ variables_of i) u in
          let joined = lent_joined S D F θ T proper N L O b (o ∷ []) o'' u jn in
          let iot = is_io S T t in
          let iof = is_io S T f in
          MoveLists.calm_choose (λ d. stream S.world.outcome C h t d) (LentAfter S T all_lent L None) (LentAfter S T N L o'') xs ys
          (lends_node rc tg.0 known h one (placed_free S T n b known one pl.0) L lo e clc tc li kk all_lent M (λ x k l. refl) sm lm (λ x z. gm x (vg x z)) (inl (pl.0, (λ x. refl))))
          (λ d z. absurd z)
          (MoveLists.calm_each (λ k. Grows e k × (BindsOnly vf e k × Reached S θ T L o k)) (LentAfter S T N L o) (LentAfter S T N L o'') (λ k r q. joined o (inl refl) k r.1.1 q) ys (Sounds.sound_node S D F C called lined T proper θ re tg.2 known h L u e cl te li).each
          (lends_node re tg.2 known h one pl.2 L u e cl te li kk N M w sm lm (λ x z. gm x (vj x z))
          (⊎_elim (λ z. inl ((or_parts iot iof (or_parts (is_io S T n) (iot || iof) z.0).1).1, z.1)) (λ al. inr (joined_alive S D F T N O b (o ∷ []) o'' jn al o (inl refl))) sp)))

      pub lends_all : {O Q : List ℕ} {b : Insts} {gs : Flat_goals} {ns : Nodes} {o : Option Insts} → OrderedAll S T O Q b gs ns o → TypedGoals S.world.source T gs → (known : Known) (h : ℕ) (one : Bool) → IoAllPlaced S T b known one ns →
          (L : List ℕ) → Among L O → (e : Bindings) → Closed O Q b e → TypedAt S θ T (variables_of_all gs) b e → TypedAt S θ T L b e → Knows known e →
          (N : Lent) (M : List ℕ) → LiveWithin S T N M b → SharesAt S T M b e → Among L M → Among (variables_of_all gs) M → Lasts S D F T N O (one_is_io S T ns) o → Calm (LentAfter S T N L o) (stream_all S.world.outcome C h ns e)
      lends_all (O.done {b = b}) tg known h one pl L u e cl ty li kk N M w sm lm gm sp = (((λ x i l. w x (lm x i) l), (λ x i. sm x (lm x i))), tt)
      lends_all (O.dropped {O = O} {Q = Q} {b = b} {g = g} {rest = rest} {n = n} p r) tg known h one pl L u e cl ty li kk N M w sm lm gm sp =
          let q = picks_typed S.world.source T p tg in
          let clc : Closed (O ++ variables_of_all rest) Q b e = λ x. ⊎_elim (λ z. inl (⊎_elim (λ y. inl (in_left x O (variables_of_all rest) y)) (λ y. inr y) z)) (λ z. inr z) (cl x) in
          MoveLists.calm_bind (λ a. Answer a End) (LentAfter S T N L None) (LentAfter S T N L None) (stream S.world.outcome C h n e)
          (lends_node r q.0 known h (one && true) pl.0 L (among_left L O (variables_of_all rest) u) e clc (λ x i. ty x (picks_goal p x i)) li kk N M w sm lm (λ x i. gm x (picks_goal p x i)) (inr tt))
          (λ a z. absurd z)
      lends_all (O.next {O = O} {Q = Q} {b = b} {c = c} {g = g} {rest = rest} {n = n} {ns = ns} {o = o} p r t) tg known h one pl L u e cl ty li kk N M w sm lm gm sp =
          let q = picks_typed S.world.source T p tg in
          let V = variables_of_all rest in
          let vn = variables_of_node n in
          let eqc : insts_after n b ≡ c = node_after r in
          let clc = closed_more O Q V (variables_of_nodes ns) b e cl in
          let tc : TypedAt S θ T (variables_of g) b e = λ x i. ty x (picks_goal p x i) in
          let tl : TypedAt S θ T (L ++ V) b e = λ x i. ⊎_elim (λ j. li x j) (λ j. ty x (picks_rest p x j)) (in_either x L V i) in
          let lo = among_both L O V u in
          let vg = variables_of g in
          let sn : Spares S D F T N (O ++ V) (is_io S T n) (Some c) = ⊎_elim (λ z. inl ((or_parts (is_io S T n) (one_is_io S T ns) z.0).0, z.1)) (λ al. inr (alive_in S D F T N O (O ++ V) c (λ x i. in_left x O V i) (alive_before S D F T N O c o (fewer_dead S D F T O (O ++ vg) c o (λ x i. in_left x O vg i) (all_dead S D F T t)) al))) sp in
          let st : Lasts S D F T N (O ++ vg) (one_is_io S T ns) o = ⊎_elim (λ z. inl ((or_parts (is_io S T n) (one_is_io S T ns) z.0).1, z.1)) (λ al. inr (after_in S D F T N O (O ++ vg) o (λ x i. in_left x O vg i) al)) sp in
          MoveLists.calm_bind_each (λ a. stream_all S.world.outcome C h ns a) (λ a. Grows e a × (BindsOnly vn e a × TypedAt S θ T (L ++ V) c a)) (LentAfter S T N (L ++ V) (Some c)) (LentAfter S T N L o) (stream S.world.outcome C h n e)
          (Sounds.sound_node S D F C called lined T proper θ r q.0 known h (L ++ V) lo e clc tc tl).each
          (lends_node r q.0 known h (one && none_fails S T (insts_after n b) known ns) pl.0 (L ++ V) lo e clc tc tl kk N M w sm (λ x i. ⊎_elim (λ j. lm x j) (λ j. gm x (picks_rest p x j)) (in_either x L V i)) (λ x i. gm x (picks_goal p x i)) sn)
          (λ a i z.
          lends_all t q.1 known h one (subst (λ y. IoAllPlaced S T y known one ns) eqc pl.1) L (among_left L O vg u) a (closed_after O Q vg vn b c e a (node_from S D F T r) i.1.0 cl) (λ x j. i.1.1 x (in_right x L V j)) (λ x j. i.1.1 x (in_left x L V j)) (knows_more known e a i.0 kk) N (L ++ V) z.0 z.1 (λ x j. in_left x L V j) (λ x j. in_right x L V j) st)
      lends_all (O.implied_outputs {O = O} {Q = Q} {b = b} {c = c} {p = p} {op = op} {xs = xs} {zs = zs} {gs = gs} {rest = rest} {changes = changes} {d = d} {ns = ns} {o = o} tests pk bq mo fr nd di apt ts us i af kc t) tg known h one pl L u e cl ty li kk N M w sm lm gm sp =
          let q = picks_typed S.world.source T pk tg in
          let V = variables_of_all rest ++ (xs ++ zs) in
          let K = L ++ V in
          let vs = at_inputs (inputs_of op) zs ++ at_outputs (inputs_of op) zs in
          let rs = tested_by tests ns in
          let mark = Rattle.mc_accepted.specs.Ordered.is_pruned (Q ++ variables_of_nodes rs) b (Some c) in
          let ap = Apply op (at_inputs (inputs_of op) zs) (at_outputs (inputs_of op) zs) in
          let n = node ap changes d mark in
          let places = implied_places 0 (modes_of op) xs (λ x. is_bound (b x)) in
          let split = fresh_split S T 0 places xs zs tests fr in
          let tx : TypedAt S θ T xs b e = λ x z. ty x (picks_goal pk x z) in
          let tz : TypedAt S θ T zs b e = Sounds.typed_fresh S D F C called lined T proper θ O Q xs zs (firsts tests) gs b e cl apt split tx in
          let tk : TypedAt S θ T K b e = λ x z. ⊎_elim (λ y. li x y) (λ y. ⊎_elim (λ v. ty x (picks_rest pk x v)) (λ v. ⊎_elim (λ r. tx x r) (λ r. tz x r) (in_either x xs zs v)) (in_either x (variables_of_all rest) (xs ++ zs) y)) (in_either x L V z) in
          let types = Sounds.fresh_types S T D F θ proper c q.0.0 0 places xs zs tests (S.world.source.preds p).types (Sounds.map_types S T D F θ proper q.0.0 xs (S.world.source.preds p).types q.0.1) ts fr in
          let after : insts_after n b ≡ c = Rattle.std.proofs.Math.Path.fun_ext (λ x. sym (kc.0 x)) in
          let pairs = fresh_pairs S T K 0 places xs zs tests (λ y z. in_right y L V (in_right y (variables_of_all rest) (xs ++ zs) (in_left y xs zs z))) (λ y z. in_right y L V (in_right y (variables_of_all rest) (xs ++ zs) (in_right y xs zs z))) fr in
          let closed : (a : Bindings) → BindsOnly vs e a → Closed (O ++ (xs ++ zs)) (Q ++ (xs ++ zs)) c a = λ a bo.
          Sounds.closed_within (O ++ (xs ++ zs)) (Q ++ vs) (Q ++ (xs ++ zs)) c a (λ x z. ⊎_elim (λ y. in_left x Q (xs ++ zs) y) (λ y. in_right x Q (xs ++ zs) (in_right x xs zs (⊎_elim (λ v. in_inputs (inputs_of op) zs x v) (λ v. in_outputs (inputs_of op) zs x v) (in_either x (at_inputs (inputs_of op) zs) (at_outputs (inputs_of op) zs) y)))) (in_either x Q vs z))
          (closed_after O Q (xs ++ zs) vs b c e a (apply_from S D F T op zs b c af) bo cl) in
          let old : (x : ℕ) → In x (M ++ zs) → In x M ⊎ ((b x ≡ 0) × (e x ≡ None)) = λ x z. ⊎_elim (λ y. inl y) (λ y. ⊎_elim (λ v. inl (gm x (picks_goal pk x v))) (λ v. ⊎_elim (λ r. absurd (apt x v (⊎_elim (λ k. in_left x O (Q ++ variables_of_all gs) k) (λ k. in_right x O (Q ++ variables_of_all gs) (in_left x Q (variables_of_all gs) k)) r))) (λ r. inr r) (cl x)) (split x y)) (in_either x M zs z) in
          let io_n = is_io_builtin op in
          let wz : LiveWithin S T N (M ++ zs) b = λ x z l. ⊎_elim (λ y. w x y l) (λ y. absurd (zero_two (sym y.0 ∙ l.1))) (old x z) in
          let sz : SharesAt S T (M ++ zs) b e = λ x z nn v r. ⊎_elim (λ y. sm x y nn v r) (λ y. absurd (none_some v (sym y.1 ∙ r))) (old x z) in
          let sn : Lasts S D F T N O io_n (Some c) = ⊎_elim (λ z. inl ((or_parts io_n (one_is_io S T rs) z.0).0, z.1)) (λ al. inr (alive_before S D F T N O c o (fewer_dead S D F T O (O ++ (xs ++ zs)) c o (λ x k. in_left x O (xs ++ zs) k) (all_dead S D F T t)) al)) sp in
          let st : Lasts S D F T N (O ++ (xs ++ zs)) (one_is_io S T ns) o = ⊎_elim (λ z. inl (tests_io tests ns (or_parts io_n (one_is_io S T rs) z.0).1, z.1)) (λ al. inr (after_in S D F T N O (O ++ (xs ++ zs)) o (λ x k. in_left x O (xs ++ zs) k) al)) sp in
          MoveLists.calm_bind_each (λ a. stream_all S.world.outcome C h rs a) (λ a. Grows e a × (BindsOnly vs e a × TypedAt S θ T K c a)) (LentAfter S T N K (Some c)) (LentAfter S T N L o) (stream S.world.outcome C h n e)
          (Combine.pruned_sound S θ T known K vs e (Some c) (determined_in S T b known ap) mark (stream_of S.world.outcome C h ap e)
          (subst (λ k. Sound S θ T known K vs e (unless_never k c) (determined_in S T b known ap) (stream_of S.world.outcome C h ap e)) mo
          (Callings.apply_sound S D F θ T proper known K p op q.0.0 zs b c e bq types us i af tz tk))).each
          (calm_pruned (LentAfter S T N K (Some c)) mark (stream_of S.world.outcome C h ap e)
          (subst (λ k. Calm (LentAfter S T N K (unless_never k c)) (stream_of S.world.outcome C h ap e)) mo
          (apply_lends b c p op zs bq us i af known h q.0.0 types O K e tz tk N (M ++ zs) wz sz
          (λ x z. ⊎_elim (λ y. in_left x M zs (lm x y)) (λ y. ⊎_elim (λ v. in_left x M zs (gm x (picks_rest pk x v))) (λ v. ⊎_elim (λ r. in_left x M zs (gm x (picks_goal pk x r))) (λ r. in_right x M zs r) (in_either x xs zs v)) (in_either x (variables_of_all rest) (xs ++ zs) y)) (in_either x L V z))
          (λ x z. in_right x M zs z) (subst (λ k. Lasts S D F T N O io_n (unless_never k c)) (sym mo) sn))))
          (λ a j z.
          tests_calm (LentAfter S T N L o) h K c ns tests ts pairs a j.1.1
          (lends_all t q.1 known h one (tests_placed c known one tests ns (subst (λ y. IoAllPlaced S T y known one rs) after pl.1)) L (among_left L O (xs ++ zs) u) a (closed a j.1.0) (λ x v. j.1.1 x (in_right x L V (in_left x (variables_of_all rest) (xs ++ zs) v))) (λ x v. j.1.1 x (in_left x L V v)) (knows_more known e a j.0 kk) N K z.0 z.1 (λ x v. in_left x L V v) (λ x v. in_right x L V (in_left x (variables_of_all rest) (xs ++ zs) v)) st))

      pub lends_any : {O Q : List ℕ} {b : Insts} {gs : Flat_goals} {ns : Nodes} {os : List (Option Insts)} → OrderedAny S T O Q b gs ns os → TypedGoals S.world.source T gs → (known : Known) (h : ℕ) (one : Bool) → IoEachPlaced S T b known one ns →
          (L : List ℕ) → Among L O → (e : Bindings) → Closed O Q b e → TypedAt S θ T (variables_of_all gs) b e → TypedAt S θ T L b e → Knows known e →
          (N : Lent) (M : List ℕ) → LiveWithin S T N M b → SharesAt S T M b e → Among L M → Among (variables_of_all gs) M →
          (v : Option Insts) → ((one_is_io S T ns ≡ false) × ((x : ℕ) → N x ≡ true)) ⊎ ((o : Option Insts) → Is o os → Survives S T N O o) → ((o : Option Insts) → Is o os → (a : Bindings) → Reached S θ T L o a → LentAfter S T N L o a → LentAfter S T N L v a) → Calm (LentAfter S T N L v) (stream_any S.world.outcome C h ns e)
      lends_any O.no_other tg known h one pl L u e cl ty li kk N M w sm lm gm v sp ha = tt
      lends_any (O.either {b = b} {g = g} {gs = gs} {n = n} {ns = ns} {o = o} r t) tg known h one pl L u e cl ty li kk N M w sm lm gm v sp ha =
          let vn = variables_of_node n in
          let xs = stream S.world.outcome C h n e in
          let tc : TypedAt S θ T (variables_of g) b e = λ x i. ty x (in_left x (variables_of g) (variables_of_all gs) i) in
          MoveLists.calm_append (LentAfter S T N L v) xs (stream_any S.world.outcome C h ns e)
          (MoveLists.calm_each (λ k. Grows e k × (BindsOnly vn e k × Reached S θ T L o k)) (LentAfter S T N L o) (LentAfter S T N L v) (λ k m q. ha o (inl refl) k m.1.1 q) xs (Sounds.sound_node S D F C called lined T proper θ r tg.0 known h L u e cl tc li).each
          (lends_node r tg.0 known h one pl.0 L u e cl tc li kk N M w sm lm (λ x i. gm x (in_left x (variables_of g) (variables_of_all gs) i)) (⊎_elim (λ z. inl ((or_parts (is_io S T n) (one_is_io S T ns) z.0).0, z.1)) (λ z. inr (z o (inl refl))) sp)))
          (lends_any t tg.1 known h one pl.1 L u e cl (λ x i. ty x (in_right x (variables_of g) (variables_of_all gs) i)) li kk N M w sm lm (λ x i. gm x (in_right x (variables_of g) (variables_of_all gs) i)) v (⊎_elim (λ z. inl ((or_parts (is_io S T n) (one_is_io S T ns) z.0).1, z.1)) (λ z. inr (λ p i. z p (inr i))) sp) (λ p i. ha p (inr i)))

      pub lends_arms : {O Q : List ℕ} {b : Insts} {x : ℕ} {gs : Flat_goals} {arms : Arms} {os : List (Option Insts)} → OrderedArms S T O Q b x gs arms os → TypedGoals S.world.source T gs → (known : Known) (h : ℕ) (one : Bool) → IoArmsPlaced S T b known one x arms →
          (L : List ℕ) → Among L O → (e : Bindings) → Closed O Q b e → TypedAt S θ T (variables_of_all gs) b e → TypedAt S θ T L b e → Knows known e →
          (N : Lent) (M : List ℕ) → LiveWithin S T N M b → SharesAt S T M b e → Among L M → Among (variables_of_all gs) M → (u : Val) → e x ≡ Some u →
          (v : Option Insts) → ((arm_is_io S T arms ≡ false) × ((y : ℕ) → N y ≡ true)) ⊎ ((o : Option Insts) → Is o os → Survives S T N O o) → ((o : Option Insts) → Is o os → (a : Bindings) → Reached S θ T L o a → LentAfter S T N L o a → LentAfter S T N L v a) → Calm (LentAfter S T N L v) (stream_arms S.world.outcome C h arms e)
      lends_arms O.no_arm tg known h one pl L u e cl ty li kk N M w sm lm gm z q v sp ha = tt
      lends_arms (O.arm {b = b} {x = x} {gs = gs} {hs = hs} {ks = ks} {l = l} {n = n} {arms = arms} {o = o} p il op ab r t) tg known h one pl L u e cl ty li kk N M w sm lm gm z q v sp ha =
          let tp = parts_typed S.world.source T p tg in
          let vn = variables_of_node n in
          let xs = stream S.world.outcome C h n e in
          let kn = learned x l known in
          let tc : TypedAt S θ T (variables_of (arm_goal hs)) b e = λ y i. ty y (parts_some p y (arm_variables hs y i)) in
          MoveLists.calm_append (LentAfter S T N L v) xs (stream_arms S.world.outcome C h arms e)
          (⊎_elim
          (λ y.
          MoveLists.calm_each (λ k. Grows e k × (BindsOnly vn e k × Reached S θ T L o k)) (LentAfter S T N L o) (LentAfter S T N L v) (λ k m i. ha o (inl refl) k m.1.1 i) xs (Sounds.sound_node S D F C called lined T proper θ r (arm_typed S.world.source T hs tp.0) kn h L u e cl tc li).each
          (lends_node r (arm_typed S.world.source T hs tp.0) kn h one pl.0 L u e cl tc li (knows_learned known e x l z q y kk) N M w sm lm (λ y i. gm y (parts_some p y (arm_variables hs y i))) (⊎_elim (λ s. inl ((or_parts (is_io S T n) (arm_is_io S T arms) s.0).0, s.1)) (λ s. inr (s o (inl refl))) sp)))
          (λ y. MoveLists.calm_map (λ a. ⊥) (LentAfter S T N L v) (λ a s. absurd s) xs (opens_calm S.world.outcome C h n x l op e z q y))
          (Sounds.label_cases l z))
          (lends_arms t tp.1 known h one pl.1 L u e cl (λ y i. ty y (parts_others p y i)) li kk N M w sm lm (λ y i. gm y (parts_others p y i)) z q v (⊎_elim (λ s. inl ((or_parts (is_io S T n) (arm_is_io S T arms) s.0).1, s.1)) (λ s. inr (λ p i. s p (inr i))) sp) (λ p i. ha p (inr i)))
