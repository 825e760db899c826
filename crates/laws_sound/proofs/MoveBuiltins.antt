-- What builtins do to the world.
use Rattle.std.proofs.Common.{◌≡◌, ◌⊎◌, inl, inr, ℕ, List, [], ◌∷◌, ◌++◌, map, Bool, true, false, Option, Some, None, refl, sym, ap, ◌∙◌, subst, arith, ⊎_elim}
use Rattle.mc_program.specs.Values.{Val, int, char, str, con, state}
use Rattle.mc_program.specs.Programs.{TypeTerm, state_type}
use Rattle.mc_model.specs.Types.{instance_of, OfType}
use Rattle.mc_model.specs.Lists.{In, Among}
use Rattle.mc_model.specs.EventList.{Items, Stopped, Wrote, Read, Each, of_option}
use Rattle.mc_model.specs.Outcomes.{Outcome, fails, gives, throws, writes, reads, reads_and_throws, inputs_of}
use Rattle.mc_model.specs.Stream.{Bindings, unify, gather, both, apply_items, outcome_items, is_bound}
use Rattle.mc_model.specs.Good.{System, TypeChoice, BoundAs}
use Rattle.mc_accepted.specs.BuiltinFits.{EachOf, GivesOf, Throws, at_places}
use Rattle.mc_accepted.specs.BuiltinTypes.{Library_types, builtin_types}
use Rattle.mc_accepted.specs.ProperTypes.{Parameters, ProperType}
use Rattle.mc_accepted.specs.Ordered.{Insts, Mode, plain_modes, modes_of, at_inputs, at_outputs, UsableAt, Usable, After, implied_places, builtin_most, unless_never}
use Rattle.mc_accepted.specs.Determined.{Known, is_io_builtin, builtin_determinism}
use Rattle.mc_accepted.specs.Fits.{Fits}
use Rattle.mc_program.specs.declared.builtin.Builtin.{Builtin}
use Rattle.mc_program.specs.declared.builtin.Builtin.TheVariants as B
use Rattle.laws_sound.specs.code.Passes.{Grows, BindsOnly, TypedAt, Reached}
use Rattle.mc_accepted.specs.IoFits.{FitsIo, NoIo, Advances, LastIs}
use Rattle.laws_sound.specs.code.Moves.{Calm, World, Flow, Live, Holds, HoldsAfter, StateAt, AllowsShared, Shares, SharesAt, ReturnedWith, NoPlace, TakenAt, Made, Moves}
use Rattle.laws_sound.proofs.Arguments
use Rattle.laws_sound.proofs.Callings
use Rattle.laws_sound.proofs.Callings.{woven}
use Rattle.laws_sound.proofs.MoveCalls
use Rattle.laws_sound.proofs.MoveReturns.{MatchAt, unify_at, returned_holds}
use Rattle.mc_accepted.specs.Inclusion.{Path}
use Rattle.mc_source.specs.declared.det.Most.TheVariants.{One}
use Rattle.laws_sound.proofs.Lists
use Rattle.laws_sound.proofs.MoveArms.{quiet_option}
use Rattle.laws_sound.proofs.MoveAtoms.{StillAfter, still_holds, quiet_each}
use Rattle.laws_sound.proofs.MoveLists
use Rattle.laws_sound.proofs.MoveGiven.{AnswerShares, after_shares}
use Rattle.laws_sound.proofs.MoveQuiet.{none_new}
use Rattle.laws_sound.proofs.MoveShares.{ground_allows}
use Rattle.laws_sound.proofs.TypeInstances.{also_instance, none_of, is_value}
use Rattle.laws_language.proofs.FlatGoals.{in_either, in_left, in_right}
use Rattle.laws_sound.proofs.Binds.{true_not_false}

-- modes that leave `ground`
abbrev pub AllGround : List Mode → Type 0
AllGround [] = Unit {0}
AllGround (m ∷ ms) = (m.1 ≡ 1) × AllGround ms

plain_ground : (bs : List Bool) → AllGround (plain_modes bs)
plain_ground [] = tt
plain_ground (true ∷ bs) = (refl, plain_ground bs)
plain_ground (false ∷ bs) = (refl, plain_ground bs)

pub quiet_ground : (op : Builtin) → is_io_builtin op ≡ false → AllGround (modes_of op)
quiet_ground B.IntPlus e = plain_ground (inputs_of B.IntPlus)
quiet_ground B.IntMinus e = plain_ground (inputs_of B.IntMinus)
quiet_ground B.IntTimes e = plain_ground (inputs_of B.IntTimes)
quiet_ground B.IntQuotient e = plain_ground (inputs_of B.IntQuotient)
quiet_ground B.IntDiv e = plain_ground (inputs_of B.IntDiv)
quiet_ground B.IntMod e = plain_ground (inputs_of B.IntMod)
quiet_ground B.IntRem e = plain_ground (inputs_of B.IntRem)
quiet_ground B.IntNegate e = plain_ground (inputs_of B.IntNegate)
quiet_ground B.IntLess e = plain_ground (inputs_of B.IntLess)
quiet_ground B.IntGreater e = plain_ground (inputs_of B.IntGreater)
quiet_ground B.IntAtMost e = plain_ground (inputs_of B.IntAtMost)
quiet_ground B.IntAtLeast e = plain_ground (inputs_of B.IntAtLeast)
quiet_ground B.StringJoin e = plain_ground (inputs_of B.StringJoin)
quiet_ground B.StringLength e = plain_ground (inputs_of B.StringLength)
quiet_ground B.StringCodePoints e = plain_ground (inputs_of B.StringCodePoints)
quiet_ground B.IntToString e = plain_ground (inputs_of B.IntToString)
quiet_ground B.CharToString e = plain_ground (inputs_of B.CharToString)
quiet_ground B.ToCharList e = plain_ground (inputs_of B.ToCharList)
quiet_ground B.StringToInt e = plain_ground (inputs_of B.StringToInt)
quiet_ground B.CharToInt e = plain_ground (inputs_of B.CharToInt)
quiet_ground B.CharFromInt e = plain_ground (inputs_of B.CharFromInt)
quiet_ground B.CharIsDigit e = plain_ground (inputs_of B.CharIsDigit)
quiet_ground B.WriteString e = absurd (true_not_false e)
quiet_ground B.WriteChar e = absurd (true_not_false e)
quiet_ground B.WriteInt e = absurd (true_not_false e)
quiet_ground B.Write e = absurd (true_not_false e)
quiet_ground B.Nl e = absurd (true_not_false e)
quiet_ground B.ReadLine e = absurd (true_not_false e)
quiet_ground B.Error e = plain_ground (inputs_of B.Error)

ground_makes_none : (ms : List Mode) → AllGround ms → NoPlace Made ms
ground_makes_none [] g = tt
ground_makes_none (m ∷ ms) g = ((λ q. two (sym g.0 ∙ q)), ground_makes_none ms g.1)
  where
    two : (◌≡◌ {A = ℕ} 1 2) → ⊥
    two e = omega arith

module _ (S : System) (D : Parameters) (F : Fits S D) (θ : TypeChoice) (T : ℕ → TypeTerm) (proper : (x : ℕ) → ProperType D (T x)) where
  ground_shares : (ms : List Mode) (xs : List ℕ) (c : Insts) (a : Bindings) → AllGround ms → ((x : ℕ) (v : Val) → In x xs → a x ≡ Some v → OfType S.world.source v (instance_of θ (T x))) → AnswerShares S D F θ T proper ms xs a
  ground_shares [] xs c a g o = tt
  ground_shares (m ∷ ms) [] c a g o = tt
  ground_shares (m ∷ ms) (x ∷ xs) c a g o =
      ((λ n d v q path s. inr (ground_allows S.world.source S.insts F.types.arities v m.1 (ap S.insts g.0 ∙ F.insts.is_ground) (is_value S.world.source 0 v (instance_of θ (T x)) (o x v (inl refl) q)) path s)), ground_shares ms xs c a g.1 (λ z v i q. o z v (inr i) q))

  typed_value : (L : List ℕ) (c : Insts) (a : Bindings) → TypedAt S θ T L c a → (x : ℕ) (v : Val) → In x L → a x ≡ Some v → OfType S.world.source v (instance_of θ (T x))
  typed_value L c a t x v i q = (subst (λ o. BoundAs S θ (c x) (T x) o) q (t x i)).1

-- the forms of io's builtins: their modes, inputs and types
pub data IoForm : List Mode → List Bool → List TypeTerm → Type 0 where
  writer : {t : TypeTerm} → IoForm ((1, 1) ∷ (2, 3) ∷ (0, 2) ∷ []) (true ∷ true ∷ false ∷ []) (t ∷ state_type ∷ state_type ∷ [])
  line_end : IoForm ((2, 3) ∷ (0, 2) ∷ []) (true ∷ false ∷ []) (state_type ∷ state_type ∷ [])
  reader : {t : TypeTerm} → IoForm ((0, 1) ∷ (2, 3) ∷ (0, 2) ∷ []) (false ∷ true ∷ false ∷ []) (t ∷ state_type ∷ state_type ∷ [])

pub io_form : (K : Library_types) (op : Builtin) → is_io_builtin op ≡ true → IoForm (modes_of op) (inputs_of op) (builtin_types K op)
io_form K B.WriteString e = writer
io_form K B.WriteChar e = writer
io_form K B.WriteInt e = writer
io_form K B.Write e = writer
io_form K B.Nl e = line_end
io_form K B.ReadLine e = reader
io_form K B.IntPlus e = absurd (true_not_false (sym e))
io_form K B.IntMinus e = absurd (true_not_false (sym e))
io_form K B.IntTimes e = absurd (true_not_false (sym e))
io_form K B.IntQuotient e = absurd (true_not_false (sym e))
io_form K B.IntDiv e = absurd (true_not_false (sym e))
io_form K B.IntMod e = absurd (true_not_false (sym e))
io_form K B.IntRem e = absurd (true_not_false (sym e))
io_form K B.IntNegate e = absurd (true_not_false (sym e))
io_form K B.IntLess e = absurd (true_not_false (sym e))
io_form K B.IntGreater e = absurd (true_not_false (sym e))
io_form K B.IntAtMost e = absurd (true_not_false (sym e))
io_form K B.IntAtLeast e = absurd (true_not_false (sym e))
io_form K B.StringJoin e = absurd (true_not_false (sym e))
io_form K B.StringLength e = absurd (true_not_false (sym e))
io_form K B.StringCodePoints e = absurd (true_not_false (sym e))
io_form K B.IntToString e = absurd (true_not_false (sym e))
io_form K B.CharToString e = absurd (true_not_false (sym e))
io_form K B.ToCharList e = absurd (true_not_false (sym e))
io_form K B.StringToInt e = absurd (true_not_false (sym e))
io_form K B.CharToInt e = absurd (true_not_false (sym e))
io_form K B.CharFromInt e = absurd (true_not_false (sym e))
io_form K B.CharIsDigit e = absurd (true_not_false (sym e))
io_form K B.Error e = absurd (true_not_false (sym e))

pub io_most : (op : Builtin) → is_io_builtin op ≡ true → (builtin_most op ≡ One) × ((Rattle.mc_accepted.specs.Determined.builtin_determinism op).most ≡ One)
io_most op e = ⊎_elim (λ q. absurd (true_not_false (sym e ∙ ap is_io_builtin q))) (λ m. m) (Callings.builtin_view op)

-- the last of these inputs is the state
both_last : (o : Option Val) (w : List ℕ) (k : ℕ) (vs : List Val) → both o (both (Some (state w k)) (Some [])) ≡ Some vs → LastIs w vs
both_last None w k vs e = absurd (no vs e)
  where
    no : (vs : List Val) → None ≡ Some vs → ⊥
    no vs e = cc
both_last (Some v) w k vs e = subst (λ us. LastIs w us) (same vs e) (k, refl)
  where
    same : (vs : List Val) → Some (v ∷ state w k ∷ []) ≡ Some vs → v ∷ state w k ∷ [] ≡ vs
    same vs e = cc

one_last : (w : List ℕ) (k : ℕ) (vs : List Val) → both (Some (state w k)) (Some []) ≡ Some vs → LastIs w vs
one_last w k vs e = subst (λ us. LastIs w us) (same vs e) (k, refl)
  where
    same : (vs : List Val) → Some (state w k ∷ []) ≡ Some vs → state w k ∷ [] ≡ vs
    same vs e = cc

one_two : (◌≡◌ {A = ℕ} 1 2) → ⊥
one_two e = omega arith

three_two : (◌≡◌ {A = ℕ} 3 2) → ⊥
three_two e = omega arith

two_zero : (◌≡◌ {A = ℕ} 2 0) → ⊥
two_zero e = omega arith

-- what they return
pub io_returns : (P : Rattle.mc_program.specs.Programs.Source) (θ : TypeChoice) {ms : List Mode} {bs : List Bool} {ts : List TypeTerm} → IoForm ms bs ts → (w : List ℕ) (ws : List Val) → EachOf P θ (at_places false bs ts) ws → LastIs w ws → ReturnedWith ms (Some w) (woven bs ws)
io_returns P θ writer w [] o l = absurd o
io_returns P θ writer w (v ∷ u ∷ ws) o l = absurd o.1
io_returns P θ writer w (v ∷ []) o l = (((λ q. absurd (one_two q)), ((λ q. absurd (three_two q)), ((λ q. tt), tt))), ((λ q. absurd (one_two q)), ((λ q. absurd (three_two q)), ((λ q. (w, l.0, refl, ap Some l.1)), tt))))
io_returns P θ line_end w [] o l = absurd o
io_returns P θ line_end w (v ∷ u ∷ ws) o l = absurd o.1
io_returns P θ line_end w (v ∷ []) o l = (((λ q. absurd (three_two q)), ((λ q. tt), tt)), ((λ q. absurd (three_two q)), ((λ q. (w, l.0, refl, ap Some l.1)), tt)))
io_returns P θ reader w [] o l = absurd o
io_returns P θ reader w (v ∷ []) o l = absurd o.1
io_returns P θ reader w (v ∷ u ∷ x ∷ ws) o l = absurd o.1.1
io_returns P θ reader w (v ∷ u ∷ []) o l = (((λ q. absurd (one_two q)), ((λ q. absurd (three_two q)), ((λ q. tt), tt))), ((λ q. absurd (one_two q)), ((λ q. absurd (three_two q)), ((λ q. (w, l.0, refl, ap Some l.1)), tt))))

option_flow : (Q : World → Bindings → Type 0) (one : Bool) (W : World) (o : Option Bindings) → Each (Q W) (of_option o) → Flow Q one W (of_option o)
option_flow Q one W None h = tt
option_flow Q true W (Some a) h = (h.0, tt)
option_flow Q false W (Some a) h = (h.0, tt)

module _ (S : System) (D : Parameters) (F : Fits S D) (θ : TypeChoice) (T : ℕ → TypeTerm) (proper : (x : ℕ) → ProperType D (T x)) (σ : ℕ → TypeTerm) (b : Insts) (e : Bindings) where
  -- the variable that is taken
  pub io_taken : {ms : List Mode} {bs : List Bool} {ts : List TypeTerm} → IoForm ms bs ts → (all xs : List ℕ) → UsableAt S T all ms xs b → Arguments.TypesAt S D F θ T proper σ xs ts → TypedAt S θ T xs b e →
      (y : ℕ) × In y xs × Live S T b y × TakenAt S y ms xs × ((w : List ℕ) (k : ℕ) → e y ≡ Some (state w k) → (vs : List Val) → gather (at_inputs bs xs) e ≡ Some vs → LastIs w vs)
  io_taken writer all [] u y m = absurd u
  io_taken writer all (x ∷ []) u y m = absurd u.1
  io_taken writer all (x ∷ z ∷ []) u y m = absurd u.1.1
  io_taken writer all (x ∷ z ∷ v ∷ o ∷ xs) u y m = absurd u.1.1.1
  io_taken writer all (x ∷ z ∷ v ∷ []) u y m =
      let r = u.1.0 two_zero in (
        z,
        inr (inl refl),
        MoveCalls.live_at S D F θ T proper σ b e 2 z state_type refl refl y.1.0 r.0 r.1 (m z (inr (inl refl))),
        inr (inl (refl, F.insts.is_dead, refl)),
        (λ w k q vs g. both_last (e x) w k vs (subst (λ o. both (e x) (both o (Some [])) ≡ Some vs) q g)),
      )
  io_taken line_end all [] u y m = absurd u
  io_taken line_end all (x ∷ []) u y m = absurd u.1
  io_taken line_end all (x ∷ z ∷ v ∷ xs) u y m = absurd u.1.1
  io_taken line_end all (z ∷ v ∷ []) u y m =
      let r = u.0 two_zero in (
        z,
        inl refl,
        MoveCalls.live_at S D F θ T proper σ b e 2 z state_type refl refl y.0 r.0 r.1 (m z (inl refl)),
        inl (refl, F.insts.is_dead, refl),
        (λ w k q vs g. one_last w k vs (subst (λ o. both o (Some []) ≡ Some vs) q g)),
      )
  io_taken reader all [] u y m = absurd u
  io_taken reader all (x ∷ []) u y m = absurd u.1
  io_taken reader all (x ∷ z ∷ []) u y m = absurd u.1.1
  io_taken reader all (x ∷ z ∷ v ∷ o ∷ xs) u y m = absurd u.1.1.1
  io_taken reader all (x ∷ z ∷ v ∷ []) u y m =
      let r = u.1.0 two_zero in (
        z,
        inr (inl refl),
        MoveCalls.live_at S D F θ T proper σ b e 2 z state_type refl refl y.1.0 r.0 r.1 (m z (inr (inl refl))),
        inr (inl (refl, F.insts.is_dead, refl)),
        (λ w k q vs g. one_last w k vs (subst (λ o. both o (Some []) ≡ Some vs) q g)),
      )

  state_shares : (v : Val) (i : ℕ) (t : TypeTerm) → OfType S.world.source v (instance_of θ t) → t ≡ state_type → Shares S.world.source S.insts v i t
  state_shares v i t o q path s = on v (subst (λ u. OfType S.world.source v (instance_of θ u)) q o) path s
    where
      on : (v : Val) → OfType S.world.source v state_type → (path : Path) → StateAt v path → ((path ≡ []) × (t ≡ state_type)) ⊎ AllowsShared S.world.source S.insts path i
      on (int n) o path s = absurd s
      on (char n) o path s = absurd s
      on (str n) o path s = absurd s
      on (con g vs) o path s = absurd (none_of S.world.source vs o)
      on (state w k) o [] s = inl (refl, q)
      on (state w k) o (step ∷ path) s = absurd s

  ground_one : (x : ℕ) (a : Bindings) → ((v : Val) → a x ≡ Some v → OfType S.world.source v (instance_of θ (T x))) → (v : Val) → a x ≡ Some v → Shares S.world.source S.insts v 1 (T x)
  ground_one x a o v q path s = inr (ground_allows S.world.source S.insts F.types.arities v 1 F.insts.is_ground (is_value S.world.source 0 v (instance_of θ (T x)) (o v q)) path s)

  io_shares : {ms : List Mode} {bs : List Bool} {ts : List TypeTerm} → IoForm ms bs ts → (xs : List ℕ) (a : Bindings) → Arguments.TypesAt S D F θ T proper σ xs ts → ((x : ℕ) (v : Val) → In x xs → a x ≡ Some v → OfType S.world.source v (instance_of θ (T x))) → AnswerShares S D F θ T proper ms xs a
  io_shares writer [] a y o = tt
  io_shares writer (x ∷ []) a y o = absurd y.1
  io_shares writer (x ∷ z ∷ []) a y o = absurd y.1.1
  io_shares writer (x ∷ z ∷ u ∷ xs) a y o = ((λ n d v q. ground_one x a (λ v q. o x v (inl refl) q) v q), ((λ n d. absurd (d F.insts.is_dead)), ((λ n d v q. state_shares v 2 (T u) (o u v (inr (inr (inl refl))) q) y.1.1.0), tt)))
  io_shares line_end [] a y o = tt
  io_shares line_end (x ∷ []) a y o = absurd y.1
  io_shares line_end (z ∷ u ∷ xs) a y o = ((λ n d. absurd (d F.insts.is_dead)), ((λ n d v q. state_shares v 2 (T u) (o u v (inr (inl refl)) q) y.1.0), tt))
  io_shares reader [] a y o = tt
  io_shares reader (x ∷ []) a y o = absurd y.1
  io_shares reader (x ∷ z ∷ []) a y o = absurd y.1.1
  io_shares reader (x ∷ z ∷ u ∷ xs) a y o = ((λ n d v q. ground_one x a (λ v q. o x v (inl refl) q) v q), ((λ n d. absurd (d F.insts.is_dead)), ((λ n d v q. state_shares v 2 (T u) (o u v (inr (inr (inl refl))) q) y.1.1.0), tt)))

  module _ (M : List ℕ) (sm : SharesAt S T M b e) (K : Library_types) (io : FitsIo S.world K) (known : Known) (L : List ℕ) (p : ℕ) (op : Builtin) (xs : List ℕ) (c : Insts) (is : (S.world.source.preds p).builtin ≡ Some op) (types : Arguments.TypesAt S D F θ T proper σ xs (S.world.source.preds p).types) (usable : Usable S T (modes_of op) xs b)
      (none : implied_places 0 (modes_of op) xs (λ x. is_bound (b x)) ≡ []) (after : After S T (modes_of op) xs b c) (typed : TypedAt S θ T xs b e) (live : TypedAt S θ T L b e) (lm : Among L M) (xm : Among xs M) where
    both_live : TypedAt S θ T (L ++ xs) b e
    both_live x i = ⊎_elim (λ j. live x j) (λ j. typed x j) (in_either x L xs i)

    -- each answer of these outputs
    output_each : (ws : List Val) → builtin_most op ≡ One → (builtin_determinism op).most ≡ One → EachOf S.world.source (also_instance θ σ) (at_places false (inputs_of op) (S.world.source.preds p).types) ws →
        Each (λ a. (Grows e a × TypedAt S θ T (L ++ xs) c a) × MatchAt xs (woven (inputs_of op) ws) a) (of_option (unify (at_outputs (inputs_of op) xs) (map Some ws) e))
    output_each ws m d o =
        let s = Callings.gives_sound S D F θ T proper known (L ++ xs) p op σ xs b c e is types usable none after typed both_live ws m d o in
        let r = Callings.outputs_answer S D F θ T proper known (L ++ xs) (inputs_of op) (modes_of op) xs xs (S.world.source.preds p).types σ b e ws (Callings.modes_fit S D F θ T proper known (L ++ xs) op) usable types typed o in
        let q = Callings.unify_woven S D F θ T proper known (L ++ xs) (inputs_of op) xs ws e r.1 in
        Lists.each_both (λ a. Grows e a × TypedAt S θ T (L ++ xs) c a) (MatchAt xs (woven (inputs_of op) ws)) (of_option (unify (at_outputs (inputs_of op) xs) (map Some ws) e))
        (Lists.each_map (λ a. Grows e a × (BindsOnly (at_inputs (inputs_of op) xs ++ at_outputs (inputs_of op) xs) e a × Reached S θ T (L ++ xs) (unless_never (builtin_most op) c) a)) (λ a. Grows e a × TypedAt S θ T (L ++ xs) c a) (λ a z. (z.0, subst (λ k. Reached S θ T (L ++ xs) (unless_never k c) a) m z.1.1)) (of_option (unify (at_outputs (inputs_of op) xs) (map Some ws) e)) s.each)
        (subst (λ k. Each (MatchAt xs (woven (inputs_of op) ws)) (of_option k)) q (unify_at xs (woven (inputs_of op) ws) e))

    values : (a : Bindings) → TypedAt S θ T (L ++ xs) c a → (x : ℕ) (v : Val) → In x xs → a x ≡ Some v → OfType S.world.source v (instance_of θ (T x))
    values a t x v i q = typed_value S D F θ T proper (L ++ xs) c a t x v (in_right x L xs i) q

    shared_after : (a : Bindings) → Grows e a → TypedAt S θ T (L ++ xs) c a → AnswerShares S D F θ T proper (modes_of op) xs a → SharesAt S T L c a
    shared_after a g t s = after_shares S D F θ T proper after L M e a lm sm live (λ x i. t x (in_left x L xs i)) g s

    quiet_after : is_io_builtin op ≡ false → (r : Outcome) → NoIo r → GivesOf S.world.source (also_instance θ σ) (at_places false (inputs_of op) (S.world.source.preds p).types) r → (op ≡ B.Error → Throws r) → (op ≡ B.Error) ⊎ ((builtin_most op ≡ One) × ((builtin_determinism op).most ≡ One)) →
        Calm (StillAfter S D F T L b e (unless_never (builtin_most op) c)) (outcome_items (at_outputs (inputs_of op) xs) e r)
    quiet_after f fails n g t v = tt
    quiet_after f (throws x) n g t v = tt
    quiet_after f (writes x ws) n g t v = absurd n
    quiet_after f (reads x ws) n g t v = absurd n
    quiet_after f (reads_and_throws x ws) n g t v = absurd n
    quiet_after f (gives ws) n g t v =
        ⊎_elim (λ q. absurd (t q))
        (λ m.
        let gr = quiet_ground op f in
        subst (λ k. Calm (StillAfter S D F T L b e (unless_never k c)) (of_option (unify (at_outputs (inputs_of op) xs) (map Some ws) e))) (sym m.0)
        (quiet_each (StillAfter S D F T L b e (Some c)) (of_option (unify (at_outputs (inputs_of op) xs) (map Some ws) e)) (quiet_option (unify (at_outputs (inputs_of op) xs) (map Some ws) e))
        (Lists.each_map (λ a. (Grows e a × TypedAt S θ T (L ++ xs) c a) × MatchAt xs (woven (inputs_of op) ws) a) (StillAfter S D F T L b e (Some c))
        (λ a z. (none_new S D F T L after (ground_makes_none (modes_of op) gr), (z.0.0, shared_after a z.0.0 z.0.1 (ground_shares S D F θ T proper (modes_of op) xs c a gr (values a z.0.1)))))
        (of_option (unify (at_outputs (inputs_of op) xs) (map Some ws) e)) (output_each ws m.0 m.1 g)))) v

    inputs : (vs : List Val) × (gather (at_inputs (inputs_of op) xs) e ≡ Some vs) × EachOf S.world.source (also_instance θ σ) (at_places true (inputs_of op) (S.world.source.preds p).types) vs
    inputs = Callings.inputs_there S D F θ T proper known L (inputs_of op) (modes_of op) xs xs (S.world.source.preds p).types σ b e (Callings.modes_fit S D F θ T proper known L op) usable types typed

    outputs : GivesOf S.world.source (also_instance θ σ) (at_places false (inputs_of op) (S.world.source.preds p).types) (S.world.outcome op inputs.0)
    outputs = F.builtins.outputs (also_instance θ σ) p op inputs.0 is inputs.2

    abbrev run : Items Bindings
    run = apply_items (S.world.outcome op) (at_outputs (inputs_of op) xs) e (gather (at_inputs (inputs_of op) xs) e)

    -- a builtin that does no io
    pub quiet_apply : is_io_builtin op ≡ false → Calm (StillAfter S D F T L b e (unless_never (builtin_most op) c)) (apply_items (S.world.outcome op) (at_outputs (inputs_of op) xs) e (gather (at_inputs (inputs_of op) xs) e))
    quiet_apply t =
        subst (λ o. Calm (StillAfter S D F T L b e (unless_never (builtin_most op) c)) (apply_items (S.world.outcome op) (at_outputs (inputs_of op) xs) e o)) (sym inputs.1)
        (quiet_after t (S.world.outcome op inputs.0) (io.quiet p op inputs.0 is t) outputs (λ q. subst (λ k. (S.world.source.preds p).builtin ≡ Some k → EachOf S.world.source (also_instance θ σ) (at_places true (inputs_of k) (S.world.source.preds p).types) inputs.0 → Throws (S.world.outcome k inputs.0)) (sym q) (λ i z. F.builtins.error_throws (also_instance θ σ) p inputs.0 i z) is inputs.2) (Callings.builtin_view op))

    -- one that does takes a state
    pub apply_taken : is_io_builtin op ≡ true → (y : ℕ) × In y xs × Live S T b y × TakenAt S y (modes_of op) xs × ((w : List ℕ) (k : ℕ) → e y ≡ Some (state w k) → (vs : List Val) → gather (at_inputs (inputs_of op) xs) e ≡ Some vs → LastIs w vs)
    apply_taken t = io_taken (io_form K op t) xs xs usable (subst (λ us. Arguments.TypesAt S D F θ T proper σ xs us) (io.named p op is).1 types) typed

    module _ (W : World) (hw : Holds S T W M b e) (one : Bool) where
      io_each : (w : List ℕ) (ws : List Val) → is_io_builtin op ≡ true → EachOf S.world.source (also_instance θ σ) (at_places false (inputs_of op) (S.world.source.preds p).types) ws → LastIs w ws → (y : ℕ) → In y xs → Live S T b y → TakenAt S y (modes_of op) xs → Each (HoldsAfter S T L (Some c) (Some w)) (of_option (unify (at_outputs (inputs_of op) xs) (map Some ws) e))
      io_each w ws t o l y yi ly ty =
          let m = io_most op t in
          let form = io_form K op t in
          let ts = (io.named p op is).1 in
          Lists.each_map (λ a. (Grows e a × TypedAt S θ T (L ++ xs) c a) × MatchAt xs (woven (inputs_of op) ws) a) (HoldsAfter S T L (Some c) (Some w))
          (λ a z. returned_holds S D F T W (Some w) M L (modes_of op) xs (woven (inputs_of op) ws) b c e a after lm hw y (xm y yi) ly ty (io_returns S.world.source (also_instance θ σ) form w ws (subst (λ us. EachOf S.world.source (also_instance θ σ) (at_places false (inputs_of op) us) ws) ts o) l) z.1
          (shared_after a z.0.0 z.0.1 (io_shares form xs a (subst (λ us. Arguments.TypesAt S D F θ T proper σ xs us) ts types) (values a z.0.1))))
          (of_option (unify (at_outputs (inputs_of op) xs) (map Some ws) e)) (output_each ws m.0 m.1 o)

      io_moves : is_io_builtin op ≡ true → (w : List ℕ) → W ≡ Some w → (y : ℕ) → In y xs → Live S T b y → TakenAt S y (modes_of op) xs → (r : Outcome) → Advances w r → GivesOf S.world.source (also_instance θ σ) (at_places false (inputs_of op) (S.world.source.preds p).types) r → Flow (HoldsAfter S T L (Some c)) one W (outcome_items (at_outputs (inputs_of op) xs) e r)
      io_moves t w q y yi ly ty fails n g = absurd n
      io_moves t w q y yi ly ty (throws x) n g = tt
      io_moves t w q y yi ly ty (gives ws) n g = subst (λ V. Flow (HoldsAfter S T L (Some c)) one V (of_option (unify (at_outputs (inputs_of op) xs) (map Some ws) e))) (sym q) (option_flow (HoldsAfter S T L (Some c)) one (Some w) (unify (at_outputs (inputs_of op) xs) (map Some ws) e) (io_each w ws t g n y yi ly ty))
      io_moves t w q y yi ly ty (writes x ws) n g = subst (λ V. Flow (HoldsAfter S T L (Some c)) one V (Wrote x (of_option (unify (at_outputs (inputs_of op) xs) (map Some ws) e)))) (sym q) (option_flow (HoldsAfter S T L (Some c)) one (Some (w ++ x)) (unify (at_outputs (inputs_of op) xs) (map Some ws) e) (io_each (w ++ x) ws t g n y yi ly ty))
      io_moves t w q y yi ly ty (reads x ws) n g = subst (λ V. Flow (HoldsAfter S T L (Some c)) one V (Read x (of_option (unify (at_outputs (inputs_of op) xs) (map Some ws) e)))) (sym q) (option_flow (HoldsAfter S T L (Some c)) one (Some w) (unify (at_outputs (inputs_of op) xs) (map Some ws) e) (io_each w ws t g n y yi ly ty))
      io_moves t w q y yi ly ty (reads_and_throws x z) n g = subst (λ V. Flow (HoldsAfter S T L (Some c)) one V (Read x (Stopped (Rattle.mc_model.specs.EventList.thrown z)))) (sym q) tt

      pub apply_moves : Moves (HoldsAfter S T L (unless_never (builtin_most op) c)) (is_io_builtin op) one W (apply_items (S.world.outcome op) (at_outputs (inputs_of op) xs) e (gather (at_inputs (inputs_of op) xs) e))
      apply_moves = on (is_io_builtin op) refl
        where
          on : (t : Bool) → is_io_builtin op ≡ t → Moves (HoldsAfter S T L (unless_never (builtin_most op) c)) t one W run
          on false t = MoveLists.calm_map (StillAfter S D F T L b e (unless_never (builtin_most op) c)) (HoldsAfter S T L (unless_never (builtin_most op) c) W) (still_holds S D F T W M L b e (unless_never (builtin_most op) c) lm hw) run (quiet_apply t)
          on true t =
              let y = apply_taken t in
              let w = hw.tells y.0 (xm y.0 y.1) y.2 in
              subst (λ k. Flow (HoldsAfter S T L (unless_never k c)) one W run) (sym (io_most op t).0)
              (subst (λ o. Flow (HoldsAfter S T L (Some c)) one W (apply_items (S.world.outcome op) (at_outputs (inputs_of op) xs) e o)) (sym inputs.1)
              (io_moves t w.0 w.2 y.0 y.1 y.2 y.3 (S.world.outcome op inputs.0) (io.advances (also_instance θ σ) p op w.0 inputs.0 is inputs.2 t (y.4 w.0 w.1 w.3 inputs.0 inputs.1)) outputs))
