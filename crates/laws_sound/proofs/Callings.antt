-- The first pass at calls and builtins.
use Rattle.std.proofs.Common.{◌≡◌, ◌≢◌, ◌⊎◌, inl, inr, ℕ, zero, suc, ◌++◌, List, [], ◌∷◌, map, Bool, true, false, cond, not, ◌||◌, ◌&&◌, Option, Some, None, refl, sym, ap, ap₂, ◌∙◌, subst, arith, ⊎_elim}
use Rattle.std.proofs.Math.Path.{fun_ext}
use Rattle.std.proofs.lemmas.Bool.{or_parts}
use Rattle.mc_program.specs.Values.{Val}
use Rattle.mc_program.specs.Programs.{TypeTerm}
use Rattle.mc_model.specs.Types.{instance_of, OfType}
use Rattle.mc_model.specs.EventList.{Items, Stopped, Wrote, Read, too_deep, bind, Each, AtMost, Succeeds, of_option}
use Rattle.mc_model.specs.Stream.{Bindings, meet, and_then, unify, gather, both, is_bound, below, at_height, outcome_items, apply_items}
use Rattle.mc_model.specs.Outcomes.{Outcome, fails, gives, throws, writes, reads, reads_and_throws, inputs_of}
use Rattle.mc_model.specs.Scheduled.{Procedure}
use Rattle.mc_source.specs.Determinism.{Determinism, semidet, conj, row_of, is_zero, greater}
use Rattle.mc_accepted.specs.Ordered.{Insts, Mode, plain_modes, modes_of, modes_of_procedure, at_inputs, at_outputs, UsableAt, Usable, After, implied_places, unless_never, builtin_most}
use Rattle.mc_accepted.specs.Determined.{Known, then_tests, builtin_determinism}
use Rattle.mc_model.specs.Good.{System, TypeChoice, Shape, Given, Keeps, GivenCall, types_of}
use Rattle.mc_accepted.specs.ProperTypes.{Parameters, ProperType}
use Rattle.mc_accepted.specs.BuiltinFits.{at_places, EachOf, GivesOf, Throws}
use Rattle.mc_accepted.specs.Fits.{Fits}
use Rattle.laws_sound.specs.code.Passes.{Grows, BindsOnly, TypedAt, Reached, Sound, CallSound}
use Rattle.mc_program.specs.declared.builtin.Builtin.{Builtin}
use Rattle.mc_program.specs.declared.builtin.Builtin.TheVariants as B
use Rattle.mc_source.specs.declared.det.Most.{Most}
use Rattle.mc_source.specs.declared.det.Most.TheVariants.{Zero, One, Many}
use Rattle.laws_sound.proofs.Binds
use Rattle.laws_sound.proofs.CallLists
use Rattle.laws_sound.proofs.Counts.{times_one}
use Rattle.laws_sound.proofs.Lists
use Rattle.laws_sound.proofs.Typed
use Rattle.laws_sound.proofs.Typed.{bound_is}
use Rattle.laws_sound.proofs.Atoms
use Rattle.laws_sound.proofs.Atoms.{unify_binds, binds_more, none_at_most, at_most_option, calls_option}
use Rattle.laws_sound.proofs.Arguments
use Rattle.laws_sound.proofs.TypeInstances.{also_instance, instance_twice, IsPlain}
use Rattle.laws_language.proofs.FlatGoals.{in_right}
use Rattle.laws_sound.proofs.Binds.{true_not_false}

-- a call with tests of its implied arguments
conj_semidet : (m : Most) → cond (is_zero m || is_zero One) Zero (greater m One) ≡ m
conj_semidet Zero = refl
conj_semidet One = refl
conj_semidet Many = refl

tests_most : (is : List ℕ) (d : Determinism) → (then_tests is d).most ≡ d.most
tests_most [] d = refl
tests_most (k ∷ is) d = tests_most is (conj d semidet) ∙ conj_semidet d.most

zero_most : (m : Most) → (not (is_zero m) && true) ≡ false → m ≡ Zero
zero_most Zero e = refl
zero_most One e = absurd (true_not_false e)
zero_most Many e = absurd (true_not_false e)

tests_fail : (is : List ℕ) (d : Determinism) → (then_tests is d).can_fail ≡ false → (d.can_fail ≡ false) × ((is ≡ []) ⊎ (d.most ≡ Zero))
tests_fail [] d e = (e, inl refl)
tests_fail (k ∷ is) d e =
    let r = tests_fail is (conj d semidet) e in
    let p = or_parts d.can_fail (not (is_zero d.most) && true) r.0 in
    (p.0, inr (zero_most d.most p.1))

row_count : {A : Type 0} (c : Bool) (m : Most) (xs : Items A) → AtMost m xs → AtMost (cond c Many m) xs
row_count true m xs h = tt
row_count false m xs h = h

row_zero : (c : Bool) (m : Most) → cond c Many m ≡ Zero → m ≡ Zero
row_zero true m e = cc
row_zero false m e = e

stop_at_most : (A : Type 0) (m : Most) → AtMost {A = A} m (Stopped too_deep)
stop_at_most A m = none_at_most {A = A} m (Stopped too_deep) refl

-- the outputs of a builtin at their places
abbrev pub woven : List Bool → List Val → List (Option Val)
woven [] vs = []
woven (true ∷ bs) vs = None ∷ woven bs vs
woven (false ∷ bs) [] = []
woven (false ∷ bs) (v ∷ vs) = Some v ∷ woven bs vs

abbrev pub Lined : List Bool → List ℕ → List Val → Type 0
Lined [] [] [] = Unit {0}
Lined (true ∷ bs) (x ∷ xs) vs = Lined bs xs vs
Lined (false ∷ bs) (x ∷ xs) (v ∷ vs) = Lined bs xs vs
Lined _ _ _ = ⊥

pub builtin_view : (op : Builtin) → (op ≡ B.Error) ⊎ ((builtin_most op ≡ One) × ((builtin_determinism op).most ≡ One))
builtin_view B.IntPlus = inr (refl, refl)
builtin_view B.IntMinus = inr (refl, refl)
builtin_view B.IntTimes = inr (refl, refl)
builtin_view B.IntQuotient = inr (refl, refl)
builtin_view B.IntDiv = inr (refl, refl)
builtin_view B.IntMod = inr (refl, refl)
builtin_view B.IntRem = inr (refl, refl)
builtin_view B.IntNegate = inr (refl, refl)
builtin_view B.IntLess = inr (refl, refl)
builtin_view B.IntGreater = inr (refl, refl)
builtin_view B.IntAtMost = inr (refl, refl)
builtin_view B.IntAtLeast = inr (refl, refl)
builtin_view B.StringJoin = inr (refl, refl)
builtin_view B.StringLength = inr (refl, refl)
builtin_view B.StringCodePoints = inr (refl, refl)
builtin_view B.IntToString = inr (refl, refl)
builtin_view B.CharToString = inr (refl, refl)
builtin_view B.ToCharList = inr (refl, refl)
builtin_view B.StringToInt = inr (refl, refl)
builtin_view B.CharToInt = inr (refl, refl)
builtin_view B.CharFromInt = inr (refl, refl)
builtin_view B.CharIsDigit = inr (refl, refl)
builtin_view B.WriteString = inr (refl, refl)
builtin_view B.WriteChar = inr (refl, refl)
builtin_view B.WriteInt = inr (refl, refl)
builtin_view B.Write = inr (refl, refl)
builtin_view B.Nl = inr (refl, refl)
builtin_view B.ReadLine = inr (refl, refl)
builtin_view B.Error = inl refl

module _ (S : System) (θ : TypeChoice) (T : ℕ → TypeTerm) (known : Known) (L : List ℕ) where
  below_sound : (vs : List ℕ) (e : Bindings) (o : Option Insts) (d : Determinism) (h : ℕ) (f : ℕ → Items Bindings) → ((k : ℕ) → Sound S θ T known L vs e o d (f k)) → Sound S θ T known L vs e o d (below h f)
  below_sound vs e o d zero f s = record { each = tt; calls = tt; count = λ k. stop_at_most Bindings d.most; sure = λ k q. tt }
  below_sound vs e o d (suc h) f s = s h

  pub height_sound : (vs : List ℕ) (e : Bindings) (o : Option Insts) (d : Determinism) (last : Bool) (h : ℕ) (f : ℕ → Items Bindings) → ((k : ℕ) → Sound S θ T known L vs e o d (f k)) → Sound S θ T known L vs e o d (at_height last h f)
  height_sound vs e o d true h f s = s h
  height_sound vs e o d false h f s = below_sound vs e o d h f s

module _ (S : System) (D : Parameters) (F : Fits S D) (θ : TypeChoice) (T : ℕ → TypeTerm) (proper : (x : ℕ) → ProperType D (T x)) (known : Known) (L : List ℕ) where
  -- a call of a procedure
  module _ (p : Procedure) (σ : ℕ → TypeTerm) (xs : List ℕ) (b c : Insts) (e : Bindings) (ys : Items (List (Option Val))) (types : Arguments.TypesAt S D F θ T proper σ xs (types_of S p)) (after : After S T (modes_of_procedure p) xs b c)
      (given : Given S (also_instance θ σ) p.first (types_of S p) (map e xs)) (typed : TypedAt S θ T xs b e) (live : TypedAt S θ T L b e) (called : CallSound S (also_instance θ σ) p (map e xs) ys) where
    abbrev pub Answered : List (Option Val) → Type 0
    Answered os = Shape S (also_instance θ σ) p.last (types_of S p) os × Keeps p.first (map e xs) os

    pub answers_of : (os : List (Option Val)) → Answered os → Arguments.Answers S D F θ T proper (modes_of_procedure p) xs e os
    answers_of os h = Arguments.shape_answers S D F θ T proper σ p.first p.last xs (types_of S p) e os types h.0 h.1 given

    pub call_option : (os : List (Option Val)) → Answered os → Each (λ a. Grows e a × (BindsOnly xs e a × TypedAt S θ T L c a)) (of_option (unify xs os e))
    call_option os h =
        Lists.each_both (λ a. Grows e a) (λ a. BindsOnly xs e a × TypedAt S θ T L c a) (of_option (unify xs os e)) (Binds.unify_extends xs os e)
        (Lists.each_both (λ a. BindsOnly xs e a) (TypedAt S θ T L c) (of_option (unify xs os e)) (unify_binds xs os e)
        (Arguments.after_typed S D F θ T proper after L os e e (answers_of os h) (Binds.extends_refl e) live typed (λ x i q. Typed.typed_flat S D F θ T proper xs b e typed x i ∙ q)))

    call_each : (m : Most) → AtMost m ys → Each Answered ys → Each (λ a. Grows e a × (BindsOnly xs e a × Reached S θ T L (unless_never m c) a)) (bind ys (λ os. of_option (unify xs os e)))
    call_each Zero n h = Lists.each_bind (λ os. ⊥) (λ a. Grows e a × (BindsOnly xs e a × ⊥)) (λ os. of_option (unify xs os e)) ys (Lists.each_none Answered ys n h) (λ os z. absurd z)
    call_each One n h = Lists.each_bind Answered (λ a. Grows e a × (BindsOnly xs e a × TypedAt S θ T L c a)) (λ os. of_option (unify xs os e)) ys h call_option
    call_each Many n h = Lists.each_bind Answered (λ a. Grows e a × (BindsOnly xs e a × TypedAt S θ T L c a)) (λ os. of_option (unify xs os e)) ys h call_option

    call_count : AtMost p.det.most (bind ys (λ os. of_option (unify xs os e)))
    call_count = subst (λ k. AtMost k (bind ys (λ os. of_option (unify xs os e)))) (times_one p.det.most) (Lists.at_most_bind Answered (λ os. of_option (unify xs os e)) p.det.most One ys called.each called.count (λ os h. at_most_option One (unify xs os e) refl))

    call_sure : (implied_places 0 (modes_of_procedure p) xs (λ x. is_bound (b x)) ≡ []) ⊎ ((row_of p.det).most ≡ Zero) → Succeeds ys → Succeeds (bind ys (λ os. of_option (unify xs os e)))
    call_sure h s =
        ⊎_elim
        (λ i. Lists.succeeds_bind Answered (λ os. of_option (unify xs os e)) ys called.each s (λ os a. Arguments.answers_succeed S D F θ T proper (modes_of_procedure p) xs 0 (λ x. is_bound (b x)) os e e i (answers_of os a) (Typed.typed_flat S D F θ T proper xs b e typed) (Binds.extends_refl e)))
        (λ z. Lists.succeeds_bind (λ os. ⊥) (λ os. of_option (unify xs os e)) ys (Lists.each_none Answered ys (subst (λ k. AtMost k ys) (row_zero p.det.committed p.det.most z) called.count) called.each) s (λ os a. absurd a)) h

    pub call_sound : Sound S θ T known L xs e (unless_never p.det.most c) (then_tests (implied_places 0 (modes_of_procedure p) xs (λ x. is_bound (b x))) (row_of p.det)) (bind ys (λ os. of_option (unify xs os e)))
    call_sound =
        record {
          each = call_each p.det.most called.count called.each;
          calls = CallLists.calls_bind (GivenCall S) Answered (λ os. of_option (unify xs os e)) ys called.each called.calls (λ os a. calls_option S (unify xs os e));
          count = λ k. subst (λ m. AtMost m (bind ys (λ os. of_option (unify xs os e)))) (sym (tests_most (implied_places 0 (modes_of_procedure p) xs (λ x. is_bound (b x))) (row_of p.det))) (row_count p.det.committed p.det.most (bind ys (λ os. of_option (unify xs os e))) call_count);
          sure = λ k q. let r = tests_fail (implied_places 0 (modes_of_procedure p) xs (λ x. is_bound (b x))) (row_of p.det) q in call_sure r.1 (called.sure r.0);
        }

  -- the modes of builtins
  abbrev pub PlainAt : ℕ → Type 0
  PlainAt i = (i ≢ 0) × IsPlain (S.insts i)

  abbrev pub FitsModes : List Bool → List Mode → Type 0
  FitsModes [] [] = Unit {0}
  FitsModes (true ∷ bs) (m ∷ ms) = (m.0 ≢ 0) × PlainAt m.1 × FitsModes bs ms
  FitsModes (false ∷ bs) (m ∷ ms) = (m.0 ≡ 0) × PlainAt m.1 × FitsModes bs ms
  FitsModes _ _ = ⊥

  is_one : (◌≡◌ {A = ℕ} 1 0) → ⊥
  is_one e = omega arith

  is_two : (◌≡◌ {A = ℕ} 2 0) → ⊥
  is_two e = omega arith

  is_three : (◌≡◌ {A = ℕ} 3 0) → ⊥
  is_three e = omega arith

  plain_one : PlainAt 1
  plain_one = (is_one, subst IsPlain (sym F.insts.is_ground) tt)

  plain_two : PlainAt 2
  plain_two = (is_two, subst IsPlain (sym F.insts.is_unique) tt)

  plain_three : PlainAt 3
  plain_three = (is_three, subst IsPlain (sym F.insts.is_dead) tt)

  plain_fit : (bs : List Bool) → FitsModes bs (plain_modes bs)
  plain_fit [] = tt
  plain_fit (true ∷ bs) = (is_one, plain_one, plain_fit bs)
  plain_fit (false ∷ bs) = (refl, plain_one, plain_fit bs)

  pub modes_fit : (op : Builtin) → FitsModes (inputs_of op) (modes_of op)
  modes_fit B.IntPlus = plain_fit (inputs_of B.IntPlus)
  modes_fit B.IntMinus = plain_fit (inputs_of B.IntMinus)
  modes_fit B.IntTimes = plain_fit (inputs_of B.IntTimes)
  modes_fit B.IntQuotient = plain_fit (inputs_of B.IntQuotient)
  modes_fit B.IntDiv = plain_fit (inputs_of B.IntDiv)
  modes_fit B.IntMod = plain_fit (inputs_of B.IntMod)
  modes_fit B.IntRem = plain_fit (inputs_of B.IntRem)
  modes_fit B.IntNegate = plain_fit (inputs_of B.IntNegate)
  modes_fit B.IntLess = plain_fit (inputs_of B.IntLess)
  modes_fit B.IntGreater = plain_fit (inputs_of B.IntGreater)
  modes_fit B.IntAtMost = plain_fit (inputs_of B.IntAtMost)
  modes_fit B.IntAtLeast = plain_fit (inputs_of B.IntAtLeast)
  modes_fit B.StringJoin = plain_fit (inputs_of B.StringJoin)
  modes_fit B.StringLength = plain_fit (inputs_of B.StringLength)
  modes_fit B.StringCodePoints = plain_fit (inputs_of B.StringCodePoints)
  modes_fit B.IntToString = plain_fit (inputs_of B.IntToString)
  modes_fit B.CharToString = plain_fit (inputs_of B.CharToString)
  modes_fit B.ToCharList = plain_fit (inputs_of B.ToCharList)
  modes_fit B.StringToInt = plain_fit (inputs_of B.StringToInt)
  modes_fit B.CharToInt = plain_fit (inputs_of B.CharToInt)
  modes_fit B.CharFromInt = plain_fit (inputs_of B.CharFromInt)
  modes_fit B.CharIsDigit = plain_fit (inputs_of B.CharIsDigit)
  modes_fit B.WriteString = (is_one, plain_one, (is_two, plain_three, (refl, plain_two, tt)))
  modes_fit B.WriteChar = (is_one, plain_one, (is_two, plain_three, (refl, plain_two, tt)))
  modes_fit B.WriteInt = (is_one, plain_one, (is_two, plain_three, (refl, plain_two, tt)))
  modes_fit B.Write = (is_one, plain_one, (is_two, plain_three, (refl, plain_two, tt)))
  modes_fit B.Nl = (is_two, plain_three, (refl, plain_two, tt))
  modes_fit B.ReadLine = (refl, plain_one, (is_two, plain_three, (refl, plain_two, tt)))
  modes_fit B.Error = plain_fit (inputs_of B.Error)

  pub unify_woven : (bs : List Bool) (xs : List ℕ) (vs : List Val) (a : Bindings) → Lined bs xs vs → unify xs (woven bs vs) a ≡ unify (at_outputs bs xs) (map Some vs) a
  unify_woven [] [] [] a l = refl
  unify_woven [] [] (v ∷ vs) a l = absurd l
  unify_woven [] (x ∷ xs) vs a l = absurd l
  unify_woven (true ∷ bs) [] vs a l = absurd l
  unify_woven (false ∷ bs) [] vs a l = absurd l
  unify_woven (true ∷ bs) (x ∷ xs) vs a l = unify_woven bs xs vs a l
  unify_woven (false ∷ bs) (x ∷ xs) [] a l = absurd l
  unify_woven (false ∷ bs) (x ∷ xs) (v ∷ vs) a l = ap (λ f. and_then (meet x v a (a x)) f) (fun_ext (λ c. unify_woven bs xs vs c l))

  -- the inputs of a builtin, and its outputs as an answer
  pub inputs_there : (bs : List Bool) (ms : List Mode) (all xs : List ℕ) (ts : List TypeTerm) (σ : ℕ → TypeTerm) (b : Insts) (e : Bindings) → FitsModes bs ms → UsableAt S T all ms xs b → Arguments.TypesAt S D F θ T proper σ xs ts → TypedAt S θ T xs b e →
      (vs : List Val) × (gather (at_inputs bs xs) e ≡ Some vs) × EachOf S.world.source (also_instance θ σ) (at_places true bs ts) vs
  inputs_there [] [] all [] [] σ b e f u y t = ([], refl, tt)
  inputs_there [] [] all [] (k ∷ ts) σ b e f u y t = absurd y
  inputs_there [] [] all (x ∷ xs) ts σ b e f u y t = absurd u
  inputs_there [] (m ∷ ms) all xs ts σ b e f u y t = absurd f
  inputs_there (true ∷ bs) [] all xs ts σ b e f u y t = absurd f
  inputs_there (false ∷ bs) [] all xs ts σ b e f u y t = absurd f
  inputs_there (true ∷ bs) (m ∷ ms) all [] ts σ b e f u y t = absurd u
  inputs_there (false ∷ bs) (m ∷ ms) all [] ts σ b e f u y t = absurd u
  inputs_there (true ∷ bs) (m ∷ ms) all (x ∷ xs) [] σ b e f u y t = absurd y
  inputs_there (false ∷ bs) (m ∷ ms) all (x ∷ xs) [] σ b e f u y t = absurd y
  inputs_there (true ∷ bs) (m ∷ ms) all (x ∷ xs) (k ∷ ts) σ b e f u y t =
      let v = Typed.bound_at S D F θ (b x) (T x) (e x) (bound_is (b x) (u.0 f.0).0) (t x (inl refl)) in
      let r = inputs_there bs ms all xs ts σ b e f.2 u.1 y.1 (λ z j. t z (inr j)) in
      (v.0 ∷ r.0, ap₂ both v.1 r.1, (subst (λ z. OfType S.world.source v.0 z) (ap (instance_of θ) y.0 ∙ instance_twice θ σ k) v.2.1, r.2))
  inputs_there (false ∷ bs) (m ∷ ms) all (x ∷ xs) (k ∷ ts) σ b e f u y t = inputs_there bs ms all xs ts σ b e f.2 u.1 y.1 (λ z j. t z (inr j))

  pub outputs_answer : (bs : List Bool) (ms : List Mode) (all xs : List ℕ) (ts : List TypeTerm) (σ : ℕ → TypeTerm) (b : Insts) (e : Bindings) (vs : List Val) → FitsModes bs ms → UsableAt S T all ms xs b → Arguments.TypesAt S D F θ T proper σ xs ts → TypedAt S θ T xs b e →
      EachOf S.world.source (also_instance θ σ) (at_places false bs ts) vs → Arguments.Answers S D F θ T proper ms xs e (woven bs vs) × Lined bs xs vs
  outputs_answer [] [] all [] [] σ b e [] f u y t o = (tt, tt)
  outputs_answer [] [] all [] [] σ b e (v ∷ vs) f u y t o = absurd o
  outputs_answer [] [] all [] (k ∷ ts) σ b e vs f u y t o = absurd y
  outputs_answer [] [] all (x ∷ xs) ts σ b e vs f u y t o = absurd u
  outputs_answer [] (m ∷ ms) all xs ts σ b e vs f u y t o = absurd f
  outputs_answer (true ∷ bs) [] all xs ts σ b e vs f u y t o = absurd f
  outputs_answer (false ∷ bs) [] all xs ts σ b e vs f u y t o = absurd f
  outputs_answer (true ∷ bs) (m ∷ ms) all [] ts σ b e vs f u y t o = absurd u
  outputs_answer (false ∷ bs) (m ∷ ms) all [] ts σ b e vs f u y t o = absurd u
  outputs_answer (true ∷ bs) (m ∷ ms) all (x ∷ xs) [] σ b e vs f u y t o = absurd y
  outputs_answer (false ∷ bs) (m ∷ ms) all (x ∷ xs) [] σ b e vs f u y t o = absurd y
  outputs_answer (true ∷ bs) (m ∷ ms) all (x ∷ xs) (k ∷ ts) σ b e vs f u y t o =
      let w = Typed.bound_at S D F θ (b x) (T x) (e x) (bound_is (b x) (u.0 f.0).0) (t x (inl refl)) in
      let r = outputs_answer bs ms all xs ts σ b e vs f.2 u.1 y.1 (λ z j. t z (inr j)) o in
      (((λ n. (w.0, w.1, Typed.plain_bound S D F θ m.1 (T x) w.0 f.1.0 f.1.1 w.2.1, inr refl)), (λ z. absurd (f.0 z)), r.0), r.1)
  outputs_answer (false ∷ bs) (m ∷ ms) all (x ∷ xs) (k ∷ ts) σ b e [] f u y t o = absurd o
  outputs_answer (false ∷ bs) (m ∷ ms) all (x ∷ xs) (k ∷ ts) σ b e (v ∷ vs) f u y t o =
      let r = outputs_answer bs ms all xs ts σ b e vs f.2 u.1 y.1 (λ z j. t z (inr j)) o.1 in
      (((λ n. absurd (n f.0)), (λ z. Typed.plain_bound S D F θ m.1 (T x) v f.1.0 f.1.1 (subst (λ q. OfType S.world.source v q) (sym (instance_twice θ σ k) ∙ ap (instance_of θ) (sym y.0)) o.0)), r.0), r.1)

  wrote_count : (m : Most) (t : List ℕ) (xs : Items Bindings) → AtMost m xs → AtMost m (Wrote t xs)
  wrote_count Zero t xs h = h
  wrote_count One t xs h = h
  wrote_count Many t xs h = tt

  read_count : (m : Most) (t : ℕ) (xs : Items Bindings) → AtMost m xs → AtMost m (Read t xs)
  read_count Zero t xs h = h
  read_count One t xs h = h
  read_count Many t xs h = tt

  -- a builtin
  module _ (p : ℕ) (op : Builtin) (σ : ℕ → TypeTerm) (xs : List ℕ) (b c : Insts) (e : Bindings) (is : (S.world.source.preds p).builtin ≡ Some op) (types : Arguments.TypesAt S D F θ T proper σ xs (S.world.source.preds p).types) (usable : Usable S T (modes_of op) xs b)
      (none : implied_places 0 (modes_of op) xs (λ x. is_bound (b x)) ≡ []) (after : After S T (modes_of op) xs b c) (typed : TypedAt S θ T xs b e) (live : TypedAt S θ T L b e) where
    abbrev Ended : Items Bindings → Type 0
    Ended ys = Sound S θ T known L (at_inputs (inputs_of op) xs ++ at_outputs (inputs_of op) xs) e (unless_never (builtin_most op) c) (builtin_determinism op) ys

    outputs_binds : (a : Bindings) → BindsOnly (at_outputs (inputs_of op) xs) e a → BindsOnly (at_inputs (inputs_of op) xs ++ at_outputs (inputs_of op) xs) e a
    outputs_binds a h = binds_more (at_outputs (inputs_of op) xs) (at_inputs (inputs_of op) xs ++ at_outputs (inputs_of op) xs) e a (λ y j. in_right y (at_inputs (inputs_of op) xs) (at_outputs (inputs_of op) xs) j) h

    pub gives_sound : (vs : List Val) → builtin_most op ≡ One → (builtin_determinism op).most ≡ One → EachOf S.world.source (also_instance θ σ) (at_places false (inputs_of op) (S.world.source.preds p).types) vs → Ended (of_option (unify (at_outputs (inputs_of op) xs) (map Some vs) e))
    gives_sound vs m d o =
        let r = outputs_answer (inputs_of op) (modes_of op) xs xs (S.world.source.preds p).types σ b e vs (modes_fit op) usable types typed o in
        let q = unify_woven (inputs_of op) xs vs e r.1 in
        subst (λ k. Sound S θ T known L (at_inputs (inputs_of op) xs ++ at_outputs (inputs_of op) xs) e (unless_never k c) (builtin_determinism op) (of_option (unify (at_outputs (inputs_of op) xs) (map Some vs) e))) (sym m)
        (Atoms.sound_option S D F θ T proper known L (at_inputs (inputs_of op) xs ++ at_outputs (inputs_of op) xs) e c (builtin_determinism op) (unify (at_outputs (inputs_of op) xs) (map Some vs) e) d
        (Binds.unify_extends (at_outputs (inputs_of op) xs) (map Some vs) e)
        (Binds.each_weaker (λ a. BindsOnly (at_outputs (inputs_of op) xs) e a) (λ a. BindsOnly (at_inputs (inputs_of op) xs ++ at_outputs (inputs_of op) xs) e a) (unify (at_outputs (inputs_of op) xs) (map Some vs) e) outputs_binds (unify_binds (at_outputs (inputs_of op) xs) (map Some vs) e))
        (subst (λ k. Each (TypedAt S θ T L c) (of_option k)) q (Arguments.after_typed S D F θ T proper after L (woven (inputs_of op) vs) e e r.0 (Binds.extends_refl e) live typed (λ x i q. Typed.typed_flat S D F θ T proper xs b e typed x i ∙ q)))
        (λ k z. subst (λ k. Succeeds (of_option k)) q (Arguments.answers_succeed S D F θ T proper (modes_of op) xs 0 (λ x. is_bound (b x)) (woven (inputs_of op) vs) e e none r.0 (Typed.typed_flat S D F θ T proper xs b e typed) (Binds.extends_refl e))))

    ended_sound : (r : Outcome) → (op ≡ B.Error → Throws r) → ((builtin_determinism op).can_fail ≡ false → r ≢ fails) → GivesOf S.world.source (also_instance θ σ) (at_places false (inputs_of op) (S.world.source.preds p).types) r → (op ≡ B.Error) ⊎ ((builtin_most op ≡ One) × ((builtin_determinism op).most ≡ One)) → Ended (outcome_items (at_outputs (inputs_of op) xs) e r)
    ended_sound fails t s g v = Atoms.sound_none S D F θ T proper known L (at_inputs (inputs_of op) xs ++ at_outputs (inputs_of op) xs) e (unless_never (builtin_most op) c) (builtin_determinism op) (λ k z. s z refl)
    ended_sound (gives vs) t s g v = ⊎_elim (λ q. absurd (t q)) (λ m. gives_sound vs m.0 m.1 g) v
    ended_sound (throws x) t s g v = record { each = tt; calls = tt; count = λ k. none_at_most {A = Bindings} (builtin_determinism op).most (Stopped (Rattle.mc_model.specs.EventList.thrown x)) refl; sure = λ k z. tt }
    ended_sound (writes w vs) t s g v = ⊎_elim (λ q. absurd (t q)) (λ m. let r = gives_sound vs m.0 m.1 g in record { each = r.each; calls = r.calls; count = λ k. wrote_count (builtin_determinism op).most w (of_option (unify (at_outputs (inputs_of op) xs) (map Some vs) e)) (r.count k); sure = λ k z. r.sure k z }) v
    ended_sound (reads n vs) t s g v = ⊎_elim (λ q. absurd (t q)) (λ m. let r = gives_sound vs m.0 m.1 g in record { each = r.each; calls = r.calls; count = λ k. read_count (builtin_determinism op).most n (of_option (unify (at_outputs (inputs_of op) xs) (map Some vs) e)) (r.count k); sure = λ k z. r.sure k z }) v
    ended_sound (reads_and_throws n x) t s g v = record { each = tt; calls = tt; count = λ k. none_at_most {A = Bindings} (builtin_determinism op).most (Read n (Stopped (Rattle.mc_model.specs.EventList.thrown x))) refl; sure = λ k z. tt }

    pub apply_sound : Ended (apply_items (S.world.outcome op) (at_outputs (inputs_of op) xs) e (gather (at_inputs (inputs_of op) xs) e))
    apply_sound =
        let r = inputs_there (inputs_of op) (modes_of op) xs xs (S.world.source.preds p).types σ b e (modes_fit op) usable types typed in
        subst (λ o. Ended (apply_items (S.world.outcome op) (at_outputs (inputs_of op) xs) e o)) (sym r.1)
        (ended_sound (S.world.outcome op r.0) (λ q. subst (λ k. (S.world.source.preds p).builtin ≡ Some k → EachOf S.world.source (also_instance θ σ) (at_places true (inputs_of k) (S.world.source.preds p).types) r.0 → Throws (S.world.outcome k r.0)) (sym q) (λ i z. F.builtins.error_throws (also_instance θ σ) p r.0 i z) is r.2) (λ q. F.builtins.succeeds (also_instance θ σ) p op r.0 is r.2 q) (F.builtins.outputs (also_instance θ σ) p op r.0 is r.2) (builtin_view op))
