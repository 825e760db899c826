-- A call that is handed the state: what lives after it is what it returns.
use Rattle.std.proofs.Common.{◌≡◌, ◌⊎◌, inl, inr, ℕ, List, [], ◌∷◌, Bool, false, nat_eq, Option, Some, None, refl, sym, ap, ◌∙◌, subst, arith, ⊎_elim}
use Rattle.std.proofs.lemmas.Bool.{eqb-true, eq-eqb}
use Rattle.mc_program.specs.Values.{Val}
use Rattle.mc_program.specs.Programs.{TypeTerm}
use Rattle.mc_model.specs.Insts.{unique, dead}
use Rattle.mc_model.specs.Lists.{In, Among}
use Rattle.mc_model.specs.EventList.{Items, Each, bind, of_option}
use Rattle.mc_model.specs.Stream.{Bindings, unify, meet}
use Rattle.mc_accepted.specs.Ordered.{Insts, Mode, AfterArguments, After, no_more, not_passed, output, implied, dies, keeps, becomes}
use Rattle.mc_model.specs.Good.{System}
use Rattle.mc_accepted.specs.ProperTypes.{Parameters}
use Rattle.mc_accepted.specs.Fits.{Fits}
use Rattle.laws_sound.specs.code.Passes.{Grows}
use Rattle.laws_sound.specs.code.Moves.{World, Flow, Live, Holds, HoldsAfter, Tells, OnePlace, NoPlace, TakenAt, Made, Returned, ReturnedWith, SharesAt}
use Rattle.laws_sound.proofs.Binds
use Rattle.laws_sound.proofs.Lists
use Rattle.laws_sound.proofs.MoveArms.{quiet_option}
use Rattle.laws_sound.proofs.MoveAtoms.{quiet_each, also_on}
use Rattle.laws_sound.proofs.MoveLists
use Rattle.laws_sound.proofs.Binds.{true_not_false}

-- the variables have the values that are there
abbrev pub MatchAt : List ℕ → List (Option Val) → Bindings → Type 0
MatchAt [] [] a = Unit {0}
MatchAt (x ∷ xs) (None ∷ os) a = MatchAt xs os a
MatchAt (x ∷ xs) (Some v ∷ os) a = (a x ≡ Some v) × MatchAt xs os a
MatchAt _ _ a = ⊥

pub unify_at : (xs : List ℕ) (os : List (Option Val)) (e : Bindings) → Each (MatchAt xs os) (of_option (unify xs os e))
unify_at [] [] e = (tt, tt)
unify_at [] (o ∷ os) e = tt
unify_at (x ∷ xs) [] e = tt
unify_at (x ∷ xs) (None ∷ os) e = unify_at xs os e
unify_at (x ∷ xs) (Some v ∷ os) e =
    Binds.each_then (λ a. Grows e a × (a x ≡ Some v)) (MatchAt (x ∷ xs) (Some v ∷ os)) (meet x v e (e x)) (unify xs os) (Binds.meet_each x v e (e x) refl)
    (λ a h. Lists.each_map (λ c. Grows a c × MatchAt xs os c) (MatchAt (x ∷ xs) (Some v ∷ os)) (λ c k. (k.0 x v h.1, k.1)) (of_option (unify xs os a)) (Lists.each_both (Grows a) (MatchAt xs os) (of_option (unify xs os a)) (Binds.unify_extends xs os a) (unify_at xs os a)))

-- a variable stands where an argument becomes unique
abbrev pub MadeAt : ℕ → List Mode → List ℕ → Type 0
MadeAt z (m ∷ ms) (x ∷ xs) = ((m.1 ≡ 2) × (z ≡ x)) ⊎ MadeAt z ms xs
MadeAt z _ _ = ⊥

made_none : (z : ℕ) (ms : List Mode) (xs : List ℕ) → NoPlace Made ms → MadeAt z ms xs → ⊥
made_none z [] xs n h = h
made_none z (m ∷ ms) [] n h = h
made_none z (m ∷ ms) (x ∷ xs) n h = ⊎_elim (λ q. n.0 q.0) (λ r. made_none z ms xs n.1 r) h

made_one : (z w : ℕ) (ms : List Mode) (xs : List ℕ) → OnePlace Made ms → MadeAt z ms xs → MadeAt w ms xs → z ≡ w
made_one z w [] xs n h k = absurd h
made_one z w (m ∷ ms) [] n h k = absurd h
made_one z w (m ∷ ms) (x ∷ xs) n h k =
    ⊎_elim (λ q. ⊎_elim (λ r. q.1 ∙ sym r.1) (λ r. absurd (made_none w ms xs (n.0 q.0) r)) k) (λ q. ⊎_elim (λ r. absurd (made_none z ms xs (n.0 r.0) q)) (λ r. made_one z w ms xs n.1 q r) k) h

no_value : (V : World) → Tells V None → ⊥
no_value V h = no (Rattle.mc_program.specs.Values.state h.0 h.1) h.3
  where
    no : (v : Val) → None ≡ Some v → ⊥
    no v e = cc

made_tells : (V : World) (z : ℕ) (ms : List Mode) (xs : List ℕ) (os : List (Option Val)) (a : Bindings) → MadeAt z ms xs → Returned ms os (Tells V) → MatchAt xs os a → Tells V (a z)
made_tells V z [] xs os a h r m = absurd h
made_tells V z (k ∷ ms) [] os a h r m = absurd h
made_tells V z (k ∷ ms) (x ∷ xs) [] a h r m = absurd r
made_tells V z (k ∷ ms) (x ∷ xs) (None ∷ os) a h r m = ⊎_elim (λ q. absurd (no_value V (r.0 q.0))) (λ q. made_tells V z ms xs os a q r.1 m) h
made_tells V z (k ∷ ms) (x ∷ xs) (Some v ∷ os) a h r m = ⊎_elim (λ q. subst (λ o. Tells V o) (sym (ap a q.1 ∙ m.0)) (r.0 q.0)) (λ q. made_tells V z ms xs os a q r.1 m.1) h

module _ (S : System) (D : Parameters) (F : Fits S D) (T : ℕ → TypeTerm) where
  not_dead : (l : ℕ) → S.insts l ≡ dead → l ≡ 2 → ⊥
  not_dead l d q = no (sym F.insts.is_unique ∙ (ap S.insts (sym q) ∙ d))
    where
      no : unique ≡ dead → ⊥
      no e = cc

  two : (◌≡◌ {A = ℕ} 0 2) → ⊥
  two e = omega arith

  -- what lives after a call is made by it, or lived before and isn't taken
  pub lives : {there : ℕ → Bool} {ms : List Mode} {xs : List ℕ} {b c : Insts} → AfterArguments S T there ms xs b c → (z : ℕ) → Live S T c z → MadeAt z ms xs ⊎ (Live S T b z × (TakenAt S z ms xs → ⊥))
  lives no_more z l = inr (l, λ h. h)
  lives (not_passed r) z l = ⊎_elim (λ m. inl (inr m)) (λ k. inr (k.0, ⊎_elim (λ t. two t.0) k.1)) (lives r z l)
  lives (implied n q r) z l = ⊎_elim (λ m. inl (inr m)) (λ k. inr (k.0, ⊎_elim (λ t. two t.0) k.1)) (lives r z l)
  lives (output {b = b} {x = x} {l = i} {ms = ms} {xs = xs} n q r) z l =
      ⊎_elim (λ m. inl (inr m))
      (λ k. also_on (nat_eq z x) i (b z) (MadeAt z ((0, i) ∷ ms) (x ∷ xs) ⊎ (Live S T b z × (TakenAt S z ((0, i) ∷ ms) (x ∷ xs) → ⊥))) k.0.1 (λ t s. inl (inl (s, eqb-true z x t))) (λ t s. inr ((k.0.0, s), ⊎_elim (λ u. two u.0) k.1))) (lives r z l)
  lives (dies {b = b} {x = x} {i = j} {l = i} {ms = ms} {xs = xs} n q r) z l =
      ⊎_elim (λ m. inl (inr m))
      (λ k. also_on (nat_eq z x) i (b z) (MadeAt z ((j, i) ∷ ms) (x ∷ xs) ⊎ (Live S T b z × (TakenAt S z ((j, i) ∷ ms) (x ∷ xs) → ⊥))) k.0.1 (λ t s. absurd (not_dead i q s)) (λ t s. inr ((k.0.0, s), ⊎_elim (λ u. true_not_false (sym (eq-eqb z x u.2) ∙ t)) k.1))) (lives r z l)
  lives (keeps n q i r) z l = ⊎_elim (λ m. inl (inr m)) (λ k. inr (k.0, ⊎_elim (λ t. q t.1) k.1)) (lives r z l)
  lives (becomes {b = b} {x = x} {i = j} {l = i} {ms = ms} {xs = xs} n q w r) z l =
      ⊎_elim (λ m. inl (inr m))
      (λ k. also_on (nat_eq z x) i (b z) (MadeAt z ((j, i) ∷ ms) (x ∷ xs) ⊎ (Live S T b z × (TakenAt S z ((j, i) ∷ ms) (x ∷ xs) → ⊥))) k.0.1 (λ t s. inl (inl (s, eqb-true z x t))) (λ t s. inr ((k.0.0, s), ⊎_elim (λ u. q u.1) k.1))) (lives r z l)

  -- what holds after a call that takes the one live variable
  pub returned_holds : (W V : World) (M L : List ℕ) (ms : List Mode) (xs : List ℕ) (os : List (Option Val)) (b c : Insts) (e a : Bindings) → After S T ms xs b c → Among L M → Holds S T W M b e → (y : ℕ) → In y M → Live S T b y → TakenAt S y ms xs → ReturnedWith ms V os → MatchAt xs os a → SharesAt S T L c a → Holds S T V L c a
  returned_holds W V M L ms xs os b c e a r lm hw y ym ly ty z m s =
      record { tells = λ x k l. made_tells V x ms xs os a (made x k l) z.1 m; alone = λ x w k h l g. made_one x w ms xs z.0 (made x k l) (made w h g); shares = s }
    where
      made : (x : ℕ) → In x L → Live S T c x → MadeAt x ms xs
      made x k l = ⊎_elim (λ m. m) (λ s. absurd (s.1 (subst (λ u. TakenAt S u ms xs) (hw.alone y x ym (lm x k) ly s.0) ty))) (lives r x l)

  -- a call that takes the one live variable
  pub call_flows : (W : World) (M L : List ℕ) (ms : List Mode) (xs : List ℕ) (b c : Insts) (e : Bindings) (I : List (Option Val) → Type 0) (Q : World → List (Option Val) → Type 0) (ys : Items (List (Option Val))) → Each I ys → After S T ms xs b c → Among L M → Holds S T W M b e → (y : ℕ) → In y M → Live S T b y → TakenAt S y ms xs →
      ((V : World) (os : List (Option Val)) → Q V os → ReturnedWith ms V os) → ((V : World) (os : List (Option Val)) → I os → Q V os → Each (SharesAt S T L c) (of_option (unify xs os e))) → Flow Q false W ys → Flow (HoldsAfter S T L (Some c)) false W (bind ys (λ os. of_option (unify xs os e)))
  call_flows W M L ms xs b c e I Q ys i r lm hw y ym ly ty ret sh f =
      MoveLists.flow_bind_calm (λ os. of_option (unify xs os e)) I Q (HoldsAfter S T L (Some c)) W ys i f
      (λ V os j z. quiet_each (HoldsAfter S T L (Some c) V) (of_option (unify xs os e)) (quiet_option (unify xs os e))
      (Lists.each_map (λ a. MatchAt xs os a × SharesAt S T L c a) (HoldsAfter S T L (Some c) V) (λ a m. returned_holds W V M L ms xs os b c e a r lm hw y ym ly ty (ret V os z) m.0 m.1) (of_option (unify xs os e)) (Lists.each_both (MatchAt xs os) (SharesAt S T L c) (of_option (unify xs os e)) (unify_at xs os e) (sh V os j z))))
