-- States inside the arguments of calls.
use Rattle.std.proofs.Common.{◌≡◌, ◌≢◌, ◌⊎◌, inl, inr, ℕ, suc, List, [], ◌∷◌, map, length, Bool, true, false, cond, nat_eq, Option, Some, None, refl, sym, ap, ◌∙◌, subst, ⊎_elim}
use Rattle.std.proofs.lemmas.Bool.{eqb-true}
use Rattle.mc_program.specs.Values.{Val, int, char, str, con, state}
use Rattle.mc_program.specs.Programs.{TypeTerm, int_type, char_type, string_type, state_type, variable_type, union_type}
use Rattle.mc_model.specs.Types.{instance_of}
use Rattle.mc_model.specs.Insts.{InstNode, free, ground, unique, dead, bound, AllowsConstants}
use Rattle.mc_model.specs.Lists.{Among}
use Rattle.mc_model.specs.Stream.{Bindings}
use Rattle.mc_model.specs.Good.{System, TypeChoice, BoundAs, Shape, Given}
use Rattle.mc_accepted.specs.Inclusion.{shared, AllowsMark, IncludedNodes, NoMore}
use Rattle.mc_accepted.specs.Tidy.{EachTidy}
use Rattle.mc_accepted.specs.ProperTypes.{Parameters, ProperType}
use Rattle.mc_accepted.specs.Ordered.{Insts, Mode, zipped, UsableAt, AfterArguments, no_more, not_passed, output, implied, dies, keeps, becomes}
use Rattle.mc_accepted.specs.Fits.{Fits}
use Rattle.laws_sound.specs.code.Passes.{Grows, TypedAt}
use Rattle.laws_sound.specs.code.Moves.{StateAt, AllowsShared, Shares, SharesAt, EachShares}
use Rattle.laws_sound.proofs.Arguments
use Rattle.laws_sound.proofs.Binds
use Rattle.laws_sound.proofs.MoveReturns.{MatchAt}
use Rattle.laws_sound.proofs.MoveShares.{shares_more, stay_shares}
use Rattle.laws_sound.proofs.Typed
use Rattle.laws_sound.proofs.TypeInstances.{also_instance, of_general}

-- a place of a call where a variable gets an inst
abbrev pub PlaceOf : ℕ → List Mode → List ℕ → ℕ → Type 0
PlaceOf z (m ∷ ms) (x ∷ xs) i = ((z ≡ x) × (m.1 ≡ i)) ⊎ PlaceOf z ms xs i
PlaceOf z _ _ i = ⊥

also_place : (t : Bool) (z x l k i : ℕ) → nat_eq z x ≡ t → i ≡ cond t l k → (i ≡ k) ⊎ ((z ≡ x) × (l ≡ i))
also_place true z x l k i q e = inr (eqb-true z x q, sym e)
also_place false z x l k i q e = inl e

-- a variable keeps its inst over a call, or gets that of a place
pub after_inst : (S : System) (T : ℕ → TypeTerm) {there : ℕ → Bool} {ms : List Mode} {xs : List ℕ} {b c : Insts} → AfterArguments S T there ms xs b c → (z : ℕ) → (c z ≡ b z) ⊎ PlaceOf z ms xs (c z)
after_inst S T no_more z = inl refl
after_inst S T (not_passed r) z = ⊎_elim (λ e. inl e) (λ p. inr (inr p)) (after_inst S T r z)
after_inst S T (output {b = b} {c = c} {x = x} {l = l} n q r) z = ⊎_elim (λ e. ⊎_elim (λ k. inl k) (λ p. inr (inl p)) (also_place (nat_eq z x) z x l (b z) (c z) refl e)) (λ p. inr (inr p)) (after_inst S T r z)
after_inst S T (implied n q r) z = ⊎_elim (λ e. inl e) (λ p. inr (inr p)) (after_inst S T r z)
after_inst S T (dies {b = b} {c = c} {x = x} {l = l} n q r) z = ⊎_elim (λ e. ⊎_elim (λ k. inl k) (λ p. inr (inl p)) (also_place (nat_eq z x) z x l (b z) (c z) refl e)) (λ p. inr (inr p)) (after_inst S T r z)
after_inst S T (keeps n q i r) z = ⊎_elim (λ e. inl e) (λ p. inr (inr p)) (after_inst S T r z)
after_inst S T (becomes {b = b} {c = c} {x = x} {l = l} n q i r) z = ⊎_elim (λ e. ⊎_elim (λ k. inl k) (λ p. inr (inl p)) (also_place (nat_eq z x) z x l (b z) (c z) refl e)) (λ p. inr (inr p)) (after_inst S T r z)

pub included_more : (N M : InstNode) (Q : Type 0) → IncludedNodes N M Q → M ≢ free → M ≢ dead → (N ≢ dead) × Q
included_more N free Q h f d = absurd (f refl)
included_more N dead Q h f d = absurd (d refl)
included_more free ground Q h f d = absurd h
included_more ground ground Q h f d = ((λ e. cc), h)
included_more unique ground Q h f d = ((λ e. cc), h)
included_more dead ground Q h f d = absurd h
included_more (bound ls) ground Q h f d = ((λ e. cc), h)
included_more free unique Q h f d = absurd h
included_more ground unique Q h f d = ((λ e. cc), h)
included_more unique unique Q h f d = ((λ e. cc), h)
included_more dead unique Q h f d = absurd h
included_more (bound ls) unique Q h f d = ((λ e. cc), h)
included_more free (bound ms) Q h f d = absurd h
included_more ground (bound ms) Q h f d = ((λ e. cc), h)
included_more unique (bound ms) Q h f d = ((λ e. cc), h)
included_more dead (bound ms) Q h f d = absurd h
included_more (bound ls) (bound ms) Q h f d = ((λ e. cc), h)

module _ (S : System) (D : Parameters) (F : Fits S D) (θ : TypeChoice) (T : ℕ → TypeTerm) (proper : (x : ℕ) → ProperType D (T x)) where
  -- each place of a call that leaves its variable bound
  abbrev pub AnswerShares : List Mode → List ℕ → Bindings → Type 0
  AnswerShares (m ∷ ms) (x ∷ xs) a = (m.1 ≢ 0 → S.insts m.1 ≢ dead → (v : Val) → a x ≡ Some v → Shares S.world.source S.insts v m.1 (T x)) × AnswerShares ms xs a
  AnswerShares _ _ a = Unit {0}

  shares_instance : (σ : ℕ → TypeTerm) (v : Val) (i : ℕ) (t u : TypeTerm) → u ≡ instance_of σ t → Shares S.world.source S.insts v i t → Shares S.world.source S.insts v i u
  shares_instance σ v i t u e h path s = ⊎_elim (λ z. inl (z.0, e ∙ ap (instance_of σ) z.1)) (λ a. inr a) (h path s)

  pub answer_shares : (σ : ℕ → TypeTerm) (is ls xs : List ℕ) (ts : List TypeTerm) (os : List (Option Val)) (a : Bindings) → Arguments.TypesAt S D F θ T proper σ xs ts → Shape S (also_instance θ σ) ls ts os → EachShares S ls ts os → MatchAt xs os a → AnswerShares (zipped is ls) xs a
  answer_shares σ [] ls xs ts os a y h e m = tt
  answer_shares σ (i ∷ is) [] xs ts os a y h e m = tt
  answer_shares σ (i ∷ is) (l ∷ ls) [] ts os a y h e m = tt
  answer_shares σ (i ∷ is) (l ∷ ls) (x ∷ xs) [] os a y h e m = absurd y
  answer_shares σ (i ∷ is) (l ∷ ls) (x ∷ xs) (t ∷ ts) [] a y h e m = absurd m
  answer_shares σ (i ∷ is) (l ∷ ls) (x ∷ xs) (t ∷ ts) (None ∷ os) a y h e m = ((λ n d. absurd (n h.0)), answer_shares σ is ls xs ts os a y.1 h.1 e.1 m)
  answer_shares σ (i ∷ is) (l ∷ ls) (x ∷ xs) (t ∷ ts) (Some u ∷ os) a y h e m =
      ((λ n d v q. subst (λ w. Shares S.world.source S.insts w l (T x)) (Binds.some_inj u v (sym m.0 ∙ q)) (shares_instance σ u l t (T x) y.0 (e.0 n d u refl))), answer_shares σ is ls xs ts os a y.1 h.1 e.1 m.1)

  place_answer : (z i : ℕ) (ms : List Mode) (xs : List ℕ) (a : Bindings) → PlaceOf z ms xs i → AnswerShares ms xs a → i ≢ 0 → S.insts i ≢ dead → (v : Val) → a z ≡ Some v → Shares S.world.source S.insts v i (T z)
  place_answer z i [] xs a p s n d v q = absurd p
  place_answer z i (k ∷ ms) [] a p s n d v q = absurd p
  place_answer z i (k ∷ ms) (x ∷ xs) a p s n d v q =
      ⊎_elim
      (λ h. subst (λ y. Shares S.world.source S.insts v i (T y)) (sym h.0) (subst (λ j. Shares S.world.source S.insts v j (T x)) h.1 (s.0 (λ e. n (sym h.1 ∙ e)) (λ e. d (ap S.insts (sym h.1) ∙ e)) v (ap a (sym h.0) ∙ q))))
      (λ h. place_answer z i ms xs a h s.1 n d v q) p

  pub after_shares : {there : ℕ → Bool} {ms : List Mode} {xs : List ℕ} {b c : Insts} → AfterArguments S T there ms xs b c → (L M : List ℕ) (e a : Bindings) → Among L M → SharesAt S T M b e → TypedAt S θ T L b e → TypedAt S θ T L c a → Grows e a → AnswerShares ms xs a → SharesAt S T L c a
  after_shares {ms = ms} {xs = xs} {b = b} {c = c} r L M e a lm sm li lc g s x i n v q =
      ⊎_elim
      (λ eq. stay_shares S D F θ T L b c e a x v (li x i) (lc x i) g eq q (λ p. sm x (lm x i) (λ d. n (ap S.insts eq ∙ d)) v p))
      (λ p. place_answer x (c x) ms xs a p s (λ z. (subst (λ w. BoundAs S θ (c x) (T x) w) q (lc x i)).0 z) n v q) (after_inst S T r x)

  -- at the top of a variable's type a state may be shared, but where the type is the state's
  top_shares : (σ : ℕ → TypeTerm) (v : Val) (i : ℕ) (t : TypeTerm) → instance_of σ t ≡ state_type → ((S.insts i ≡ unique) ⊎ (S.insts i ≡ dead) → t ≡ state_type) → S.insts i ≢ free → BoundAs S (also_instance θ σ) i t (Some v) → StateAt v [] → (t ≡ state_type) ⊎ AllowsMark (S.insts i) shared
  top_shares σ v i int_type e y f h s = absurd (no e)
    where
      no : int_type ≡ state_type → ⊥
      no e = cc
  top_shares σ v i char_type e y f h s = absurd (no e)
    where
      no : char_type ≡ state_type → ⊥
      no e = cc
  top_shares σ v i string_type e y f h s = absurd (no e)
    where
      no : string_type ≡ state_type → ⊥
      no e = cc
  top_shares σ v i state_type e y f h s = inl refl
  top_shares σ v i (union_type u ts) e y f h s = absurd (no (Rattle.mc_model.specs.Types.instances_of σ ts) e)
    where
      no : (ts : _) → union_type u ts ≡ state_type → ⊥
      no ts e = cc
  top_shares σ v i (variable_type k) e y f h s = inr (on v h.2 s (S.insts i) refl)
    where
      not_var : variable_type k ≡ state_type → ⊥
      not_var e = cc

      on : (v : Val) → Rattle.mc_model.specs.Insts.Within S.world.source S.insts v i → StateAt v [] → (N : InstNode) → S.insts i ≡ N → AllowsMark (S.insts i) shared
      on v w s free q = absurd (f q)
      on v w s ground q = subst (λ N. AllowsMark N shared) (sym q) tt
      on v w s unique q = absurd (not_var (y (inl q)))
      on v w s dead q = absurd (not_var (y (inr q)))
      on (int n) w s (bound ls) q = absurd s
      on (char n) w s (bound ls) q = absurd s
      on (str n) w s (bound ls) q = absurd s
      on (con g vs) w s (bound ls) q = absurd s
      on (state m j) w s (bound ls) q = absurd (subst (λ N. AllowsConstants N) q w)

  given_one : (σ : ℕ → TypeTerm) (i x : ℕ) (t : TypeTerm) (b : Insts) (v : Val) → i ≢ 0 → S.insts i ≢ dead → IncludedNodes (S.insts (b x)) (S.insts i) (NoMore S.world.source S.insts (b x) i (T x)) → T x ≡ instance_of σ t → ((S.insts i ≡ unique) ⊎ (S.insts i ≡ dead) → t ≡ state_type) → BoundAs S (also_instance θ σ) i t (Some v) → BoundAs S θ (b x) (T x) (Some v) →
      (S.insts (b x) ≢ dead → Shares S.world.source S.insts v (b x) (T x)) → Shares S.world.source S.insts v i t
  given_one σ i x t b v n d c y z g h s path a =
      let nf : S.insts i ≢ free = λ e. n (Typed.only_free S D F i e) in
      let m = included_more (S.insts (b x)) (S.insts i) (NoMore S.world.source S.insts (b x) i (T x)) c nf d in
      ⊎_elim
      (λ q. ⊎_elim (λ e. inl (q.0, e)) (λ k. inr (subst (λ p. AllowsShared S.world.source S.insts p i) (sym q.0) k)) (top_shares σ v i t (sym y ∙ q.1) z nf g (subst (λ p. StateAt v p) q.0 a)))
      (λ k. inr k) (shares_more S.world.source S.insts v (b x) i (T x) (T x) (of_general S D F θ v (T x) (proper x) h.1) m.1 (s m.0) path a)

  pub given_shares : (σ : ℕ → TypeTerm) (all is ls xs : List ℕ) (ts : List TypeTerm) (b : Insts) (e : Bindings) → UsableAt S T all (zipped is ls) xs b → length is ≡ length ls → Arguments.TypesAt S D F θ T proper σ xs ts → EachTidy S.world.source S.insts is ts → Given S (also_instance θ σ) is ts (map e xs) → TypedAt S θ T xs b e → SharesAt S T xs b e → EachShares S is ts (map e xs)
  given_shares σ all [] ls xs ts b e u l y z g m s = tt
  given_shares σ all (i ∷ is) ls xs [] b e u l y z g m s = tt
  given_shares σ all (i ∷ is) ls [] (t ∷ ts) b e u l y z g m s = tt
  given_shares σ all (i ∷ is) [] (x ∷ xs) (t ∷ ts) b e u l y z g m s = absurd u
  given_shares σ all (i ∷ is) (k ∷ ls) (x ∷ xs) (t ∷ ts) b e u l y z g m s = (
    (λ n d v q. given_one σ i x t b v n d (u.0 n).1 y.0 (λ w. z.0 [] i t (refl, refl) w) (subst (λ o. BoundAs S (also_instance θ σ) i t o) q (g.0 n)) (subst (λ o. BoundAs S θ (b x) (T x) o) q (m x (inl refl))) (λ w. s x (inl refl) w v q)),
    given_shares σ all is ls xs ts b e u.1 (less l) y.1 z.1 g.1 (λ w j. m w (inr j)) (λ w j. s w (inr j)),
  )
    where
      less : suc (length is) ≡ suc (length ls) → length is ≡ length ls
      less e = cc
