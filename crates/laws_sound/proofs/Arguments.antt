-- The arguments of calls: what they are bound to before and after.
use Rattle.std.proofs.Common.{◌≡◌, ◌≢◌, ◌⊎◌, inl, inr, ℕ, zero, suc, List, [], ◌∷◌, map, length, Bool, true, false, cond, is_some, nat_eq, not, ◌||◌, Option, Some, None, refl, sym, ap, ◌∙◌, subst, ⊎_elim}
use Rattle.mc_program.specs.Values.{Val}
use Rattle.mc_program.specs.Programs.{TypeTerm}
use Rattle.mc_model.specs.Types.{instance_of, OfType}
use Rattle.mc_accepted.specs.Inclusion.{Included}
use Rattle.std.proofs.lemmas.Bool.{eqb-true}
use Rattle.mc_model.specs.Lists.{In}
use Rattle.mc_model.specs.EventList.{Each, Succeeds, of_option}
use Rattle.mc_model.specs.Stream.{Bindings, meet, unify, is_bound}
use Rattle.mc_accepted.specs.Ordered.{Insts, Mode, zipped, also, UsableAt, AfterArguments, no_more, not_passed, output, implied, dies, keeps, becomes, implied_places}
use Rattle.mc_model.specs.Good.{System, TypeChoice, BoundAs, Shape, Given, Keeps}
use Rattle.mc_accepted.specs.ProperTypes.{Parameters, ProperType}
use Rattle.mc_accepted.specs.Fits.{Fits}
use Rattle.laws_sound.specs.code.Passes.{Grows, TypedAt}
use Rattle.laws_sound.proofs.Binds
use Rattle.laws_sound.proofs.Binds.{Matches, and_also}
use Rattle.laws_sound.proofs.Lists
use Rattle.laws_sound.proofs.Typed
use Rattle.laws_sound.proofs.Typed.{bound_is, free_is}
use Rattle.laws_sound.proofs.TypeInstances.{also_instance, instance_twice}

module _ (S : System) (D : Parameters) (F : Fits S D) (θ : TypeChoice) (T : ℕ → TypeTerm) (proper : (x : ℕ) → ProperType D (T x)) where
  -- variables of types under a renaming
  abbrev pub TypesAt : (ℕ → TypeTerm) → List ℕ → List TypeTerm → Type 0
  TypesAt σ [] [] = Unit {0}
  TypesAt σ (x ∷ xs) (t ∷ ts) = (T x ≡ instance_of σ t) × TypesAt σ xs ts
  TypesAt σ _ _ = ⊥

  bound_instance : (σ : ℕ → TypeTerm) (i : ℕ) (t u : TypeTerm) (o : Option Val) → u ≡ instance_of σ t → BoundAs S (also_instance θ σ) i t o → BoundAs S θ i u o
  bound_instance σ i t u None e h = h
  bound_instance σ i t u (Some v) e h = (h.0, subst (λ k. OfType S.world.source v k) (sym (instance_twice θ σ t) ∙ ap (instance_of θ) (sym e)) h.1, h.2)

  instance_bound : (σ : ℕ → TypeTerm) (i : ℕ) (t u : TypeTerm) (o : Option Val) → u ≡ instance_of σ t → BoundAs S θ i u o → BoundAs S (also_instance θ σ) i t o
  instance_bound σ i t u None e h = h
  instance_bound σ i t u (Some v) e h = (h.0, subst (λ k. OfType S.world.source v k) (ap (instance_of θ) e ∙ instance_twice θ σ t) h.1, h.2)

  -- a usable mode has its inputs
  input_given : (σ : ℕ → TypeTerm) (i k : ℕ) (x : ℕ) (t : TypeTerm) (o : Option Val) → T x ≡ instance_of σ t → i ≢ 0 → is_bound k ≡ true → Included S.world.source S.insts k i (T x) → BoundAs S θ k (T x) o → BoundAs S (also_instance θ σ) i t o
  input_given σ i k x t o e n q c h =
      let w = Typed.bound_at S D F θ k (T x) o (bound_is k q) h in
      instance_bound σ i t (T x) o e (subst (λ p. BoundAs S θ i (T x) p) (sym w.1) (Typed.included_bound S D F θ k i (T x) w.0 (proper x) n c w.2))

  pub usable_given : (σ : ℕ → TypeTerm) (all is ls xs : List ℕ) (ts : List TypeTerm) (b : Insts) (e : Bindings) → length is ≡ length ls → UsableAt S T all (zipped is ls) xs b → TypesAt σ xs ts → TypedAt S θ T xs b e → Given S (also_instance θ σ) is ts (map e xs)
  usable_given σ all [] [] [] [] b e l u y m = tt
  usable_given σ all [] [] [] (t ∷ ts) b e l u y m = absurd y
  usable_given σ all [] [] (x ∷ xs) ts b e l u y m = absurd u
  usable_given σ all [] (k ∷ ls) xs ts b e l u y m = absurd (no (length ls) l)
    where
      no : (n : ℕ) → zero ≡ suc n → ⊥
      no n e = cc
  usable_given σ all (i ∷ is) [] xs ts b e l u y m = absurd (no (length is) l)
    where
      no : (n : ℕ) → suc n ≡ zero → ⊥
      no n e = cc
  usable_given σ all (i ∷ is) (k ∷ ls) [] ts b e l u y m = absurd u
  usable_given σ all (i ∷ is) (k ∷ ls) (x ∷ xs) [] b e l u y m = absurd y
  usable_given σ all (i ∷ is) (k ∷ ls) (x ∷ xs) (t ∷ ts) b e l u y m =
      ((λ n. let z = u.0 n in input_given σ i (b x) x t (e x) y.0 n z.0 z.1 (m x (inl refl))), usable_given σ all is ls xs ts b e (less (length is) (length ls) l) u.1 y.1 (λ z j. m z (inr j)))
    where
      less : (m n : ℕ) → suc m ≡ suc n → m ≡ n
      less m n e = cc

  -- what an answer gives at each place: an input's value, which is of its final inst too, or an output's
  abbrev pub Answers : List Mode → List ℕ → Bindings → List (Option Val) → Type 0
  Answers [] [] d [] = Unit {0}
  Answers (m ∷ ms) (x ∷ xs) d (o ∷ os) =
      (m.0 ≢ 0 → (w : Val) × (d x ≡ Some w) × BoundAs S θ m.1 (T x) (Some w) × ((o ≡ Some w) ⊎ (o ≡ None))) × (m.0 ≡ 0 → BoundAs S θ m.1 (T x) o) × Answers ms xs d os
  Answers _ _ d _ = ⊥

  answer_input : (σ : ℕ → TypeTerm) (i l : ℕ) (x : ℕ) (t : TypeTerm) (d : Option Val) (o : Option Val) → T x ≡ instance_of σ t → i ≢ 0 → BoundAs S (also_instance θ σ) l t o → o ≡ d → BoundAs S (also_instance θ σ) i t d → (w : Val) × (d ≡ Some w) × BoundAs S θ l (T x) (Some w) × ((o ≡ Some w) ⊎ (o ≡ None))
  answer_input σ i l x t None o e n h k g = absurd (n g)
  answer_input σ i l x t (Some w) o e n h k g = (w, refl, bound_instance σ l t (T x) (Some w) e (subst (λ p. BoundAs S (also_instance θ σ) l t p) k h), inl k)

  pub shape_answers : (σ : ℕ → TypeTerm) (is ls xs : List ℕ) (ts : List TypeTerm) (d : Bindings) (os : List (Option Val)) → TypesAt σ xs ts → Shape S (also_instance θ σ) ls ts os → Keeps is (map d xs) os → Given S (also_instance θ σ) is ts (map d xs) → Answers (zipped is ls) xs d os
  shape_answers σ [] ls [] [] d [] y h k g = tt
  shape_answers σ [] ls [] [] d (o ∷ os) y h k g = absurd k
  shape_answers σ [] ls [] (t ∷ ts) d os y h k g = absurd y
  shape_answers σ [] ls (x ∷ xs) [] d os y h k g = absurd y
  shape_answers σ [] ls (x ∷ xs) (t ∷ ts) d os y h k g = absurd g
  shape_answers σ (i ∷ is) ls [] [] d os y h k g = absurd g
  shape_answers σ (i ∷ is) ls [] (t ∷ ts) d os y h k g = absurd y
  shape_answers σ (i ∷ is) ls (x ∷ xs) [] d os y h k g = absurd y
  shape_answers σ (i ∷ is) [] (x ∷ xs) (t ∷ ts) d os y h k g = absurd h
  shape_answers σ (i ∷ is) (l ∷ ls) (x ∷ xs) (t ∷ ts) d [] y h k g = absurd h
  shape_answers σ (i ∷ is) (l ∷ ls) (x ∷ xs) (t ∷ ts) d (o ∷ os) y h k g = (
    (λ n. answer_input σ i l x t (d x) o y.0 n h.0 (k.0 n) (g.0 n)),
    (λ n. bound_instance σ l t (T x) o y.0 h.0),
    shape_answers σ is ls xs ts d os y.1 h.1 k.1 g.1,
  )

  -- of these variables, what is said to be there is bound
  abbrev pub There : List ℕ → (ℕ → Bool) → Bindings → Type 0
  There xs there e = (x : ℕ) → In x xs → there x ≡ true → is_some (e x) ≡ true

  -- an input stays bound as it is, or as its final inst says
  stays : (L : List ℕ) (c : Insts) (there : ℕ → Bool) (d e : Bindings) (x : ℕ) (o : Option Val) (w : Val) (os : List (Option Val)) (xs : List ℕ) (Q : Bindings → Type 0) → d x ≡ Some w → (o ≡ Some w) ⊎ (o ≡ None) → Grows d e → TypedAt S θ T L c e → TypedAt S θ T xs c e → There xs there e →
      ((a : Bindings) → Grows d a → TypedAt S θ T L c a → TypedAt S θ T xs c a → There xs there a → Each Q (of_option (unify xs os a))) → Each Q (of_option (unify (x ∷ xs) (o ∷ os) e))
  stays L c there d e x None w os xs Q q r g t u y k = k e g t u y
  stays L c there d e x (Some v) w os xs Q q r g t u y k =
      Binds.each_then (λ a. Grows d a × (TypedAt S θ T L c a × (TypedAt S θ T xs c a × There xs there a))) Q (meet x v e (e x)) (unify xs os)
      (Binds.meet_known (λ a. Grows d a × (TypedAt S θ T L c a × (TypedAt S θ T xs c a × There xs there a))) x v w e (e x) refl (g x w q) (g, (t, (u, y))))
      (λ a z. k a z.0 z.1.0 z.1.1.0 z.1.1.1)

  comes : (L : List ℕ) (b : Insts) (e : Bindings) (x l : ℕ) (v : Val) (os : List (Option Val)) (xs : List ℕ) (Q : Bindings → Type 0) → BoundAs S θ l (T x) (Some v) → TypedAt S θ T L b e → TypedAt S θ T xs b e →
      ((a : Bindings) → Grows e a → a x ≡ Some v → TypedAt S θ T L (also x l b) a → TypedAt S θ T xs (also x l b) a → Each Q (of_option (unify xs os a))) → Each Q (of_option (unify (x ∷ xs) (Some v ∷ os) e))
  comes L b e x l v os xs Q h t u k =
      Binds.each_then (λ a. (Grows e a × (a x ≡ Some v)) × (TypedAt S θ T L (also x l b) a × TypedAt S θ T xs (also x l b) a)) Q (meet x v e (e x)) (unify xs os)
      (Lists.each_both (λ a. Grows e a × (a x ≡ Some v)) (λ a. TypedAt S θ T L (also x l b) a × TypedAt S θ T xs (also x l b) a) (of_option (meet x v e (e x)))
      (Binds.meet_each x v e (e x) refl)
      (Lists.each_both (TypedAt S θ T L (also x l b)) (TypedAt S θ T xs (also x l b)) (of_option (meet x v e (e x))) (Typed.meet_typed S D F θ T proper L b x l v e (e x) refl h t) (Typed.meet_typed S D F θ T proper xs b x l v e (e x) refl h u)))
      (λ a z. k a z.0.0 z.0.1 z.1.0 z.1.1)

  there_on : (t : Bool) (o : Option Val) (r : Bool) → (t ≡ true → is_some o ≡ true) → (r ≡ true → is_some o ≡ true) → cond t true r ≡ true → is_some o ≡ true
  there_on true o r f g q = f refl
  there_on false o r f g q = g q

  there_more : (xs : List ℕ) (there : ℕ → Bool) (e a : Bindings) (x : ℕ) (v : Val) → Grows e a → a x ≡ Some v → There (x ∷ xs) there e → There xs (and_also x there) a
  there_more xs there e a x v g q h z i = there_on (nat_eq z x) (a z) (there z) (λ t. ap (λ y. is_some (a y)) (eqb-true z x t) ∙ ap is_some q) (λ r. let w = Binds.bound_some (e z) (h z (inr i) r) in ap is_some (g z w.0 w.1))

  -- the bindings after a call
  pub after_typed : {there : ℕ → Bool} {ms : List Mode} {xs : List ℕ} {b c : Insts} → AfterArguments S T there ms xs b c → (L : List ℕ) (os : List (Option Val)) (d e : Bindings) → Answers ms xs d os → Grows d e → TypedAt S θ T L b e → TypedAt S θ T xs b e → There xs there e → Each (TypedAt S θ T L c) (of_option (unify xs os e))
  after_typed no_more L [] d e h g t u y = (t, tt)
  after_typed no_more L (o ∷ os) d e h g t u y = absurd h
  after_typed (not_passed r) L [] d e h g t u y = absurd h
  after_typed (not_passed r) L (None ∷ os) d e h g t u y = after_typed r L os d e h.2 g t (λ z j. u z (inr j)) (λ z j. y z (inr j))
  after_typed (not_passed r) L (Some v ∷ os) d e h g t u y = absurd ((h.1 refl).0 refl)
  after_typed (output n q r) L [] d e h g t u y = absurd h
  after_typed (output n q r) L (None ∷ os) d e h g t u y = absurd (n (h.1 refl))
  after_typed (output {is_there = there} {b = b} {c = c} {x = x} {l = l} {xs = xs} n q r) L (Some v ∷ os) d e h g t u y =
      comes L b e x l v os xs (TypedAt S θ T L c) (h.1 refl) t (λ z j. u z (inr j)) (λ a ga va ta ua. after_typed r L os d a h.2 (Binds.extends_trans d e a g ga) ta ua (there_more xs there e a x v ga va y))
  after_typed (implied n q r) L [] d e h g t u y = absurd h
  after_typed (implied n q r) L (None ∷ os) d e h g t u y = absurd (n (h.1 refl))
  after_typed (implied {is_there = there} {b = b} {c = c} {x = x} {xs = xs} n q r) L (Some v ∷ os) d e h g t u y =
      let w = Binds.bound_some (e x) (y x (inl refl) q) in
      Binds.each_then (λ a. Grows d a × (TypedAt S θ T L b a × (TypedAt S θ T xs b a × There xs there a))) (TypedAt S θ T L c) (meet x v e (e x)) (unify xs os)
      (Binds.meet_known (λ a. Grows d a × (TypedAt S θ T L b a × (TypedAt S θ T xs b a × There xs there a))) x v w.0 e (e x) refl w.1 (g, (t, ((λ z j. u z (inr j)), (λ z j. y z (inr j))))))
      (λ a z. after_typed r L os d a h.2 z.0 z.1.0 z.1.1.0 z.1.1.1)
  after_typed (dies n q r) L [] d e h g t u y = absurd h
  after_typed (dies {is_there = there} {b = b} {c = c} {x = x} {l = l} {xs = xs} n q r) L (o ∷ os) d e h g t u y =
      let w = h.0 n in
      stays L (also x l b) there d e x o w.0 os xs (TypedAt S θ T L c) w.1 w.3 g (Typed.known_typed S D F θ T proper L b e x l w.0 (g x w.0 w.1) w.2 t) (Typed.known_typed S D F θ T proper xs b e x l w.0 (g x w.0 w.1) w.2 (λ z j. u z (inr j))) (λ z j. y z (inr j))
      (λ a ga ta ua ya. after_typed r L os d a h.2 ga ta ua ya)
  after_typed (keeps n q i r) L [] d e h g t u y = absurd h
  after_typed (keeps {is_there = there} {b = b} {c = c} {x = x} {xs = xs} n q i r) L (o ∷ os) d e h g t u y =
      let w = h.0 n in
      stays L b there d e x o w.0 os xs (TypedAt S θ T L c) w.1 w.3 g t (λ z j. u z (inr j)) (λ z j. y z (inr j)) (λ a ga ta ua ya. after_typed r L os d a h.2 ga ta ua ya)
  after_typed (becomes n q i r) L [] d e h g t u y = absurd h
  after_typed (becomes {is_there = there} {b = b} {c = c} {x = x} {l = l} {xs = xs} n q i r) L (o ∷ os) d e h g t u y =
      let w = h.0 n in
      stays L (also x l b) there d e x o w.0 os xs (TypedAt S θ T L c) w.1 w.3 g (Typed.known_typed S D F θ T proper L b e x l w.0 (g x w.0 w.1) w.2 t) (Typed.known_typed S D F θ T proper xs b e x l w.0 (g x w.0 w.1) w.2 (λ z j. u z (inr j))) (λ z j. y z (inr j))
      (λ a ga ta ua ya. after_typed r L os d a h.2 ga ta ua ya)

  -- without implied arguments an answer is taken
  succeed_input : (d e : Bindings) (x : ℕ) (w : Val) (o : Option Val) (os : List (Option Val)) (xs : List ℕ) → d x ≡ Some w → (o ≡ Some w) ⊎ (o ≡ None) → Grows d e → Succeeds (of_option (unify xs os e)) → Succeeds (of_option (unify (x ∷ xs) (o ∷ os) e))
  succeed_input d e x w None os xs q r g s = s
  succeed_input d e x w (Some v) os xs q r g s =
      let p : Some v ≡ Some w = ⊎_elim (λ z. z) (λ z. absurd (Binds.none_some (Some v) v z refl)) r in
      let ex : e x ≡ Some v = g x w q ∙ sym p in
      Binds.then_succeeds x v e (unify xs os) (e x) refl (inl ex) (λ a. Unit {0} × Succeeds (of_option (unify xs os a))) (λ c. (tt, s)) (λ c. absurd (Binds.none_some (e x) v c ex)) (λ a z. z.1)

  succeed_output : (there : ℕ → Bool) (d e : Bindings) (x l : ℕ) (o : Option Val) (os : List (Option Val)) (xs : List ℕ) → l ≢ 0 → BoundAs S θ l (T x) o → there x ≡ false → Matches (x ∷ xs) there e → Grows d e → ((a : Bindings) → Matches xs (and_also x there) a → Grows d a → Succeeds (of_option (unify xs os a))) → Succeeds (of_option (unify (x ∷ xs) (o ∷ os) e))
  succeed_output there d e x l None os xs n h q m g k = absurd (n h)
  succeed_output there d e x l (Some v) os xs n h q m g k =
      let z = Binds.unbound_none (e x) (m x (inl refl) ∙ q) in
      Binds.then_succeeds x v e (unify xs os) (e x) refl (inr z) (λ a. Matches xs (and_also x there) a × Grows d a) (λ c. absurd (Binds.none_some (e x) v z c))
      (λ c. (Binds.put_matches xs there e x v (λ y j. m y (inr j)), Binds.extends_trans d e _ g (Binds.put_extends x v e z))) (λ a z. k a z.0 z.1)

  no_item : (k : ℕ) (ks : List ℕ) → k ∷ ks ≡ [] → ⊥
  no_item k ks e = cc

  succeed_step : (m : Mode) (there : ℕ → Bool) (d e : Bindings) (x k : ℕ) (o : Option Val) (os : List (Option Val)) (xs : List ℕ) (A B C : List ℕ) (p q r : Bool) → is_bound m.0 ≡ p → is_bound m.1 ≡ q → there x ≡ r → cond (p || not q) A (cond r (k ∷ B) C) ≡ [] →
      Answers (m ∷ []) (x ∷ []) d (o ∷ []) → Matches (x ∷ xs) there e → Grows d e → (A ≡ [] → (a : Bindings) → Matches xs there a → Grows d a → Succeeds (of_option (unify xs os a))) →
      (C ≡ [] → (a : Bindings) → Matches xs (and_also x there) a → Grows d a → Succeeds (of_option (unify xs os a))) → Succeeds (of_option (unify (x ∷ xs) (o ∷ os) e))
  succeed_step m there d e x k o os xs A B C true q r pe qe re i h mt g f f' =
      let w = h.0 (bound_is m.0 pe) in
      succeed_input d e x w.0 o os xs w.1 w.3 g (f i e (λ y j. mt y (inr j)) g)
  succeed_step m there d e x k o os xs A B C false false r pe qe re i h mt g f f' =
      subst (λ z. Succeeds (of_option (unify (x ∷ xs) (z ∷ os) e))) (sym (Typed.free_at S D F θ m.1 (T x) o (free_is m.1 qe) (h.1 (free_is m.0 pe)))) (f i e (λ y j. mt y (inr j)) g)
  succeed_step m there d e x k o os xs A B C false true true pe qe re i h mt g f f' = absurd (no_item k B i)
  succeed_step m there d e x k o os xs A B C false true false pe qe re i h mt g f f' = succeed_output there d e x m.1 o os xs (bound_is m.1 qe) (h.1 (free_is m.0 pe)) re mt g (f' i)

  pub answers_succeed : (ms : List Mode) (xs : List ℕ) (k : ℕ) (there : ℕ → Bool) (os : List (Option Val)) (d e : Bindings) → implied_places k ms xs there ≡ [] → Answers ms xs d os → Matches xs there e → Grows d e → Succeeds (of_option (unify xs os e))
  answers_succeed [] [] k there [] d e i h mt g = tt
  answers_succeed [] [] k there (o ∷ os) d e i h mt g = absurd h
  answers_succeed [] (x ∷ xs) k there os d e i h mt g = absurd h
  answers_succeed (m ∷ ms) [] k there os d e i h mt g = absurd h
  answers_succeed (m ∷ ms) (x ∷ xs) k there [] d e i h mt g = absurd h
  answers_succeed (m ∷ ms) (x ∷ xs) k there (o ∷ os) d e i h mt g =
      succeed_step m there d e x k o os xs _ _ _ (is_bound m.0) (is_bound m.1) (there x) refl refl refl i (h.0, h.1, tt) mt g
      (λ z a ma ga. answers_succeed ms xs (suc k) there os d a z h.2 ma ga)
      (λ z a ma ga. answers_succeed ms xs (suc k) (and_also x there) os d a z h.2 ma ga)
