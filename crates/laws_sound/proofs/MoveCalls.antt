-- What a call is handed: at most one state, which tells the world.
use Rattle.std.proofs.Common.{◌≡◌, ◌≢◌, ◌⊎◌, inl, inr, ℕ, suc, ◌≤◌, List, [], ◌∷◌, map, Bool, true, false, cond, nat_eq, refl, sym, ap, ◌∙◌, subst, arith, ⊎_elim}
use Rattle.std.proofs.lemmas.Bool.{eq-eqb, cases_eq}
use Rattle.mc_program.specs.Programs.{TypeTerm, state_type}
use Rattle.mc_model.specs.Types.{instance_of}
use Rattle.mc_model.specs.Insts.{InstNode, free, ground, unique, dead, bound}
use Rattle.mc_accepted.specs.Inclusion.{Included, IncludedNodes, NoMore}
use Rattle.mc_model.specs.Lists.{In, Among}
use Rattle.mc_model.specs.Stream.{Bindings, is_bound}
use Rattle.mc_accepted.specs.Ordered.{Insts, Mode, also, UsableAt, AfterArguments, no_more, not_passed, output, implied, dies, keeps, becomes, times_in}
use Rattle.mc_model.specs.Good.{System, TypeChoice, BoundAs}
use Rattle.mc_accepted.specs.ProperTypes.{Parameters, ProperType}
use Rattle.mc_accepted.specs.Fits.{Fits}
use Rattle.laws_sound.specs.code.Passes.{TypedAt}
use Rattle.laws_sound.specs.code.Moves.{World, Live, Holds, Tells, TidyModes, OnePlace, NoPlace, Taken, TakenAt, Handed, Lends}
use Rattle.laws_sound.proofs.Arguments
use Rattle.laws_sound.proofs.MoveGiven.{PlaceOf, after_inst}
use Rattle.laws_sound.proofs.MoveHolds.{state_unique}
use Rattle.laws_sound.proofs.Typed.{bound_is}
use Rattle.laws_sound.proofs.Binds.{true_not_false}

in_unique : (N : InstNode) (Q : Type 0) → IncludedNodes N unique Q → Q
in_unique free Q h = absurd h
in_unique ground Q h = h
in_unique unique Q h = h
in_unique dead Q h = absurd h
in_unique (bound ls) Q h = h

times_on : (t : Bool) (m n : ℕ) → m ≤ n → m ≤ cond t (suc n) n
times_on true m n l = omega arith
times_on false m n l = l

times_here : (x : ℕ) (xs : List ℕ) → times_in x (x ∷ xs) ≡ suc (times_in x xs)
times_here x xs = on (nat_eq x x) (eq-eqb x x refl)
  where
    on : (t : Bool) → t ≡ true → cond t (suc (times_in x xs)) (times_in x xs) ≡ suc (times_in x xs)
    on true e = refl
    on false e = absurd (true_not_false (sym e))

times_rest : (z x : ℕ) (xs : List ℕ) → times_in z xs ≤ times_in z (x ∷ xs)
times_rest z x xs = times_on (nat_eq z x) (times_in z xs) (times_in z xs) (omega arith)

in_times : (x : ℕ) (xs : List ℕ) → In x xs → 1 ≤ times_in x xs
in_times x [] i = absurd i
in_times x (y ∷ xs) i = ⊎_elim (λ e. subst (λ z. 1 ≤ times_in x (z ∷ xs)) e (omega (arith, times_here x xs))) (λ j. omega (arith, in_times x xs j, times_rest x y xs)) i

one_of_none : (ms : List Mode) → NoPlace Taken ms → OnePlace Taken ms
one_of_none [] n = tt
one_of_none (m ∷ ms) n = ((λ q. n.1), one_of_none ms n.1)

two : (◌≡◌ {A = ℕ} 0 2) → ⊥
two e = omega arith

pub taken_in : (S : System) (z : ℕ) (ms : List Mode) (xs : List ℕ) → TakenAt S z ms xs → In z xs
taken_in S z [] xs h = absurd h
taken_in S z (m ∷ ms) [] h = absurd h
taken_in S z (m ∷ ms) (x ∷ xs) h = ⊎_elim (λ q. inl q.2) (λ q. inr (taken_in S z ms xs q)) h

-- it stands nowhere else
pub taken_once : (S : System) (T : ℕ → TypeTerm) (b : Insts) (all : List ℕ) (z : ℕ) (ms : List Mode) (xs : List ℕ) → UsableAt S T all ms xs b → TakenAt S z ms xs → times_in z all ≡ 1
taken_once S T b all z [] xs u h = absurd h
taken_once S T b all z (m ∷ ms) [] u h = absurd h
taken_once S T b all z (m ∷ ms) (x ∷ xs) u h = ⊎_elim (λ q. ap (λ k. times_in k all) q.2 ∙ (u.0 (λ w. two (sym w ∙ q.0))).2 q.1) (λ q. taken_once S T b all z ms xs u.1 q) h

place_in : (z : ℕ) (ms : List Mode) (xs : List ℕ) (i : ℕ) → PlaceOf z ms xs i → In z xs
place_in z [] xs i h = absurd h
place_in z (m ∷ ms) [] i h = absurd h
place_in z (m ∷ ms) (x ∷ xs) i h = ⊎_elim (λ q. inl q.0) (λ q. inr (place_in z ms xs i q)) h

-- a variable that is at no place of a call keeps its inst
pub after_same : (S : System) (T : ℕ → TypeTerm) {there : ℕ → Bool} {ms : List Mode} {xs : List ℕ} {b c : Insts} → AfterArguments S T there ms xs b c → (z : ℕ) → (In z xs → ⊥) → c z ≡ b z
after_same S T {ms = ms} {xs = xs} {c = c} r z n = ⊎_elim (λ e. e) (λ p. absurd (n (place_in z ms xs (c z) p))) (after_inst S T r z)

pub also_here : (x i : ℕ) (b : Insts) → also x i b x ≡ i
also_here x i b = on (nat_eq x x) (eq-eqb x x refl)
  where
    on : (t : Bool) → t ≡ true → cond t i (b x) ≡ i
    on true e = refl
    on false e = absurd (true_not_false (sym e))

-- what a call takes is dead after it
pub taken_dies : (S : System) (T : ℕ → TypeTerm) {there : ℕ → Bool} {ms : List Mode} {xs : List ℕ} {b c : Insts} → AfterArguments S T there ms xs b c → (z : ℕ) → TakenAt S z ms xs → times_in z xs ≤ 1 → S.insts (c z) ≡ dead
taken_dies S T no_more z h l = absurd h
taken_dies S T (not_passed {x = x} {xs = xs} r) z h l = ⊎_elim (λ q. absurd (two q.0)) (λ q. taken_dies S T r z q (omega (arith, l, times_rest z x xs))) h
taken_dies S T (output {x = x} {xs = xs} n q r) z h l = ⊎_elim (λ q. absurd (two q.0)) (λ q. taken_dies S T r z q (omega (arith, l, times_rest z x xs))) h
taken_dies S T (implied {x = x} {xs = xs} n q r) z h l = ⊎_elim (λ q. absurd (two q.0)) (λ q. taken_dies S T r z q (omega (arith, l, times_rest z x xs))) h
taken_dies S T (keeps {x = x} {xs = xs} n d i r) z h l = ⊎_elim (λ q. absurd (d q.1)) (λ q. taken_dies S T r z q (omega (arith, l, times_rest z x xs))) h
taken_dies S T (becomes {x = x} {xs = xs} n d i r) z h l = ⊎_elim (λ q. absurd (d q.1)) (λ q. taken_dies S T r z q (omega (arith, l, times_rest z x xs))) h
taken_dies S T (dies {b = b} {c = c} {x = x} {l = k} {ms = ms} {xs = xs} n d r) z h l =
    ⊎_elim
    (λ q. subst (λ y. S.insts (c y) ≡ dead) (sym q.2) (ap S.insts (after_same S T r x (λ i. omega (arith, in_times x xs i, times_here x xs, subst (λ y. times_in y (x ∷ xs) ≤ 1) q.2 l)) ∙ also_here x k b) ∙ d))
    (λ q. taken_dies S T r z q (omega (arith, l, times_rest z x xs))) h

module _ (S : System) (D : Parameters) (F : Fits S D) (θ : TypeChoice) (T : ℕ → TypeTerm) (proper : (x : ℕ) → ProperType D (T x)) (σ : ℕ → TypeTerm) (b : Insts) (e : Bindings) where
  -- an argument at a unique input is live
  pub live_at : (i x : ℕ) (t : TypeTerm) → i ≡ 2 → t ≡ state_type → T x ≡ instance_of σ t → is_bound (b x) ≡ true → Included S.world.source S.insts (b x) i (T x) → BoundAs S θ (b x) (T x) (e x) → Live S T b x
  live_at i x t q s y n c h =
      let z : T x ≡ state_type = y ∙ ap (instance_of σ) s in
      let inc : IncludedNodes (S.insts (b x)) unique (NoMore S.world.source S.insts (b x) 2 (T x)) = subst (λ N. IncludedNodes (S.insts (b x)) N (NoMore S.world.source S.insts (b x) 2 (T x))) F.insts.is_unique (subst (λ k. Included S.world.source S.insts (b x) k (T x)) q c) in
      (z, state_unique S D F θ (b x) (e x) (bound_is (b x) n) (subst (λ u. NoMore S.world.source S.insts (b x) 2 u) z (in_unique (S.insts (b x)) (NoMore S.world.source S.insts (b x) 2 (T x)) inc)) (subst (λ u. BoundAs S θ (b x) u (e x)) z h))

  -- no place takes the state, or one does
  pub split : (all : List ℕ) (ms : List Mode) (xs : List ℕ) (ts : List TypeTerm) → UsableAt S T all ms xs b → TidyModes S ms ts → Arguments.TypesAt S D F θ T proper σ xs ts → TypedAt S θ T xs b e → Lends S ms ⊎ ((y : ℕ) × In y xs × Live S T b y × TakenAt S y ms xs)
  split all [] xs ts u t y m = inl tt
  split all (k ∷ ms) [] ts u t y m = absurd u
  split all (k ∷ ms) (x ∷ xs) [] u t y m = absurd t
  split all (k ∷ ms) (x ∷ xs) (s ∷ ts) u t y m =
      ⊎_elim
      (λ n. ⊎_elim (λ r. inl (n, r)) (λ r. inr (r.0, inr r.1, r.2, inr r.3)) (split all ms xs ts u.1 t.2 y.1 (λ z i. m z (inr i))))
      (λ q. let v = u.0 (λ w. two (sym w ∙ q.0)) in inr (x, inl refl, live_at k.0 x s q.0 (t.0 q.0) y.0 v.0 v.1 (m x (inl refl)), inl (q.0, q.1, refl)))
      (takes_here k)
    where
      dies_here : (N : InstNode) → (N ≢ dead) ⊎ (N ≡ dead)
      dies_here free = inl (λ e. cc)
      dies_here ground = inl (λ e. cc)
      dies_here unique = inl (λ e. cc)
      dies_here dead = inr refl
      dies_here (bound ls) = inl (λ e. cc)

      takes_here : (k : Mode) → (k.0 ≡ 2 → S.insts k.1 ≢ dead) ⊎ ((k.0 ≡ 2) × (S.insts k.1 ≡ dead))
      takes_here k = ⊎_elim (λ q. ⊎_elim (λ n. inl (λ w. n)) (λ d. inr (q, d)) (dies_here (S.insts k.1))) (λ n. inl (λ q. absurd (n q))) (cases_eq k.0 2)

  module _ (W : World) (M : List ℕ) (hw : Holds S T W M b e) where
    -- where a live variable doesn't stand among the rest, no other is handed
    none_else : (x : ℕ) → In x M → Live S T b x → (all : List ℕ) (ms : List Mode) (xs : List ℕ) (ts : List TypeTerm) → times_in x xs ≡ 0 → UsableAt S T all ms xs b → TidyModes S ms ts → Arguments.TypesAt S D F θ T proper σ xs ts → TypedAt S θ T xs b e → Among xs M → NoPlace Taken ms
    none_else x xm lx all [] xs ts n u t y m am = tt
    none_else x xm lx all (k ∷ ms) [] ts n u t y m am = absurd u
    none_else x xm lx all (k ∷ ms) (z ∷ xs) [] n u t y m am = absurd t
    none_else x xm lx all (k ∷ ms) (z ∷ xs) (s ∷ ts) n u t y m am = (
      (λ q.
          let v = u.0 (λ w. two (sym w ∙ q)) in
          let lz = live_at k.0 z s q (t.0 q) y.0 v.0 v.1 (m z (inl refl)) in
          let same : x ≡ z = hw.alone x z xm (am z (inl refl)) lx lz in
          omega (arith, n, subst (λ w. times_in x (w ∷ xs) ≡ suc (times_in x xs)) same (times_here x xs))),
      none_else x xm lx all ms xs ts (omega (arith, n, times_rest x z xs)) u.1 t.2 y.1 (λ w i. m w (inr i)) (λ w i. am w (inr i)),
    )

    -- where one is taken, no other is handed
    pub handed : (x : ℕ) → In x M → Live S T b x → (all : List ℕ) (ms : List Mode) (xs : List ℕ) (ts : List TypeTerm) → TakenAt S x ms xs → times_in x xs ≤ 1 → UsableAt S T all ms xs b → TidyModes S ms ts → Arguments.TypesAt S D F θ T proper σ xs ts → TypedAt S θ T xs b e → Among xs M → OnePlace Taken ms × Handed ms (map e xs) (Tells W)
    handed x xm lx all [] xs ts h n u t y m am = absurd h
    handed x xm lx all (k ∷ ms) [] ts h n u t y m am = absurd h
    handed x xm lx all (k ∷ ms) (z ∷ xs) [] h n u t y m am = absurd t
    handed x xm lx all (k ∷ ms) (z ∷ xs) (s ∷ ts) h n u t y m am =
        ⊎_elim
        (λ q.
        let none = none_else x xm lx all ms xs ts (omega (arith, subst (λ w. times_in x (w ∷ xs) ≡ suc (times_in x xs)) q.2 (times_here x xs), n)) u.1 t.2 y.1 (λ w i. m w (inr i)) (λ w i. am w (inr i)) in (
          ((λ w. none), one_of_none ms none),
          ((λ w. subst (λ v. Tells W (e v)) q.2 (hw.tells x xm lx)), handed_none all ms xs u.1 none),
        ))
        (λ q.
        let r = handed x xm lx all ms xs ts q (omega (arith, n, times_rest x z xs)) u.1 t.2 y.1 (λ w i. m w (inr i)) (λ w i. am w (inr i)) in
        let no : k.0 ≡ 2 → ⊥ = λ w.
        let v = u.0 (λ o. two (sym o ∙ w)) in
        let lz = live_at k.0 z s w (t.0 w) y.0 v.0 v.1 (m z (inl refl)) in
        let same : x ≡ z = hw.alone x z xm (am z (inl refl)) lx lz in
        omega (arith, n, in_times x xs (taken_in S x ms xs q), subst (λ o. times_in x (o ∷ xs) ≡ suc (times_in x xs)) same (times_here x xs)) in (
          ((λ w. absurd (no w)), r.0),
          ((λ w. absurd (no w)), r.1),
        )) h
      where
        handed_none : (all : List ℕ) (ms : List Mode) (xs : List ℕ) → UsableAt S T all ms xs b → NoPlace Taken ms → Handed ms (map e xs) (Tells W)
        handed_none all [] [] u n = tt
        handed_none all [] (x ∷ xs) u n = absurd u
        handed_none all (m ∷ ms) [] u n = absurd u
        handed_none all (m ∷ ms) (x ∷ xs) u n = ((λ q. absurd (n.0 q)), handed_none all ms xs u.1 n.1)
