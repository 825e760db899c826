-- A call that takes no state makes none, and is calm.
use Rattle.std.proofs.Common.{◌≡◌, inl, inr, ℕ, List, [], ◌∷◌, Bool, Option, Some, sym, ap, ◌∙◌, subst, refl, arith, ⊎_elim}
use Rattle.mc_program.specs.Values.{Val}
use Rattle.mc_program.specs.Programs.{TypeTerm}
use Rattle.mc_model.specs.Insts.{unique, dead}
use Rattle.mc_model.specs.EventList.{Items, Each, bind, of_option}
use Rattle.mc_model.specs.Stream.{Bindings, unify}
use Rattle.mc_accepted.specs.Ordered.{Insts, Mode, UsableAt, AfterArguments, After, no_more, not_passed, output, implied, dies, keeps, becomes}
use Rattle.mc_model.specs.Good.{System, TypeChoice}
use Rattle.mc_accepted.specs.ProperTypes.{Parameters, ProperType}
use Rattle.mc_accepted.specs.Fits.{Fits}
use Rattle.laws_sound.specs.code.Passes.{Grows, TypedAt}
use Rattle.laws_sound.specs.code.Moves.{Calm, Live, NoPlace, Made, MakesNone, TidyModes, SharesAt}
use Rattle.laws_sound.proofs.Arguments
use Rattle.laws_sound.proofs.Binds
use Rattle.laws_sound.proofs.Lists
use Rattle.laws_sound.proofs.MoveArms.{quiet_option}
use Rattle.laws_sound.proofs.MoveAtoms.{NoneNew, StillAfter, also_none, quiet_each}
use Rattle.laws_sound.proofs.MoveCalls.{live_at}
use Rattle.laws_sound.proofs.MoveLists
use Rattle.laws_sound.proofs.MoveReturns.{MadeAt, lives}

module _ (S : System) (D : Parameters) (F : Fits S D) (T : ℕ → TypeTerm) where
  not_dead : (l : ℕ) → S.insts l ≡ dead → l ≡ 2 → ⊥
  not_dead l d q = no (sym F.insts.is_unique ∙ (ap S.insts (sym q) ∙ d))
    where
      no : unique ≡ dead → ⊥
      no e = cc

  -- where no argument becomes unique, nothing is newly live after a call
  pub none_new : (L : List ℕ) {there : ℕ → Bool} {ms : List Mode} {xs : List ℕ} {b c : Insts} → AfterArguments S T there ms xs b c → NoPlace Made ms → NoneNew S D F T L b c
  none_new L no_more n = λ x i l. l
  none_new L (not_passed r) n = none_new L r n.1
  none_new L (output {b = b} {x = x} {l = l} z q r) n = λ y i v. also_none S D F T L b x l n.0 y i (none_new L r n.1 y i v)
  none_new L (implied z q r) n = none_new L r n.1
  none_new L (dies {b = b} {x = x} {l = l} z q r) n = λ y i v. also_none S D F T L b x l (not_dead l q) y i (none_new L r n.1 y i v)
  none_new L (keeps z q k r) n = none_new L r n.1
  none_new L (becomes {b = b} {x = x} {l = l} z q k r) n = λ y i v. also_none S D F T L b x l n.0 y i (none_new L r n.1 y i v)

  module _ (θ : TypeChoice) (proper : (x : ℕ) → ProperType D (T x)) (σ : ℕ → TypeTerm) (b : Insts) (e : Bindings) where
    -- what is unique at an answer was so at the call
    made_live : (all : List ℕ) (ms : List Mode) (xs : List ℕ) (ts : List TypeTerm) → UsableAt S T all ms xs b → TidyModes S ms ts → Arguments.TypesAt S D F θ T proper σ xs ts → TypedAt S θ T xs b e → MakesNone ms → (z : ℕ) → MadeAt z ms xs → Live S T b z
    made_live all [] xs ts u t y m k z h = absurd h
    made_live all (i ∷ ms) [] ts u t y m k z h = absurd h
    made_live all (i ∷ ms) (x ∷ xs) [] u t y m k z h = absurd t
    made_live all (i ∷ ms) (x ∷ xs) (s ∷ ts) u t y m k z h =
        ⊎_elim
        (λ q.
        let f = k.0 q.0 in
        let v = u.0 (λ w. two (sym w ∙ f)) in
        subst (λ w. Live S T b w) (sym q.1) (live_at S D F θ T proper σ b e i.0 x s f (t.0 f) y.0 v.0 v.1 (m x (inl refl))))
        (λ q. made_live all ms xs ts u.1 t.2 y.1 (λ w j. m w (inr j)) k.1 z q) h
      where
        two : (◌≡◌ {A = ℕ} 0 2) → ⊥
        two e = omega arith

    pub call_lent : (L : List ℕ) (ms : List Mode) (xs : List ℕ) (ts : List TypeTerm) (c : Insts) (I Q : List (Option Val) → Type 0) (ys : Items (List (Option Val))) → UsableAt S T xs ms xs b → TidyModes S ms ts → Arguments.TypesAt S D F θ T proper σ xs ts → TypedAt S θ T xs b e → After S T ms xs b c → Each I ys → ((os : List (Option Val)) → Q os → MakesNone ms) →
        ((os : List (Option Val)) → I os → Q os → Each (SharesAt S T L c) (of_option (unify xs os e))) → Calm Q ys → Calm (StillAfter S D F T L b e (Some c)) (bind ys (λ os. of_option (unify xs os e)))
    call_lent L ms xs ts c I Q ys us td types typed r i mk sh f =
        MoveLists.calm_bind_each (λ os. of_option (unify xs os e)) I Q (StillAfter S D F T L b e (Some c)) ys i f
        (λ os j z. quiet_each (StillAfter S D F T L b e (Some c)) (of_option (unify xs os e)) (quiet_option (unify xs os e))
        (Lists.each_map (λ a. Grows e a × SharesAt S T L c a) (StillAfter S D F T L b e (Some c)) (λ a g. ((λ x k l. ⊎_elim (λ m. made_live xs ms xs ts us td types typed (mk os z) x m) (λ w. w.0) (lives S D F T r x l)), g)) (of_option (unify xs os e))
        (Lists.each_both (Grows e) (SharesAt S T L c) (of_option (unify xs os e)) (Binds.unify_extends xs os e) (sh os j z))))
