-- What one mode leaves behind.
use Rattle.std.proofs.Common.{◌≡◌, ◌<◌, ℕ, ◌==◌, Bool, true, false, List, [], ◌∷◌, ◌++◌, length, get_or, inl, inr, Result, Ok, Err, OnOk, refl, sym, ap, subst, ◌∙◌, true≢false}
use Rattle.std.proofs.Math.Dec.{eqb-suc-zero}
use Rattle.std.proofs.lemmas.List.{get_or_default}
use Rattle.mc_source.specs.Rules.{Fault}
use Rattle.mc_source.specs.declared.place.Place.{Place}
use Rattle.mc_source.specs.declared.rule.Broken.{Broken}
use Rattle.mc_model.specs.declared.flat.Normal.{Normal}
use Rattle.mc_model.specs.declared.inst.ModeDecl.{ModeDecl}
use Rattle.mc_model.specs.declared.inst.Sig.{Sig}
use Rattle.mc_model.specs.declared.sched.Proc.{Proc}
use Rattle.mc_accepted.specs.Arranged.{faulty, unmet}
use Rattle.mc_procs.specs.Procedures.{PlainProcs, with_insts}
use Rattle.mc_mode_state.specs.Answers.{plain_fault}
use Rattle.mc_modes.specs.Signatures.{mode_in, no_mode}
use Rattle.mc_modes.specs.Schedules.{IsScheduled, Schedules}
use Rattle.mc_modes.specs.declared.arranging.Refusal.{Refusal}
use Rattle.mc_modes.specs.declared.arranging.Refusal.TheVariants as E
use Rattle.mc_modes.specs.code.Steps.{Tells, IsNext, Adds, Steps}

pub none_listed : {A : Type 0} (xs : List A) (n : ℕ) → n ≡ length xs → true ≡ (n == 0) → xs ≡ []
none_listed [] n e t = refl
none_listed (x ∷ xs) n e t = absurd (true≢false (t ∙ ap (λ k. k == 0) e ∙ eqb-suc-zero (length xs)))

pub some_listed : {A : Type 0} (xs : List A) (n : ℕ) → n ≡ length xs → false ≡ (n == 0) → xs ≡ [] → ⊥
some_listed [] n e t h = true≢false (sym (t ∙ ap (λ k. k == 0) e))
some_listed (x ∷ xs) n e t h = cc

-- where a mode is declared
pub declared_at : (ms ns : List ModeDecl) (k : ℕ) (d : ModeDecl) → ms ≡ ns → k < length ns → (get_or ms k d).at ≡ (get_or ns k no_mode).at
declared_at ms ns k d e l =
    ap (λ (m : ModeDecl). m.at) (ap (λ (ls : List ModeDecl). get_or ls k d) e ∙ get_or_default ns k d no_mode l)

pub still_next : (q r : PlainProcs) (g : Normal) → r ≡ with_insts q r.insts → IsNext q g → IsNext r g
still_next q r g e n = subst (λ (x : PlainProcs). IsNext x g) (sym e) n

module _ (sigs : List Sig) (g : Normal) (k : ℕ) (exported : Bool) where
  pub passed : (q r : PlainProcs) (old : List Broken) (p : Proc) → (old ≡ [] → ⊥) → IsScheduled sigs g k (mode_in sigs g.pred k) q r p → Steps sigs g k exported q r old old
  passed q r old p some s = inr (inl (record { some_before = some; same = refl; proc = p; scheduled = s }))

  pub came : {E : Type 0} (b : Result Unit E) (q m r : PlainProcs) (old : List Broken) (p : Proc) → old ≡ [] → IsScheduled sigs g k (mode_in sigs g.pred k) q m p → OnOk b (Adds exported p m r) → OnOk b (Steps sigs g k exported q r old old)
  came (Ok u) q m r old p none s h =
      inl (record { none_before = none; none = none; proc = p; found = m; scheduled = s; adds = h })
  came (Err e) q m r old p none s h = tt

  abbrev one_listed : Place → Fault → Broken
  one_listed at told = record { rule = told.0; at = at; what = told.1 }

  pub listed : (q r : PlainProcs) (old new : List Broken) (e : Refusal) (told : Fault) (at : Place) → Schedules sigs g k q r (Err e) → Tells g e told → at ≡ (mode_in sigs g.pred k).at → new ≡ old ++ one_listed at told ∷ [] → Steps sigs g k exported q r old new
  listed q r old new (E.Fault f) told at s t place one =
      inr (inr (record {
        verdict = faulty (plain_fault f);
        end = s.0;
        becomes = s.1;
        told = told;
        rule = t;
        one_more = one ∙ ap (λ (a : Place). old ++ one_listed a told ∷ []) place;
      }))
  listed q r old new (E.Unmet n) told at s t place one =
      inr (inr (record {
        verdict = unmet n;
        end = s.0;
        becomes = s.1;
        told = told;
        rule = t;
        one_more = one ∙ ap (λ (a : Place). old ++ one_listed a told ∷ []) place;
      }))
  listed q r old new E.Memory told at s t place one = absurd t
