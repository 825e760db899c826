-- Procedures that are taken out and come back into their places.
use Rattle.std.proofs.lemmas.Bool.{cases_eq}
use Rattle.std.proofs.lemmas.List.{get_or-set_same, get_or-set_other, get_or_default, length-set}
use Rattle.std.proofs.Common.{◌≡◌, ⊎_elim, ℕ, zero, suc, ◌+◌, ◌<◌, ◌≤◌, List, [], ◌∷◌, length, get_or, set, false, refl, sym, ap, ◌∙◌, subst, arith}
use Rattle.mc_source.specs.Determinism.{inferred, det}
use Rattle.mc_model.specs.Scheduled.{node, Conj, no_nodes, Procedure}
use Rattle.mc_model.specs.PlainGoals.{plain_node, plain_proc}
use Rattle.mc_model.specs.declared.sched.Proc.{Proc}
use Rattle.mc_procs.specs.Named.{Named}
use Rattle.mc_procs.specs.Fitting.{AllFit, ProcedureFits, bounds_of}
use Rattle.mc_procs.specs.Procedures.{PlainProcs, procedure_at, with_procs}
use Rattle.mc_det.specs.code.Places.{IsPlaced, HasNoGoals}
use Rattle.mc_det.proofs.Declaring.{procedure_is}
use Rattle.mc_det.proofs.Replacing.{beside, with_another, MayStand}

set_again : (ps : List Proc) (k : ℕ) (s p : Proc) → set (set ps k s) k p ≡ set ps k p
set_again [] k s p = refl
set_again (x ∷ ps) zero s p = refl
set_again (x ∷ ps) (suc k) s p = ap (λ (l : List Proc). x ∷ l) (set_again ps k s p)

-- a procedure of a list, which fits
module _ (q : PlainProcs) (a : AllFit q) (k : ℕ) (lt : k < length q.added) (p : Proc) (is : p ≡ get_or q.added k p) where
  seen : procedure_at q.added k ≡ plain_proc p
  seen = procedure_is q.added k p lt ∙ ap plain_proc (sym is)

  pub of_its_pred : p.pred ≡ get_or q.preds k 0
  of_its_pred = ap (λ (x : Procedure). x.pred) (sym seen) ∙ a.preds k lt

  pub one_fits : ProcedureFits q (plain_proc p)
  one_fits = subst (ProcedureFits q) seen (a.each k lt)

-- a procedure without goals may stand where it did
pub stand_in_may : (q : PlainProcs) (p s : Proc) → HasNoGoals p s → MayStand q p s
stand_in_may q p s h =
    let P = plain_proc p in
    let named : Named (bounds_of q P) (node (Conj no_nodes) [] (inferred det) false) = (tt, tt) in (
      ap (λ (x : Proc). x.pred) h.others,
      λ f.
          subst (ProcedureFits q) (sym (ap plain_proc h.others))
          (with_another q P (plain_node s.body) p.det f (subst (Named (bounds_of q P)) (sym h.body) named)),
    )

-- while another one stands in its place
module _ (R : (before after : Proc) → Type 0) (q r : PlainProcs) (k : ℕ) (o : IsPlaced R q k r) where
  pub same_count : length r.added ≡ length q.added
  same_count = ap (λ (v : PlainProcs). length v.added) o.others ∙ length-set q.added k o.placed

  pub same_pred : (p : Proc) → p.pred ≡ get_or q.preds k 0 → p.pred ≡ get_or r.preds k 0
  same_pred p e = e ∙ ap (λ (v : PlainProcs). get_or v.preds k 0) (sym o.others)

  pub fits_meanwhile : (p : Proc) → ProcedureFits q (plain_proc p) → ProcedureFits r (plain_proc p)
  fits_meanwhile p f =
      subst (λ (v : PlainProcs). ProcedureFits v (plain_proc p)) (sym o.others) (beside q (set q.added k o.placed) (plain_proc p) f)

  -- it comes back, to which the first one stands so
  pub comes_back : (S : (before after : Proc) → Type 0) (t : PlainProcs) (x p : Proc) → k < length q.added → t ≡ with_procs r (set r.added k x) → p ≡ get_or q.added k p → S p x → IsPlaced S q k t
  comes_back S t x p lt back is so =
      record {
        placed = x;
        others =
            back
            ∙ ap (λ (v : PlainProcs). with_procs v (set v.added k x)) o.others
            ∙ ap (with_procs q) (set_again q.added k o.placed x);
        so = subst (λ (y : Proc). S y x) (is ∙ get_or_default q.added k p x lt) so;
      }

-- procedures that come one after another: those before this one, and those behind it
module _ (R : (before after : Proc) → Type 0) (ps : List Proc) where
  pub each_placed : (rs : List Proc) (k : ℕ) (x : Proc) → length rs ≡ length ps → k < length ps → R (get_or ps k x) x → ((j : ℕ) (d : Proc) → j < k → R (get_or ps j d) (get_or rs j d)) → (j : ℕ) (d : Proc) → j < k + 1 → R (get_or ps j d) (get_or (set rs k x) j d)
  each_placed rs k x count lt so each j d b =
      ⊎_elim
      (λ (e : j ≡ k).
      subst (R (get_or ps j d)) (sym (ap (λ i. get_or (set rs k x) i d) e ∙ get_or-set_same rs k x d (omega (arith, count, lt))))
      (subst (λ (p : Proc). R p x) (get_or_default ps k x d lt ∙ ap (λ i. get_or ps i d) (sym e)) so))
      (λ (n : j ≡ k → ⊥).
      subst (R (get_or ps j d)) (sym (get_or-set_other rs k j x d n)) (each j d (omega arith)))
      (cases_eq j k)

pub rest_stays : (ps rs : List Proc) (k : ℕ) (x : Proc) → ((j : ℕ) (d : Proc) → k ≤ j → get_or rs j d ≡ get_or ps j d) → (j : ℕ) (d : Proc) → k + 1 ≤ j → get_or (set rs k x) j d ≡ get_or ps j d
rest_stays ps rs k x rest j d le =
    get_or-set_other rs k j x d (let n : j ≡ k → ⊥ = omega arith in n) ∙ rest j d (omega arith)
