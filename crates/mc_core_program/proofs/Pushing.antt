-- A list with one more element.
use Rattle.std.proofs.Common.{◌≡◌, ◌⊎◌, inl, inr, ℕ, zero, suc, List, [], ◌∷◌, ◌++◌, length, slice_get, Option, Some, refl, sym, ap, ◌∙◌, subst}
use Rattle.mc_program.specs.declared.program.Pred.{Pred}
use Rattle.mc_program.specs.declared.program.Resolved.{Resolved}
use Rattle.mc_model.specs.declared.flat.Normal.{Normal}
use Rattle.mc_core_program.specs.Goals.{IsNormal}

-- an element of it is of the list, or the last one
pub get_more : {A : Type 0} (xs : List A) (v : A) (k : ℕ) (w : A) → slice_get (xs ++ v ∷ []) k ≡ Some w → (slice_get xs k ≡ Some w) ⊎ ((k ≡ length xs) × (v ≡ w))
get_more [] v zero w p = inr (refl, cc)
get_more [] v (suc k) w p = absurd (cc)
get_more (x ∷ xs) v zero w p = inl p
get_more (x ∷ xs) v (suc k) w p =
    elim (get_more xs v k w p) [ inl q ↦ inl q | inr q ↦ inr (ap suc q.0, q.1) ]

same : {A : Type 0} (a b : A) (o : Option A) → o ≡ Some a → o ≡ Some b → a ≡ b
same a b o p q = (let e : Some a ≡ Some b = sym p ∙ q in cc)

-- the normal goal of what stands at a number
pub normal_at : (preds : List Pred) (clauses : List (List Resolved)) (k : ℕ) (p : Pred) (cs : List Resolved) (g : Normal) → slice_get preds k ≡ Some p → slice_get clauses k ≡ Some cs → IsNormal k p cs g →
    (n : ℕ) (h : Normal) (q : Pred) (ds : List Resolved) → n ≡ k → g ≡ h → slice_get preds n ≡ Some q → slice_get clauses n ≡ Some ds → IsNormal n q ds h
normal_at preds clauses k p cs g at_p at_cs is n h q ds e f at_q at_ds =
    subst (λ m. IsNormal m q ds h) (sym e)
    (subst (λ r. IsNormal k r ds h) (same p q (slice_get preds k) at_p (sym (ap (slice_get preds) e) ∙ at_q))
    (subst (λ es. IsNormal k p es h) (same cs ds (slice_get clauses k) at_cs (sym (ap (slice_get clauses) e) ∙ at_ds))
    (subst (λ r. IsNormal k p cs r) f is)))
