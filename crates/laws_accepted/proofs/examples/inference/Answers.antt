use Rattle.std.proofs.Common.{◌≡◌, ℕ, zero, suc, ◌<◌, ◌≤◌, Some, None, true, false, refl, sym, ◌∙◌, arith}
use Rattle.mc_source.specs.Determinism.{det, row_of, Allows}
use Rattle.mc_source.specs.declared.det.Det.{Det}
use Rattle.mc_accepted.specs.Inferred.{DeclaredSystem, system_of, body_determinism, Closed}
use Rattle.laws_accepted.specs.code.Examples.{uncommitted}
use Rattle.laws_accepted.specs.code.ExamplesOfDeterminisms.{many_or_none}
use Rattle.laws_accepted.specs.code.ExamplesOfInference.{loops, one_fact, it_is}
use Rattle.laws_accepted.proofs.examples.inference.Goals as goal

none_some : (d : Det) → None ≡ Some d → ⊥
none_some d e = cc

-- what holds of the first number holds of all below one
only : (P : ℕ → Type 0) → P 0 → (k : ℕ) → k < 1 → P k
only P h zero b = h
only P h (suc k) b = absurd (omega (arith, b))

closed_where :
    (D : DeclaredSystem) (d : Det) → D.count ≡ 1 → (D.procs 0).declared ≡ None → ((k : ℕ) → (D.procs (suc k)).procedure.det ≡ uncommitted false)
    → d.committed ≡ false → Allows (row_of d) det
    → Allows (row_of d) (body_determinism (system_of D (it_is d)) (D.procs 0).procedure) → Closed D (it_is d)
closed_where D d n o p u a b =
    record {
      declared = λ k c l. only (λ k. (D.procs k).declared ≡ Some c → it_is d k ≡ c) (λ e. absurd (none_some c (sym o ∙ e))) k (below k l);
      at_least_det = λ k l e. only (λ k. Allows (row_of (it_is d k)) det) a k (below k l);
      uncommitted = λ k l e. only (λ k. (it_is d k).committed ≡ false) u k (below k l);
      allows = λ k l e. only (λ k. Allows (row_of (it_is d k)) (body_determinism (system_of D (it_is d)) (D.procs k).procedure)) b k (below k l);
      others = λ k l. beyond k (omega (arith, n, l));
    }
  where
    below : (k : ℕ) → k < D.count → k < 1
    below k l = omega (arith, n, l)

    beyond : (k : ℕ) → 1 ≤ k → it_is d k ≡ (D.procs k).procedure.det
    beyond zero l = absurd (omega (arith, l))
    beyond (suc k) l = sym (p k)

false_is_true : false ≡ true → ⊥
false_is_true e = cc

pub returns : goal.returns
returns c = (
  record {
    closed = closed_where loops (uncommitted false) refl refl (λ k. refl) refl ((λ h. h), omega arith) ((λ h. h), omega arith);
    least = λ es h. only (λ k. Allows (row_of (es k)) (row_of (it_is (uncommitted false) k))) (h.at_least_det 0 (omega arith) refl);
  },
  closed_where loops many_or_none refl refl (λ k. refl) refl ((λ h. refl), omega arith) ((λ h. h), omega arith),
  (λ h. false_is_true ((h.least (it_is (uncommitted false)) (closed_where loops (uncommitted false) refl refl (λ k. refl) refl ((λ h. h), omega arith) ((λ h. h), omega arith)) 0 (omega arith)).0 refl)),
  record {
    closed = closed_where one_fact (uncommitted true) refl refl (λ k. refl) refl ((λ h. refl), omega arith) ((λ h. refl), omega arith);
    least = λ es h. only (λ k. Allows (row_of (es k)) (row_of (it_is (uncommitted true) k))) (h.allows 0 (omega arith) refl);
  },
  (λ h. false_is_true ((h.allows 0 (omega arith) refl).0 refl)),
)
