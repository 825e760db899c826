use Rattle.std.proofs.Common.{◌≡◌, ℕ, List, [], ◌∷◌, true, false, refl, ap, arith}
use Rattle.mc_source.specs.Determinism.{Determinism}
use Rattle.laws_language.proofs.examples.determinisms.Goals as goal

differ : false ≡ true → ⊥
differ e = cc

differ_back : true ≡ false → ⊥
differ_back e = cc

filled : ◌≡◌ {A = List ℕ} (2 ∷ []) [] → ⊥
filled e = cc

pub returns-clause-determinisms : goal.returns-clause-determinisms
returns-clause-determinisms c = (refl, refl, refl, refl, refl, refl, refl, refl, refl, refl, refl, (λ e. differ_back (ap (λ (d : Determinism). d.can_fail) e)))

pub returns-clause-committed_calls : goal.returns-clause-committed_calls
returns-clause-committed_calls c = (
  (λ e. (refl, refl)),
  (λ h. differ (h refl).0),
  (λ h. filled (h refl).1),
  (λ e. (refl, refl)),
  (λ e. (refl, refl)),
  ((λ e. (refl, refl)), (tt, tt)),
  (λ h. differ (h.0 refl).0),
)

pub returns-clause-io_goals : goal.returns-clause-io_goals
returns-clause-io_goals c = (
  ((refl, refl, (λ e. omega arith)), tt),
  (λ h. differ_back h.0.0),
  (λ h. differ_back h.1),
  (λ h. differ_back h.0.1),
  (λ h. absurd (omega (arith, h.0.2 refl))),
  ((refl, refl, (λ e. absurd (differ_back e))), ((λ e f. refl), (((refl, refl, (λ e. omega arith)), tt), (((refl, refl, (λ e. omega arith)), tt), tt)))),
)
