use Rattle.std.proofs.Common.{◌≡◌, ℕ, true, false, refl, ap}
use Rattle.mc_source.specs.Determinism.{Determinism, rank}
use Rattle.laws_accepted.proofs.examples.determinisms.Goals as goal

differ : true ≡ false → ⊥
differ e = cc

differ_back : false ≡ true → ⊥
differ_back e = cc

two_and_one : ◌≡◌ {A = ℕ} 1 2 → ⊥
two_and_one e = cc

pub returns-clause-lists : goal.returns-clause-lists
returns-clause-lists c = (refl, refl, refl, λ e. differ (ap (λ (d : Determinism). d.can_fail) e))

pub returns-clause-facts : goal.returns-clause-facts
returns-clause-facts c = (refl, refl, refl, λ e. two_and_one (ap (λ (d : Determinism). rank d.most) e))

pub returns-clause-heads : goal.returns-clause-heads
returns-clause-heads c = (refl, refl, refl, refl, refl, λ e. differ (ap (λ (d : Determinism). d.can_fail) e))

pub returns-clause-calls : goal.returns-clause-calls
returns-clause-calls c = (refl, refl, refl, refl, λ e. differ (ap (λ (d : Determinism). d.can_fail) e))

pub returns-clause-marks : goal.returns-clause-marks
returns-clause-marks c = (refl, refl, refl, refl, λ e. differ_back e)
