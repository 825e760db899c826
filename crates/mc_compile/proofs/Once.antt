-- Phases answer one thing at most where each of them does.
use Rattle.std.proofs.Common.{◌≡◌, Result, Ok, Err, ap, subst}
use Rattle.mc_compile.specs.Phases.{Refusal, Then, stopped, went_on, AtMostOne}

pub ok_same : {B : Type 0} (x y : B) → ◌≡◌ {A = Result B Refusal} (Ok x) (Ok y) → x ≡ y
ok_same x y e = cc

not_both : {B : Type 0} (x : B) (r : Refusal) → ◌≡◌ {A = Result B Refusal} (Ok x) (Err r) → ⊥
not_both x r e = cc

err_same : {B : Type 0} (x y : Refusal) → ◌≡◌ {A = Result B Refusal} (Err x) (Err y) → x ≡ y
err_same x y e = cc

pub then_once : {A B C : Type 0} (First : A → Result B Refusal → Type 0) (Second : B → Result C Refusal → Type 0) → AtMostOne First → AtMostOne Second → AtMostOne (Then First Second)
then_once {A} {B} {C} First Second one two a x y p q = both p q
  where
    both : {x y : Result C Refusal} → Then First Second a x → Then First Second a y → x ≡ y
    both (stopped {r} f) (stopped {r = s} g) = ap (λ (t : Refusal). Err t) (err_same {B = B} r s (one a (Err r) (Err s) f g))
    both (stopped {r} f) (went_on {b} g h) = absurd (not_both b r (one a (Ok b) (Err r) g f))
    both (went_on {b} g h) (stopped {r} f) = absurd (not_both b r (one a (Ok b) (Err r) g f))
    both {x} {y} (went_on {b} f g) (went_on {b = d} h k) = two d x y (subst (λ (e : B). Second e x) (ok_same b d (one a (Ok b) (Ok d) f h)) g) k
