-- The test of labels tells equality.
use Rattle.std.proofs.Common.{◌≡◌, Bool, true, false, refl, sym, ap, ◌∙◌}
use Rattle.std.proofs.lemmas.Bool.{eqb-true, eq-eqb}
use Rattle.mc_model.specs.Scheduled.{Label, for_symbol, for_constant}
use Rattle.mc_accepted.specs.Switched.{same_label}
use Rattle.laws_language.proofs.Equality.{value_same, same_of}

pub label_same : (k l : Label) → same_label k l ≡ true → k ≡ l
label_same (for_symbol f) (for_symbol g) q = ap for_symbol (eqb-true f g q)
label_same (for_symbol f) (for_constant w) q = cc
label_same (for_constant v) (for_symbol g) q = cc
label_same (for_constant v) (for_constant w) q = ap for_constant (value_same v w q)

pub label_self : (l : Label) → same_label l l ≡ true
label_self (for_symbol f) = eq-eqb f f refl
label_self (for_constant v) = same_of v v refl

pub label_flip : (k l : Label) → same_label k l ≡ same_label l k
label_flip k l = both (same_label k l) (same_label l k) refl refl
  where
    both : (t u : Bool) → same_label k l ≡ t → same_label l k ≡ u → t ≡ u
    both true true p q = refl
    both true false p q = sym (label_self l) ∙ ap (λ m. same_label l m) (sym (label_same k l p)) ∙ q
    both false true p q = sym p ∙ ap (λ m. same_label k m) (label_same l k q) ∙ label_self k
    both false false p q = refl
