use Rattle.std.proofs.Common.{◌≡◌, Result, Ok, OnOk, sym, subst}
use Rattle.mc_procs.specs.Procedures.{PlainProcs}
use Rattle.mc_det.specs.Determinisms.{AreDeterminisms}
use Rattle.mc_det.specs.MarkedProcedures.{determinisms_of}
use Rattle.mc_det.proofs.procedures.infer.Goals as goal

-- what holds of procedures that were lent holds of them where they are in hand again
least_kept : {A E : Type 0} (told : Result A E) (made : A) (x y : PlainProcs) → told ≡ Ok made → y ≡ x → OnOk told (AreDeterminisms x (determinisms_of x)) → AreDeterminisms y (determinisms_of y)
least_kept {A} {E} told made x y is same h =
    subst (λ (z : PlainProcs). AreDeterminisms z (determinisms_of z)) (sym same)
    (subst (λ (r : Result A E). OnOk r (AreDeterminisms x (determinisms_of x))) is h)

pub returns-clause-least : goal.returns-clause-least
returns-clause-least c = least_kept _ _ _ _ c.in_ok-made.ensures.made c.in_ok-made.ensures.value c.infer_all-told.ensures.least
