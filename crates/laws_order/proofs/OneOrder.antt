-- Tests that tell one thing are one test.
use Rattle.std.proofs.Common.{◌≡◌, ℕ, Bool, true, false, refl, ap, sym}
use Rattle.std.proofs.Math.Path.{fun_ext}
use Rattle.std.specs.Prelude.{◌↔◌}
use Rattle.mc_program.specs.Programs.{TypeTerm, Source}
use Rattle.mc_model.specs.Insts.{Graph}
use Rattle.mc_accepted.specs.Arranged.{arrange}
use Rattle.mc_accepted.specs.Forms.{Form, of_forms}
use Rattle.mc_accepted.specs.InOrder.{Tells, FormIncluded}
use Rattle.laws_order.specs.OrderLaws.{OneOrder}

same-test : (t u : Bool) (A : Type 0) → (t ≡ true) ↔ A → (u ≡ true) ↔ A → t ≡ u
same-test true true A p q = refl
same-test true false A p q = sym (q.1 (p.0 refl))
same-test false true A p q = p.1 (q.0 refl)
same-test false false A p q = refl

same-tests : (P : Source) (G : Graph) (f h : Form → ℕ → TypeTerm → Bool) → Tells P G f → Tells P G h → f ≡ h
same-tests P G f h p q = fun_ext (λ i. fun_ext (λ j. fun_ext (λ t. same-test (f i j t) (h i j t) (FormIncluded P G i j t) (p i j t) (q i j t))))

pub one-order : OneOrder
one-order P G declared T f h p q next head first last g = ap (λ fits. arrange (of_forms P G fits) P declared T next head first last g) (same-tests P G f h p q)
