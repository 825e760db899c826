-- One more goal at the end of a code.
use Rattle.std.proofs.Common.{◌≡◌, inl, inr, ℕ, sym, ap, ◌∙◌, subst, [], ◌∷◌, ◌++◌, length, length-append, slice_get, Result, Ok, Err, IfOk, arith, Vec, Global}
use Rattle.mc_flat_code.specs.Running.{Lower, IsCode}
use Rattle.mc_flat_code.specs.Standing.{At}
use Rattle.mc_flat_code.specs.code.Building.{Grows, Laid}
use Rattle.mc_flat_code.specs.declared.code.Instr.{Instr}
use Rattle.mc_flat_code.specs.declared.code.Instr.TheVariants as I
use Rattle.mc_flat_code.specs.declared.code.Code.{Code}
use Rattle.mc_flat_code.proofs.Growth.{continues_same, get_last, get_more, grows_then, at_grows, lower_grows}

module _ (old : Code) (goal : Instr) (instrs : Vec Instr Global) (pushed : instrs.items ≡ old.instrs.items ++ goal ∷ []) where
  abbrev new : Code
  new = record old { instrs = instrs }

  pub add_grows : Grows old new
  add_grows =
      record {
        instrs = (goal ∷ [], pushed);
        variables = continues_same old.variables.items;
        values = continues_same old.values.items;
        branches = continues_same old.branches.items;
      }

  pub add_at : At new (length old.instrs.items) goal
  add_at = ap (λ l. slice_get l (length old.instrs.items)) pushed ∙ get_last old.instrs.items goal

  pub add_code : IsCode old → Lower old (length old.instrs.items) goal → IsCode new
  add_code o l =
      record {
        lower = λ pc i p.
            elim (get_more old.instrs.items goal pc i (ap (λ l. slice_get l pc) (sym pushed) ∙ p)) [
              | inl q ↦ lower_grows old new add_grows pc i (o.lower pc i q)
              | inr q ↦ subst (λ j. Lower new pc j) q.1 (subst (λ n. Lower new n goal) (sym q.0) (lower_grows old new add_grows (length old.instrs.items) goal l))
            ];
        done = at_grows old new add_grows 0 I.Done o.done;
      }

  pub add_laid : IsCode old → Lower old (length old.instrs.items) goal → Laid old new (length old.instrs.items)
  add_laid o l =
      record {
        grows = add_grows;
        is_code = add_code o l;
        within = omega (arith, ap length pushed, length-append old.instrs.items (goal ∷ []));
      }

-- code that has grown but for its goals
pub code_kept : (old new : Code) → Grows old new → new.instrs.items ≡ old.instrs.items → IsCode old → IsCode new
code_kept old new g same o =
    record {
      lower = λ pc i p. lower_grows old new g pc i (o.lower pc i (ap (λ l. slice_get l pc) (sym same) ∙ p));
      done = at_grows old new g 0 I.Done o.done;
    }

-- a goal that was put behind other growth
pub laid_after : (old mid new : Code) (place : ℕ) → Grows old mid → Laid mid new place → Laid old new place
laid_after old mid new place g l =
    record { grows = grows_then old mid new g l.grows; is_code = l.is_code; within = l.within }

module _ {E : Type 0} (old mid new : Code) where
  pub ok_laid_after : (r : Result ℕ E) → Grows old mid → IfOk r (λ place. Laid mid new place) → IfOk r (λ place. Laid old new place)
  ok_laid_after (Ok place) g l = laid_after old mid new place g l
  ok_laid_after (Err e) g l = tt

  pub ok_stands : (r : Result ℕ E) (i : Instr) (P : ℕ → Type 0) → IfOk r (λ place. Laid mid new place) → IfOk r (λ place. At new place i) → ((place : ℕ) → Grows mid new → At new place i → P place) → IfOk r P
  ok_stands (Ok place) i P l a f = f place l.grows a
  ok_stands (Err e) i P l a f = tt

-- what holds of an answer by two facts of it
pub ok_by : {E : Type 0} (r : Result ℕ E) (P Q R : ℕ → Type 0) → IfOk r P → IfOk r Q → ((place : ℕ) → P place → Q place → R place) → IfOk r R
ok_by (Ok place) P Q R p q f = f place p q
ok_by (Err e) P Q R p q f = tt
