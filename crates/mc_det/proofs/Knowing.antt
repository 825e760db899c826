-- What the last fact on a variable says.
use Rattle.std.proofs.Math.Seq.{drop-cons}
use Rattle.std.proofs.Common.{◌≡◌, ℕ, zero, suc, ◌<◌, nat_eq, List, [], ◌∷◌, length, get_or, drop, Bool, true, false, Option, Some, None, refl, sym, ap, ◌∙◌, arith, if◌then◌else◌, IsTrue, ◌↔◌, ⊎_elim}
use Rattle.std.proofs.lemmas.Bool.{cases_Bool}
use Rattle.std.specs.Option.{option_or}
use Rattle.mc_program.specs.Values.{plain_value, same_value}
use Rattle.mc_program.specs.declared.value.Value.{Value}
use Rattle.mc_program.proofs.Views.{plain_value-injective}
use Rattle.laws_language.proofs.Equality.{value_same, same_of}
use Rattle.mc_model.specs.Scheduled.{Label}
use Rattle.mc_model.specs.PlainGoals.{plain_label}
use Rattle.mc_det.specs.declared.facts.Fact.{Fact}
use Rattle.mc_det.specs.code.Facts.{known_in}

abbrev said : ℕ → Fact → Option Label
said x f = if nat_eq x f.variable then Some (plain_label f.on) else None

-- the fact at a place is on the variable, and none behind it
pub known_at : (facts : List Fact) (k x : ℕ) (f : Fact) → k < length facts → known_in (drop (suc k) facts) x ≡ None → f ≡ get_or facts k f → nat_eq x f.variable ≡ true → known_in facts x ≡ Some (plain_label f.on)
known_at [] k x f lt e i t = absurd (omega arith)
known_at (g ∷ facts) zero x f lt e i t =
    ap (λ (o : Option Label). option_or o (said x g)) e
    ∙ ap (said x) (sym i)
    ∙ ap (λ (b : Bool). if b then Some (plain_label f.on) else None) t
known_at (g ∷ facts) (suc k) x f lt e i t =
    ap (λ (o : Option Label). option_or o (said x g)) (known_at facts k x f (omega arith) e i t)

-- the fact at a place is on another
pub known_past : (facts : List Fact) (k x : ℕ) (f : Fact) → k < length facts → known_in (drop (suc k) facts) x ≡ None → f ≡ get_or facts k f → nat_eq x f.variable ≡ false → known_in (drop k facts) x ≡ None
known_past facts k x f lt e i t =
    ap (λ (l : List Fact). known_in l x) (drop-cons facts k f lt)
    ∙ ap (λ (o : Option Label). option_or o (said x (get_or facts k f))) e
    ∙ ap (said x) (sym i)
    ∙ ap (λ (b : Bool). if b then Some (plain_label f.on) else None) t

-- values are equal where what they stand for is
pub values_tell : (b : Bool) (v w : Value) → (IsTrue b ↔ (v ≡ w)) → b ≡ same_value (plain_value v) (plain_value w)
values_tell true v w h = sym (same_of (plain_value v) (plain_value w) (ap plain_value (h.0 refl)))
values_tell false v w h = ⊎_elim (λ t. absurd (none (h.1 (plain_value-injective v w (value_same (plain_value v) (plain_value w) t))))) (λ f. sym f) (cases_Bool (same_value (plain_value v) (plain_value w)))
  where
    none : IsTrue false → ⊥
    none h = cc
