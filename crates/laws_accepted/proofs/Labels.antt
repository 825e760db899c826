-- Labels of arms: at most one of them fits a value.
use Rattle.std.proofs.Common.{◌≡◌, ℕ, List, [], ◌∷◌, Bool, true, false, if◌then◌else◌, nat_eq, ◌||◌, refl, sym, ap, ◌∙◌, subst}
use Rattle.std.specs.List.{list_any}
use Rattle.std.proofs.lemmas.Bool.{eqb-true, eq-eqb}
use Rattle.mc_program.specs.Values.{Val, int, char, str, con, state, same_value}
use Rattle.mc_model.specs.Scheduled.{Label, for_symbol, for_constant}
use Rattle.mc_accepted.specs.Switched.{same_label, others}
use Rattle.laws_language.proofs.Equality.{value_same}
use Rattle.laws_accepted.proofs.Quiet.{matches}

pub label_same : (k l : Label) → same_label k l ≡ true → k ≡ l
label_same (for_symbol f) (for_symbol g) q = ap for_symbol (eqb-true f g q)
label_same (for_symbol f) (for_constant w) q = cc
label_same (for_constant v) (for_symbol g) q = cc
label_same (for_constant v) (for_constant w) q = ap for_constant (value_same v w q)

flip : (a b : ℕ) → nat_eq a b ≡ nat_eq b a
flip a b = both (nat_eq a b) (nat_eq b a) refl refl
  where
    both : (t u : Bool) → nat_eq a b ≡ t → nat_eq b a ≡ u → t ≡ u
    both true true p q = refl
    both true false p q = sym (eq-eqb b a (sym (eqb-true a b p))) ∙ q
    both false true p q = sym p ∙ eq-eqb a b (sym (eqb-true b a q))
    both false false p q = refl

-- a label that fits is the same as just those that fit
pub fits_alone : (v : Val) (l k : Label) → matches v l ≡ true → matches v k ≡ same_label l k
fits_alone (con g vs) (for_symbol f) (for_symbol k) m = subst (λ z. nat_eq k z ≡ nat_eq f k) (eqb-true f g m) (flip k f)
fits_alone (con g vs) (for_symbol f) (for_constant w) m = refl
fits_alone (con g vs) (for_constant u) k m = cc
fits_alone (int n) (for_symbol f) k m = cc
fits_alone (char n) (for_symbol f) k m = cc
fits_alone (str n) (for_symbol f) k m = cc
fits_alone (state n t) (for_symbol f) k m = cc
fits_alone (int n) (for_constant u) (for_symbol f) m = refl
fits_alone (char n) (for_constant u) (for_symbol f) m = refl
fits_alone (str n) (for_constant u) (for_symbol f) m = refl
fits_alone (state n t) (for_constant u) (for_symbol f) m = refl
fits_alone (int n) (for_constant u) (for_constant w) m = ap (λ z. same_value z w) (value_same (int n) u m)
fits_alone (char n) (for_constant u) (for_constant w) m = ap (λ z. same_value z w) (value_same (char n) u m)
fits_alone (str n) (for_constant u) (for_constant w) m = ap (λ z. same_value z w) (value_same (str n) u m)
fits_alone (state n t) (for_constant u) (for_constant w) m = ap (λ z. same_value z w) (value_same (state n t) u m)

module _ (v : Val) where
  -- at most one of the labels fits
  abbrev pub Lone : List Label → Type 0
  Lone [] = Unit {0}
  Lone (l ∷ ls) = (matches v l ≡ true → list_any (matches v) ls ≡ false) × Lone ls

  none_of_others : (l : Label) (ls : List Label) → matches v l ≡ true → list_any (matches v) (others l ls) ≡ false
  none_of_others l [] m = refl
  none_of_others l (k ∷ ks) m = by_test (same_label l k) refl (none_of_others l ks m)
    where
      by_test : (t : Bool) → same_label l k ≡ t → list_any (matches v) (others l ks) ≡ false → list_any (matches v) (if t then others l ks else k ∷ others l ks) ≡ false
      by_test true q r = r
      by_test false q r = subst (λ u. (u || list_any (matches v) (others l ks)) ≡ false) (sym (fits_alone v l k m ∙ q)) r

  others_or : (l : Label) (ls : List Label) → list_any (matches v) (others l ls) ≡ false → matches v l ≡ false → list_any (matches v) ls ≡ false
  others_or l [] h m = refl
  others_or l (k ∷ ks) h m = by_test (same_label l k) refl (λ r. others_or l ks r m) h
    where
      by_test : (t : Bool) → same_label l k ≡ t → (list_any (matches v) (others l ks) ≡ false → list_any (matches v) ks ≡ false) → list_any (matches v) (if t then others l ks else k ∷ others l ks) ≡ false → (matches v k || list_any (matches v) ks) ≡ false
      by_test true q again h = subst (λ u. (matches v u || list_any (matches v) ks) ≡ false) (label_same l k q) (subst (λ u. (u || list_any (matches v) ks) ≡ false) (sym m) (again h))
      by_test false q again h = by_fit (matches v k) h
        where
          by_fit : (t : Bool) → (t || list_any (matches v) (others l ks)) ≡ false → (t || list_any (matches v) ks) ≡ false
          by_fit true h = cc
          by_fit false h = again h

  fewer : (l : Label) (ls : List Label) → list_any (matches v) ls ≡ false → list_any (matches v) (others l ls) ≡ false
  fewer l [] h = refl
  fewer l (k ∷ ks) h = by_fit (matches v k) refl h (λ r. fewer l ks r)
    where
      by_test : (t : Bool) → matches v k ≡ false → list_any (matches v) (others l ks) ≡ false → list_any (matches v) (if t then others l ks else k ∷ others l ks) ≡ false
      by_test true m r = r
      by_test false m r = subst (λ u. (u || list_any (matches v) (others l ks)) ≡ false) (sym m) r

      by_fit : (t : Bool) → matches v k ≡ t → (t || list_any (matches v) ks) ≡ false → (list_any (matches v) ks ≡ false → list_any (matches v) (others l ks) ≡ false) → list_any (matches v) (if same_label l k then others l ks else k ∷ others l ks) ≡ false
      by_fit true m h again = cc
      by_fit false m h again = by_test (same_label l k) m (again h)

  lone_others : (l : Label) (ls : List Label) → Lone ls → Lone (others l ls)
  lone_others l [] h = tt
  lone_others l (k ∷ ks) h = by_test (same_label l k) (lone_others l ks h.1)
    where
      by_test : (t : Bool) → Lone (others l ks) → Lone (if t then others l ks else k ∷ others l ks)
      by_test true r = r
      by_test false r = ((λ m. fewer l ks (h.0 m)), r)

  pub lone_first : (l : Label) (ls : List Label) → Lone ls → Lone (l ∷ others l ls)
  lone_first l ls h = ((λ m. none_of_others l ls m), lone_others l ls h)

  -- where none of the labels fits, none fitted before the copies of the first were left out
  pub none_before : (l : Label) (ls : List Label) → list_any (matches v) (l ∷ others l ls) ≡ false → (matches v l ≡ false) × (list_any (matches v) ls ≡ false)
  none_before l ls h = by_fit (matches v l) refl h
    where
      by_fit : (t : Bool) → matches v l ≡ t → (t || list_any (matches v) (others l ls)) ≡ false → (matches v l ≡ false) × (list_any (matches v) ls ≡ false)
      by_fit true m h = cc
      by_fit false m h = (m, others_or l ls h m)
