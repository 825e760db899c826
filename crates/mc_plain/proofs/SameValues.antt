-- The test of two values tells whether they are one.
use Rattle.std.proofs.Common.{◌≡◌, ℕ, Bool, true, false, ◌&&◌, ◌↔◌, IsTrue, List, refl, ap, subst, arith}
use Rattle.std.specs.Prelude.{nat_eq}
use Rattle.std.specs.Bool.{Decides}
use Rattle.std.specs.Cmp.Lexicographic.{pointwise}
use Rattle.std.proofs.lemmas.Bool.Decides.{nat_tests, Decides-int_eq}
use Rattle.std.proofs.lemmas.Slice.Eq.{slice_eq-Decides}
use Rattle.mc_program.specs.Values.{Val, int, char, str, con, state, Vals, no_vals, val_then, same_value, same_values}

eq_true : (a b : ℕ) → nat_eq a b ≡ true → a ≡ b
eq_true a b e = grind (arith, nat_tests)

true_eq : (a b : ℕ) → a ≡ b → nat_eq a b ≡ true
true_eq a b e = grind (arith, nat_tests)

pub Decides-nat_eq : (a b : ℕ) → Decides (nat_eq a b) (a ≡ b)
Decides-nat_eq a b = (eq_true a b, true_eq a b)

bytes : (s t : List ℕ) → Decides (pointwise nat_eq s t) (s ≡ t)
bytes s t = slice_eq-Decides {E = nat_eq} Decides-nat_eq s t (pointwise nat_eq s t) refl

both_of : (a b : Bool) → a && b ≡ true → (a ≡ true) × (b ≡ true)
both_of true b e = (refl, e)
both_of false b e = cc

of_both : (a b : Bool) → a ≡ true → b ≡ true → a && b ≡ true
of_both true b p q = q
of_both false b p q = p

mutual
  same_to : (v w : Val) → same_value v w ≡ true → v ≡ w
  same_to (int m) (int n) e = ap int ((Decides-int_eq m n).0 e)
  same_to (char c) (char d) e = ap char (eq_true c d e)
  same_to (str s) (str t) e = ap str ((bytes s t).0 e)
  same_to (con f vs) (con g ws) e =
      let b = both_of (nat_eq f g) (same_values vs ws) e in
      let p = eq_true f g b.0 in
      let q = all_same_to vs ws b.1 in
      λ i. con (p i) (q i)
  same_to (state s m) (state t n) e =
      let b = both_of (pointwise nat_eq s t) (nat_eq m n) e in
      let p = (bytes s t).0 b.0 in
      let q = eq_true m n b.1 in
      λ i. state (p i) (q i)
  same_to v w e = cc

  all_same_to : (vs ws : Vals) → same_values vs ws ≡ true → vs ≡ ws
  all_same_to no_vals no_vals e = refl
  all_same_to (val_then v vs) (val_then w ws) e =
      let b = both_of (same_value v w) (same_values vs ws) e in
      let p = same_to v w b.0 in
      let q = all_same_to vs ws b.1 in
      λ i. val_then (p i) (q i)
  all_same_to vs ws e = cc

mutual
  same_refl : (v : Val) → same_value v v ≡ true
  same_refl (int n) = (Decides-int_eq n n).1 refl
  same_refl (char c) = true_eq c c refl
  same_refl (str s) = (bytes s s).1 refl
  same_refl (con f vs) = of_both (nat_eq f f) (same_values vs vs) (true_eq f f refl) (all_same_refl vs)
  same_refl (state s n) = of_both (pointwise nat_eq s s) (nat_eq n n) ((bytes s s).1 refl) (true_eq n n refl)

  all_same_refl : (vs : Vals) → same_values vs vs ≡ true
  all_same_refl no_vals = refl
  all_same_refl (val_then v vs) = of_both (same_value v v) (same_values vs vs) (same_refl v) (all_same_refl vs)

isnt_true : (b : Bool) → (b ≡ true → ⊥) → b ≡ false
isnt_true true h = absurd (h refl)
isnt_true false h = refl

-- an answer that tells whether two values are one is the test's
pub test_is : (same : Bool) (v w : Val) → IsTrue same ↔ (v ≡ w) → same_value v w ≡ same
test_is true v w h = subst (λ u. same_value v u ≡ true) (h.0 refl) (same_refl v)
test_is false v w h = isnt_true (same_value v w) (λ e. cc (h.1 (same_to v w e)))
