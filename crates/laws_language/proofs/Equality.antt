-- The test of equality tells equality.
use Rattle.std.proofs.Common.{◌≡◌, true, nat_eq, refl, ap, ap₂, subst}
use Rattle.std.specs.Cmp.Lexicographic.{pointwise, bytes_decides}
use Rattle.std.proofs.lemmas.Bool.{eqb-true, eq-eqb, and_parts, and_from}
use Rattle.std.proofs.lemmas.Bool.Decides.{Decides-int_eq}
use Rattle.mc_program.specs.Values.{Val, int, char, str, con, state, Vals, no_vals, val_then, same_value, same_values}
use Rattle.laws_language.specs.Laws.{SameIsEqual}

mutual
  pub value_same : (v w : Val) → same_value v w ≡ true → v ≡ w
  value_same (int m) (int n) e = ap int ((Decides-int_eq m n).0 e)
  value_same (int m) (char d) e = cc
  value_same (int m) (str t) e = cc
  value_same (int m) (con g ws) e = cc
  value_same (int m) (state t k) e = cc
  value_same (char c) (int n) e = cc
  value_same (char c) (char d) e = ap char (eqb-true c d e)
  value_same (char c) (str t) e = cc
  value_same (char c) (con g ws) e = cc
  value_same (char c) (state t k) e = cc
  value_same (str s) (int n) e = cc
  value_same (str s) (char d) e = cc
  value_same (str s) (str t) e = ap str ((bytes_decides s t).0 e)
  value_same (str s) (con g ws) e = cc
  value_same (str s) (state t k) e = cc
  value_same (con f vs) (int n) e = cc
  value_same (con f vs) (char d) e = cc
  value_same (con f vs) (str t) e = cc
  value_same (con f vs) (con g ws) e = let h = and_parts (nat_eq f g) (same_values vs ws) e in ap₂ con (eqb-true f g h.0) (values_same vs ws h.1)
  value_same (con f vs) (state t k) e = cc
  value_same (state s m) (int n) e = cc
  value_same (state s m) (char d) e = cc
  value_same (state s m) (str t) e = cc
  value_same (state s m) (con g ws) e = cc
  value_same (state s m) (state t n) e = let h = and_parts (pointwise nat_eq s t) (nat_eq m n) e in ap₂ state ((bytes_decides s t).0 h.0) (eqb-true m n h.1)

  values_same : (v w : Vals) → same_values v w ≡ true → v ≡ w
  values_same no_vals no_vals e = refl
  values_same no_vals (val_then w ws) e = cc
  values_same (val_then v vs) no_vals e = cc
  values_same (val_then v vs) (val_then w ws) e = let h = and_parts (same_value v w) (same_values vs ws) e in ap₂ val_then (value_same v w h.0) (values_same vs ws h.1)

mutual
  same_self : (v : Val) → same_value v v ≡ true
  same_self (int m) = (Decides-int_eq m m).1 refl
  same_self (char c) = eq-eqb c c refl
  same_self (str s) = (bytes_decides s s).1 refl
  same_self (con f vs) = and_from (nat_eq f f) (same_values vs vs) (eq-eqb f f refl) (all_same_self vs)
  same_self (state s m) = and_from (pointwise nat_eq s s) (nat_eq m m) ((bytes_decides s s).1 refl) (eq-eqb m m refl)

  all_same_self : (vs : Vals) → same_values vs vs ≡ true
  all_same_self no_vals = refl
  all_same_self (val_then v vs) = and_from (same_value v v) (same_values vs vs) (same_self v) (all_same_self vs)

pub same_of : (v w : Val) → v ≡ w → same_value v w ≡ true
same_of v w e = subst (λ u. same_value v u ≡ true) e (same_self v)

pub same_is_equal : SameIsEqual
same_is_equal v w = (value_same v w, same_of v w)
