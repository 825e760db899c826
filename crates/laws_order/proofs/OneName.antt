-- Scopes that are written out with one name for two quantifiers.
use Rattle.std.proofs.Common.{inl, ℕ, List, [], ◌∷◌, refl, ⊎_elim, arith}
use Rattle.mc_model.specs.Flat as F
use Rattle.mc_model.specs.Flat.{Flat_goal, Flat_goals, no_flat, flat_then}
use Rattle.mc_model.specs.Lists.{Apart}
use Rattle.mc_accepted.specs.Ordered.{Picks, here, there, conj, some, kept, dropped, next, implied_outputs}
use Rattle.laws_language.proofs.FlatGoals.{in_right}
use Rattle.laws_order.specs.code.ExamplesOfScopes.{two_scopes, HasNoOrder, ScopesAlone, ScopesApart}

none : {g : Flat_goal} {rest : Flat_goals} → Picks no_flat g rest → ⊥
none p = elim p [ ]

no_call : {p : ℕ} {xs : List ℕ} {rest : Flat_goals} (vs ws : List ℕ) (g h : Flat_goal) → Picks (flat_then (F.Exists vs g) (flat_then (F.Exists ws h) no_flat)) (F.Call p xs) rest → ⊥
no_call vs ws g h (there (there p)) = none p

no_order : HasNoOrder (two_scopes 0 0)
no_order S T O Q b n o (kept (conj (dropped here (kept (some a r) k))) c) = a 0 (inl refl) (in_right 0 O (0 ∷ []) (inl refl))
no_order S T O Q b n o (kept (conj (dropped (there here) (kept (some a r) k))) c) = a 0 (inl refl) (in_right 0 O (0 ∷ []) (inl refl))
no_order S T O Q b n o (kept (conj (dropped (there (there p)) r)) c) = none p
no_order S T O Q b n o (kept (conj (next here (kept (some a r) k) t)) c) = a 0 (inl refl) (in_right 0 O (0 ∷ []) (inl refl))
no_order S T O Q b n o (kept (conj (next (there here) (kept (some a r) k) t)) c) = a 0 (inl refl) (in_right 0 O (0 ∷ []) (inl refl))
no_order S T O Q b n o (kept (conj (next (there (there p)) r t)) c) = none p
no_order S T O Q b n o (kept (conj (implied_outputs tests p q m f d e a y u k af kc t)) c) = no_call (0 ∷ []) (0 ∷ []) (F.And no_flat) (F.And no_flat) p

pub scopes_alone : ScopesAlone
scopes_alone = (
  (((λ x i j. j), tt), (((λ x i j. j), tt), tt)),
  (λ a. a.0.0 0 (inl refl) (inl refl)),
  (λ a. a.0.0 0 (inl refl) (inl refl)),
  refl,
  no_order,
  ((λ x i j. j), ((λ x i. i), (((λ x i j. j), tt), (tt, tt)))),
  (λ a. a.1.0.0 0 (inl refl) (inl refl)),
  (λ a. a.1.0.0 0 (inl refl) (inl refl)),
)

zero_one : Apart (0 ∷ []) (1 ∷ [])
zero_one x i j = ⊎_elim (λ a. ⊎_elim (λ b. omega (arith, a, b)) (λ b. b) j) (λ a. a) i

one_zero : Apart (1 ∷ []) (0 ∷ [])
one_zero x i j = zero_one x j i

pub scopes_apart : ScopesApart
scopes_apart = (
  (((λ x i j. j), tt), (((λ x i j. j), tt), tt)),
  ((zero_one, tt), ((one_zero, tt), tt)),
  ((λ x i j. j), ((λ x i. i), (((λ x i j. j), tt), (tt, tt)))),
  ((λ x i j. j), ((one_zero, tt), (tt, tt))),
)
