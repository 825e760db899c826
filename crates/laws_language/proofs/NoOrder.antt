-- Goals that have no order.
use Rattle.std.proofs.Common.{◌≡◌, ℕ, List, ◌∷◌, Bool, true, false, cond, not, nat_eq, ◌&&◌, refl, sym, ap, ap₂, ◌∙◌}
use Rattle.std.proofs.lemmas.Bool.{eq-eqb}
use Rattle.mc_program.specs.Values.{Val}
use Rattle.mc_model.specs.Flat as F
use Rattle.mc_model.specs.Stream.{is_bound}
use Rattle.mc_accepted.specs.Ordered.{Insts, also, assign, assign_back, test, build, take, take_never, put, test_constant, test_never, neg, kept}
use Rattle.laws_language.specs.code.ExamplesOfModes.{HasNoOrder, GoalsWithoutOrder}

both_free : (b : Insts) (x y : ℕ) → b x ≡ 0 → b y ≡ 0 → HasNoOrder b (F.Same x y)
both_free b x y e f S T O Q s o (assign bx by nd) = by f
both_free b x y e f S T O Q s o (assign_back bx by nd) = by e
both_free b x y e f S T O Q s o (test bx by t nd) = bx e

free_argument : (b : Insts) (x s y : ℕ) (ys : List ℕ) → b x ≡ 0 → b y ≡ 0 → HasNoOrder b (F.Made x s (y ∷ ys))
free_argument b x s y ys e f S T O Q g o (build bx bound ns nd is) = let t : false ≡ true = sym (ap is_bound f) ∙ bound.0 in cc
free_argument b x s y ys e f S T O Q g o (take bx nd a is) = bx e
free_argument b x s y ys e f S T O Q g o (take_never bx nd n) = bx e

-- what is bound that was free is bound by the goal
binds : (b : Insts) (x : ℕ) → b x ≡ 0 → not (is_bound (b x)) && is_bound (also x 1 b x) ≡ true
binds b x e = ap₂ (λ s t. not s && t) (ap is_bound e) (ap is_bound (at_it (nat_eq x x) (eq-eqb x x refl)))
  where
    at_it : (t : Bool) → t ≡ true → cond t 1 (b x) ≡ 1
    at_it true q = refl
    at_it false q = cc

chosen : (t : Bool) → t ≡ true → cond t true false ≡ false → ⊥
chosen true e f = cc
chosen false e f = cc

negation : (b : Insts) (x : ℕ) (v : Val) → b x ≡ 0 → HasNoOrder b (F.Not (F.Is x v))
negation b x v e S T O Q s o (neg (kept (put bx) keeps) none) = chosen (not (is_bound (b x)) && is_bound (also x 1 b x)) (binds b x e) none
negation b x v e S T O Q s o (neg (kept (test_constant bx nd a) keeps) none) = bx e
negation b x v e S T O Q s o (neg (kept (test_never bx nd a) keeps) none) = bx e

pub goals_without_order : GoalsWithoutOrder
goals_without_order = (both_free, free_argument, negation)
