-- Which predicates a goal calls. (Mercury Language Reference Manual: Goals.)
use Rattle.std.specs.Prelude.{ℕ}
use Rattle.mc_model.specs.Flat as F
use Rattle.mc_model.specs.Flat.{Flat_goal, Flat_goals, no_flat, flat_then}

-- each predicate that the goal calls, at any depth, is such a one
abbrev mutual
  pub CallsOnly : (ℕ → Type 0) → Flat_goal → Type 0
  CallsOnly A (F.Same x y) = Unit {0}
  CallsOnly A (F.Made x s ys) = Unit {0}
  CallsOnly A (F.Is x v) = Unit {0}
  CallsOnly A (F.Call p xs) = A p
  CallsOnly A (F.And gs) = AllCallOnly A gs
  CallsOnly A (F.Or gs) = AllCallOnly A gs
  CallsOnly A (F.If vs c t e) = CallsOnly A c × CallsOnly A t × CallsOnly A e
  CallsOnly A (F.Not g) = CallsOnly A g
  CallsOnly A (F.Exists vs g) = CallsOnly A g

  pub AllCallOnly : (ℕ → Type 0) → Flat_goals → Type 0
  AllCallOnly A no_flat = Unit {0}
  AllCallOnly A (flat_then g gs) = CallsOnly A g × AllCallOnly A gs
