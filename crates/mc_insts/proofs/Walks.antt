-- What a walk keeps.
use Rattle.std.proofs.Common.{ℕ, ◌+◌, ◌<◌, List, length, subst, arith}
use Rattle.mc_insts.specs.declared.triples.Triple.{Triple}
use Rattle.mc_insts.specs.code.Lists.{Stands, Extends}
use Rattle.mc_insts.specs.code.Walks.{Scene, Below, Visited, Within, Fresh, IsChild, Proper}
use Rattle.mc_insts.proofs.Found.{by_order}
use Rattle.mc_insts.proofs.Growth.{stands_before, stands_one}
use Rattle.mc_insts.proofs.Scenes.{child_within}
use Rattle.mc_insts.proofs.Steps.{passed_on, child_below}

module _ (C : Scene) where
  -- what holds of what stood, and of each argument of t, holds of all that stands
  pub each_more : (P : Triple → Type 0) (t : Triple) (xs ys : List Triple) → Extends xs ys → ((m : ℕ) (u : Triple) → Stands xs m u → P u) → ((u : Triple) → IsChild C t u → P u) → Fresh C t xs ys → (m : ℕ) (u : Triple) → Stands ys m u → P u
  each_more P t xs ys e before new fresh m u s =
      by_order m (length xs) (λ x. before m u (stands_before xs ys m u e x s)) (λ x. new u (fresh m u (omega arith) s)) (λ x. new u (fresh m u (omega arith) s))

  pub within_more : Proper C → (t : Triple) (n : ℕ) (xs ys : List Triple) → Extends xs ys → Stands xs n t → ((m : ℕ) (u : Triple) → Stands xs m u → Within C u) → Fresh C t xs ys → (m : ℕ) (u : Triple) → Stands ys m u → Within C u
  within_more p t n xs ys e s before fresh = each_more (Within C) t xs ys e before (λ u h. child_within C p t u (before n t s) h) fresh

  pub sound_more : (root t : Triple) (n : ℕ) (xs ys : List Triple) → Extends xs ys → Stands xs n t → ((m : ℕ) (u : Triple) → Stands xs m u → Below C root → Below C u) → Fresh C t xs ys → (m : ℕ) (u : Triple) → Stands ys m u → Below C root → Below C u
  sound_more root t n xs ys e s before fresh m u h b = each_more (Below C) t xs ys e (λ i v r. before i v r b) (λ v r. child_below C t v r (before n t s b)) fresh m u h

  pub visited_on : (t : Triple) (xs ys : List Triple) → Extends xs ys → Visited C xs t → Visited C ys t
  visited_on t xs ys e v = record { tips = v.tips; passed = λ f counts. passed_on C t f xs ys e (v.passed f counts) }

  pub done_more : (t : Triple) (n : ℕ) (xs ys : List Triple) → Extends xs ys → Stands xs n t → ((m : ℕ) (u : Triple) → m < n → Stands xs m u → Visited C xs u) → Visited C ys t → (m : ℕ) (u : Triple) → m < n + 1 → Stands ys m u → Visited C ys u
  done_more t n xs ys e s before here m u h r =
      let w = s.within in
      by_order m n
      (λ x. visited_on u xs ys e (before m u x (stands_before xs ys m u e (omega arith) r)))
      (λ x. let old : Stands xs n u = subst (λ k. Stands xs k u) x (stands_before xs ys m u e (omega arith) r) in subst (λ (v : Triple). Visited C ys v) (stands_one xs n t u s old) here)
      (λ x. absurd (omega arith))
