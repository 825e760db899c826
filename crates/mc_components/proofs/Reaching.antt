-- What is reached is what there is a way to.
use Rattle.std.proofs.Common.{◌≡◌, ℕ, zero, suc, ◌<◌, Bool, true, false, ◌&&◌, ◌||◌, List, ◌⊎◌, inl, inr, refl, sym, ap, ◌∙◌, arith}
use Rattle.std.proofs.lemmas.Bool.{or_cases, cases_lt}
use Rattle.mc_base.proofs.Booleans.{left_true, right_true, both_true}
use Rattle.mc_model.specs.Lists.{is_in}
use Rattle.mc_components.specs.Reached.{reaches, Way, step, over, ReachedByWays}

or_left : (x y : Bool) → x ≡ true → (x || y) ≡ true
or_left true y h = refl
or_left false y h = cc

or_right : (x y : Bool) → y ≡ true → (x || y) ≡ true
or_right true y h = refl
or_right false y h = h

more :
    (next : ℕ → List ℕ) (b k j : ℕ)
    → reaches next b k j ≡ true → reaches next (suc b) k j ≡ true
more next b k j r =
    or_left (reaches next b k j) (reaches next b k b && reaches next b b j) r

over_last :
    (next : ℕ → List ℕ) (b k j : ℕ)
    → reaches next b k b ≡ true → reaches next b b j ≡ true → reaches next (suc b) k j ≡ true
over_last next b k j p q =
    or_right (reaches next b k j) (reaches next b k b && reaches next b b j)
    (both_true (reaches next b k b) (reaches next b b j) p q)

-- what reaches with one bound more does so with the bound, or over the last
split :
    (next : ℕ → List ℕ) (b k j : ℕ)
    → reaches next (suc b) k j ≡ true
    → (reaches next b k j ≡ true)
    ⊎ ((reaches next b k b ≡ true) × (reaches next b b j ≡ true))
split next b k j r =
    elim (or_cases (reaches next b k j) (reaches next b k b && reaches next b b j) r) [
      | inl h ↦ inl h
      | inr h ↦
          inr (
            left_true (reaches next b k b) (reaches next b b j) h,
            right_true (reaches next b k b) (reaches next b b j) h,
          )
    ]

to_last :
    (next : ℕ → List ℕ) (b k : ℕ)
    → reaches next (suc b) k b ≡ true → reaches next b k b ≡ true
to_last next b k r = elim (split next b k b r) [ inl h ↦ h | inr h ↦ h.0 ]

from_last :
    (next : ℕ → List ℕ) (b j : ℕ)
    → reaches next (suc b) b j ≡ true → reaches next b b j ≡ true
from_last next b j r = elim (split next b b j r) [ inl h ↦ h | inr h ↦ h.1 ]

at_last :
    (next : ℕ → List ℕ) (b k i j : ℕ)
    → i ≡ b
    → reaches next (suc b) k i ≡ true → reaches next (suc b) i j ≡ true
    → reaches next (suc b) k j ≡ true
at_last next b k i j same p q =
    over_last next b k j
    (to_last next b k (ap (reaches next (suc b) k) (sym same) ∙ p))
    (from_last next b j (ap (λ x. reaches next (suc b) x j) (sym same) ∙ q))

below_last :
    (next : ℕ → List ℕ) (b k i j : ℕ)
    → ((x y : ℕ) → reaches next b x i ≡ true → reaches next b i y ≡ true → reaches next b x y ≡ true)
    → reaches next (suc b) k i ≡ true → reaches next (suc b) i j ≡ true
    → reaches next (suc b) k j ≡ true
below_last next b k i j before p q =
    elim (split next b k i p) [
      | inl p ↦
          elim (split next b i j q) [
            | inl q ↦ more next b k j (before k j p q)
            | inr q ↦ over_last next b k j (before k b p q.0) q.1
          ]
      | inr p ↦
          elim (split next b i j q) [
            | inl q ↦ over_last next b k j p.0 (before b j p.1 q)
            | inr q ↦ over_last next b k j p.0 q.1
          ]
    ]

pub through :
    (next : ℕ → List ℕ) (b k i j : ℕ)
    → i < b
    → reaches next b k i ≡ true → reaches next b i j ≡ true → reaches next b k j ≡ true
through next zero k i j below p q = absurd (omega arith)
through next (suc b) k i j below p q =
    elim (cases_lt i b) [
      | inl less ↦ below_last next b k i j (λ x y. through next b x i y less) p q
      | inr past ↦ at_last next b k i j (omega arith) p q
    ]

stepped :
    (next : ℕ → List ℕ) (b k j : ℕ) → is_in j (next k) ≡ true → reaches next b k j ≡ true
stepped next zero k j e = e
stepped next (suc b) k j e = more next b k j (stepped next b k j e)

reached :
    (next : ℕ → List ℕ) (b k j : ℕ) → Way next b k j → reaches next b k j ≡ true
reached next b k j (step e) = stepped next b k j e
reached next b k j (over {i = i} less w v) =
    through next b k i j less (reached next b k i w) (reached next b i j v)

widen : (next : ℕ → List ℕ) (b k j : ℕ) → Way next b k j → Way next (suc b) k j
widen next b k j (step e) = step e
widen next b k j (over {i = i} less w v) =
    let wider : i < suc b = omega arith in
    over wider (widen next b k i w) (widen next b i j v)

way :
    (next : ℕ → List ℕ) (b k j : ℕ) → reaches next b k j ≡ true → Way next b k j
way next zero k j r = step r
way next (suc b) k j r =
    let last : b < suc b = omega arith in
    elim (split next b k j r) [
      | inl h ↦ widen next b k j (way next b k j h)
      | inr h ↦ over last (widen next b k b (way next b k b h.0)) (widen next b b j (way next b b j h.1))
    ]

pub reached_by_ways : ReachedByWays
reached_by_ways next b k j = (way next b k j, reached next b k j)
