-- Which small programs have regular types.
use Rattle.std.proofs.Common.{◌≡◌, inl, inr, ℕ, zero, suc, ◌+◌, ◌≤◌, true, false, List, [], ◌∷◌, refl, ap, arith}
use Rattle.std.specs.Prelude.{Contains}
use Rattle.mc_program.specs.Programs.{TypeTerm, int_type, union_type, TypeTerms, no_types, type_then}
use Rattle.laws_order.proofs.Telling.{Held, contained}
use Rattle.mc_type_table.specs.Rules.{is_one_irregular}
use Rattle.laws_modes.specs.Regular.{body, is_of_group}
use Rattle.laws_modes.specs.code.Examples.{first, second, trees, TreesAreRegular, turns, TurnsAreRegular, NestsAreIrregular, NestsMeetMany}
use Rattle.laws_modes.proofs.MetTypes.{held_contained}

pub trees_are_regular : TreesAreRegular
trees_are_regular = record { end = at_end; regular = at }
  where
    at_end : (u : ℕ) → 2 ≤ u → trees.symbols_of u ≡ []
    at_end zero l = absurd (omega (arith, l))
    at_end (suc zero) l = absurd (omega (arith, l))
    at_end (suc (suc u)) l = refl

    at : (u : ℕ) → is_one_irregular (λ k. is_of_group trees 2 k u) (body trees u) ≡ false
    at zero = refl
    at (suc zero) = refl
    at (suc (suc u)) = refl

pub turns_are_regular : TurnsAreRegular
turns_are_regular = record { end = at_end; regular = at }
  where
    at_end : (u : ℕ) → 3 ≤ u → turns.symbols_of u ≡ []
    at_end zero l = absurd (omega (arith, l))
    at_end (suc zero) l = absurd (omega (arith, l))
    at_end (suc (suc zero)) l = absurd (omega (arith, l))
    at_end (suc (suc (suc u))) l = refl

    at : (u : ℕ) → is_one_irregular (λ k. is_of_group turns 3 k u) (body turns u) ≡ false
    at zero = refl
    at (suc zero) = refl
    at (suc (suc zero)) = refl
    at (suc (suc (suc u))) = refl

pub nests_are_irregular : NestsAreIrregular
nests_are_irregular are = let clash : true ≡ false = are.regular 0 in cc

-- how deep types are nested
abbrev mutual
  depth : TypeTerm → ℕ
  depth (union_type u ts) = suc (depths ts)
  depth t = 0

  depths : TypeTerms → ℕ
  depths no_types = 0
  depths (type_then t ts) = depth t + depths ts

abbrev all_depths : List TypeTerm → ℕ
all_depths [] = 0
all_depths (t ∷ ts) = depth t + all_depths ts

below_all : (ts : List TypeTerm) (t : TypeTerm) → Held ts t → depth t ≤ all_depths ts
below_all [] t h = absurd h
below_all (x ∷ ts) t (inl e) = let same : depth t ≡ depth x = ap depth e in omega (arith, same)
below_all (x ∷ ts) t (inr h) = let rest = below_all ts t h in omega (arith, rest)

abbrev boxed : ℕ → TypeTerm
boxed zero = int_type
boxed (suc k) = second (boxed k)

as_deep : (k : ℕ) → depth (boxed k) ≡ k
as_deep zero = refl
as_deep (suc k) = let inner = as_deep k in omega (arith, inner)

pub nests_meet_many : NestsMeetMany
nests_meet_many met =
    let k = all_depths met.types in
    let deep = as_deep k in
    let within =
    below_all met.types (first (boxed k)) (contained met.types (first (boxed k)) (each k))
    in
    omega (arith, deep, within)
  where
    each : (k : ℕ) → Contains met.types (first (boxed k))
    each zero = met.itself
    each (suc k) =
        met.closed (first (boxed k)) (first (boxed (suc k))) 0 (first (boxed (suc k)) ∷ [])
        (each k) refl
        (held_contained (first (boxed (suc k)) ∷ []) (first (boxed (suc k))) (inl refl))
