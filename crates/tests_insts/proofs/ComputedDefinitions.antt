-- The computed examples of definitions.
use Rattle.std.proofs.Common.{◌≡◌, inl, inr, ℕ, zero, suc, ◌<◌, Option, Some, None, refl, arith, ⊎_elim}
use Rattle.mc_accepted.specs.InstRules.{definition_at, named_by, at_once, by_another, IsUnfounded, HasFreeInside, that_node, another_name as by_name}
use Rattle.mc_insts.specs.Defining.{there, made, another_name}
use Rattle.mc_insts.specs.Defining.{AreSound}
use Rattle.tests_insts.specs.Definitions.{Forward, ring, Ring, inside, Inside, Both}
use Rattle.mc_insts.proofs.Chained.{step_out, along, node_next, ring_lost, first_step}

pub forward_are : Forward
forward_are = (another_name refl (made refl refl), made refl refl, another_name refl (another_name refl there), made refl refl)

abbrev next : ℕ → Option ℕ
next k = named_by (definition_at ring k)

stays : (k j : ℕ) → next k ≡ Some j → k < 3 → j < 3
stays zero j e h = let x : 1 ≡ j = cc in omega arith
stays (suc zero) j e h = let x : 2 ≡ j = cc in omega arith
stays (suc (suc zero)) j e h = let x : 0 ≡ j = cc in omega arith
stays (suc (suc (suc k))) j e h = absurd (omega arith)

off_ring : IsUnfounded ring 3 → ⊥
off_ring h =
    ⊎_elim (λ (e : 1 ≡ 3). absurd (omega arith))
    (λ l. let x : 3 < 3 = along next (λ k. k < 3) stays 1 3 l (omega arith) in absurd (omega arith))
    (step_out next 3 3 1 refl h)

on_ring : IsUnfounded ring 1
on_ring = by_another refl (by_another refl (at_once refl))

pub ring_is : Ring
ring_is = (
  by_another refl (by_another refl (at_once refl)),
  on_ring,
  by_another refl (by_another refl (at_once refl)),
  off_ring,
  (λ i n. ring_lost ring 4 i 1 on_ring (node_next ring 4 i 3 1 refl n)),
)

-- names that end at a node
inside_founded : (k : ℕ) → k < 2 → IsUnfounded inside k → ⊥
inside_founded zero lt h = let s = first_step (λ j. named_by (definition_at inside j)) 0 0 h in let x : None ≡ Some s.0 = s.1 in cc
inside_founded (suc zero) lt h = ring_lost inside 4 0 1 h (another_name refl (another_name refl there))
inside_founded (suc (suc k)) lt h = absurd (omega arith)

inside_sound : AreSound inside 2
inside_sound zero lt = record { no_free = λ h. h; founded = inside_founded 0 (omega arith) }
inside_sound (suc zero) lt = record { no_free = λ h. h; founded = inside_founded 1 (omega arith) }
inside_sound (suc (suc k)) lt = absurd (omega arith)

by_alias : HasFreeInside inside 2
by_alias = inl (inr (inl (by_name refl (by_name refl that_node))))

pub inside_is : Inside
inside_is = (
  another_name refl (another_name refl there),
  (λ h. h),
  by_alias,
  inl (inl that_node),
  (omega arith, by_alias, inside_sound),
)

pub both_are : Both
both_are = (
  (omega arith, at_once refl, (λ h. h), (λ k lt. absurd (omega arith))),
  (omega arith, inl (inl that_node), (λ k lt. absurd (omega arith))),
)
