-- The order of determinisms, and the least that allows two.
use Rattle.std.proofs.Common.{ℕ, ◌+◌, ◌-◌, ◌≤◌, Bool, true, false, ◌||◌, IsTrue, refl, arith, if◌then◌else◌}
use Rattle.mc_source.specs.Determinism.{Determinism, inferred, row_of, rank, greater, Allows}
use Rattle.mc_source.specs.declared.det.Det.{Det}
use Rattle.mc_source.specs.declared.det.Most.{Most}
use Rattle.mc_source.specs.declared.det.Most.TheVariants.{Zero, One, Many}
use Rattle.mc_det_constraints.specs.Skeletons.{either}
use Rattle.mc_det_constraints.specs.code.Raising.{room}

pub allows_in_turn : (a b c : Determinism) → Allows b a → Allows c b → Allows c a
allows_in_turn a b c h k = ((λ t. k.0 (h.0 t)), omega (arith, h.1, k.1))

or_left : (t u : Bool) → IsTrue t → IsTrue (t || u)
or_left true u h = h
or_left false u h = cc

or_right : (t u : Bool) → IsTrue u → IsTrue (t || u)
or_right true u h = refl
or_right false u h = h

or_both : (t u : Bool) (P : Type 0) → (IsTrue t → P) → (IsTrue u → P) → IsTrue (t || u) → P
or_both true u P f g h = f refl
or_both false u P f g h = g h

most_left : (m k : Most) → rank m ≤ rank (greater m k)
most_left Zero k = omega arith
most_left One Zero = omega arith
most_left One One = omega arith
most_left One Many = omega arith
most_left Many k = omega arith

most_right : (m k : Most) → rank k ≤ rank (greater m k)
most_right Zero k = omega arith
most_right One Zero = omega arith
most_right One One = omega arith
most_right One Many = omega arith
most_right Many Zero = omega arith
most_right Many One = omega arith
most_right Many Many = omega arith

most_both : (m k : Most) (n : ℕ) → rank m ≤ n → rank k ≤ n → rank (greater m k) ≤ n
most_both Zero k n h l = l
most_both One Zero n h l = h
most_both One One n h l = h
most_both One Many n h l = l
most_both Many k n h l = h

pub either_left : (a b : Determinism) → Allows (either a b) a
either_left a b = ((λ t. or_left a.can_fail b.can_fail t), most_left a.most b.most)

pub either_right : (a b : Determinism) → Allows (either a b) b
either_right a b = ((λ t. or_right a.can_fail b.can_fail t), most_right a.most b.most)

pub either_least : (a b c : Determinism) → Allows c a → Allows c b → Allows c (either a b)
either_least a b c h k =
    ((λ t. or_both a.can_fail b.can_fail (IsTrue c.can_fail) h.0 k.0 t), most_both a.most b.most (rank c.most) h.1 k.1)

-- a determinism that doesn't allow another has less room when it is raised to allow it
abbrev space : Bool → Most → ℕ
space f m = 3 - ((if f then 1 else 0) + rank m)

most_grows : (m k : Most) → (rank k ≤ rank m → ⊥) → rank m + 1 ≤ rank (greater m k)
most_grows Zero Zero n = absurd (n (omega arith))
most_grows Zero One n = omega arith
most_grows Zero Many n = omega arith
most_grows One Zero n = absurd (n (omega arith))
most_grows One One n = absurd (n (omega arith))
most_grows One Many n = omega arith
most_grows Many Zero n = absurd (n (omega arith))
most_grows Many One n = absurd (n (omega arith))
most_grows Many Many n = absurd (n (omega arith))

at_most_two : (m : Most) → rank m ≤ 2
at_most_two Zero = omega arith
at_most_two One = omega arith
at_most_two Many = omega arith

space_falls : (f g : Bool) (m k : Most) → (((IsTrue g → IsTrue f) × (rank k ≤ rank m)) → ⊥) → space (f || g) (greater m k) + 1 ≤ space f m
space_falls true g m k n =
    let a = most_grows m k (λ l. n ((λ t. refl), l)) in
    let b = at_most_two (greater m k) in omega arith
space_falls false true m k n =
    let a = most_left m k in
    let b = at_most_two m in omega arith
space_falls false false m k n =
    let a = most_grows m k (λ l. n ((λ t. t), l)) in
    let b = at_most_two (greater m k) in omega arith

pub room_falls : (a : Det) (b : Determinism) → (Allows (row_of a) b → ⊥) → room (inferred (either (row_of a) b)) + 1 ≤ room a
room_falls a b n = space_falls a.can_fail b.can_fail (row_of a).most b.most n
