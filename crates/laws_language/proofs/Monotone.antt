-- The tables of determinism are monotone, by all their rows; and the order of determinisms.
use Rattle.std.proofs.Common.{◌≡◌, ◌≤◌, Bool, true, false, not, ◌&&◌, ◌||◌, nat_le, refl, sym, ap₂, arith}
use Rattle.std.proofs.lemmas.Bool.{and_parts, and_from}
use Rattle.mc_source.specs.declared.det.Most.{Most}
use Rattle.mc_source.specs.declared.det.Most.TheVariants.{Zero, One, Many}
use Rattle.mc_source.specs.Determinism.{Determinism, erroneous, failure, det, semidet, multi, nondet, rank, Allows, conj, disj, ite, negated, pruned}
use Rattle.laws_language.specs.DeterminismLaws.{ConjIsMonotone, DisjIsMonotone, IteIsMonotone, NegatedIsMonotone, PrunedIsMonotone, AllowsItself, AllowsInTurn, AllowsOneWay}

abbrev implies : Bool → Bool → Bool
implies a b = not a || b

implied : (a b : Bool) → implies a b ≡ true → a ≡ true → b ≡ true
implied true b e h = e
implied false b e h = cc

implies_from : (a b : Bool) → (a ≡ true → b ≡ true) → implies a b ≡ true
implies_from true b f = f refl
implies_from false b f = refl

-- the test of allowing
abbrev allows : Determinism → Determinism → Bool
allows d i = implies i.can_fail d.can_fail && nat_le (rank i.most) (rank d.most)

rank_le : (m n : Most) → nat_le (rank m) (rank n) ≡ true → rank m ≤ rank n
rank_le Zero n e = omega arith
rank_le One Zero e = cc
rank_le One One e = omega arith
rank_le One Many e = omega arith
rank_le Many Zero e = cc
rank_le Many One e = cc
rank_le Many Many e = omega arith

le_rank : (m n : Most) → rank m ≤ rank n → nat_le (rank m) (rank n) ≡ true
le_rank Zero Zero h = refl
le_rank Zero One h = refl
le_rank Zero Many h = refl
le_rank One Zero h = absurd (omega arith)
le_rank One One h = refl
le_rank One Many h = refl
le_rank Many Zero h = absurd (omega arith)
le_rank Many One h = absurd (omega arith)
le_rank Many Many h = refl

pub to_allows : (d i : Determinism) → allows d i ≡ true → Allows d i
to_allows d i e =
    let h = and_parts (implies i.can_fail d.can_fail) (nat_le (rank i.most) (rank d.most)) e in
    (implied i.can_fail d.can_fail h.0, rank_le i.most d.most h.1)

pub from_allows : (d i : Determinism) → Allows d i → allows d i ≡ true
from_allows d i a = and_from (implies i.can_fail d.can_fail) (nat_le (rank i.most) (rank d.most)) (implies_from i.can_fail d.can_fail a.0) (le_rank i.most d.most a.1)

-- a test of all six determinisms
abbrev every : (Determinism → Bool) → Bool
every p = p erroneous && (p failure && (p det && (p semidet && (p multi && p nondet))))

every_at_parts : (p : Determinism → Bool) → every p ≡ true → (f : Bool) (m : Most) → p (record { can_fail = f; most = m }) ≡ true
every_at_parts p e f m =
    let q = and_parts (p erroneous) (p failure && (p det && (p semidet && (p multi && p nondet)))) e in
    let r = and_parts (p failure) (p det && (p semidet && (p multi && p nondet))) q.1 in
    let s = and_parts (p det) (p semidet && (p multi && p nondet)) r.1 in
    let t = and_parts (p semidet) (p multi && p nondet) s.1 in
    let u = and_parts (p multi) (p nondet) t.1 in
    one_of f m q.0 r.0 s.0 t.0 u.0 u.1
  where
    one_of : (f : Bool) (m : Most) → p erroneous ≡ true → p failure ≡ true → p det ≡ true → p semidet ≡ true → p multi ≡ true → p nondet ≡ true → p (record { can_fail = f; most = m }) ≡ true
    one_of false Zero a b c d g h = a
    one_of true Zero a b c d g h = b
    one_of false One a b c d g h = c
    one_of true One a b c d g h = d
    one_of false Many a b c d g h = g
    one_of true Many a b c d g h = h

every_at : (p : Determinism → Bool) → every p ≡ true → (d : Determinism) → p d ≡ true
every_at p e d = every_at_parts p e d.can_fail d.most

-- an operation that is monotone at all determinisms is monotone
monotone : (f : Determinism → Determinism) → every (λ a. every (λ b. implies (allows b a) (allows (f b) (f a)))) ≡ true → (a b : Determinism) → Allows b a → Allows (f b) (f a)
monotone f e a b h =
    to_allows (f b) (f a)
    (implied (allows b a) (allows (f b) (f a))
    (every_at (λ b. implies (allows b a) (allows (f b) (f a))) (every_at (λ a. every (λ b. implies (allows b a) (allows (f b) (f a)))) e a) b)
    (from_allows b a h))

-- the same of one with a further part
monotone_at : (f : Determinism → Determinism → Determinism) → every (λ c. every (λ a. every (λ b. implies (allows b a) (allows (f c b) (f c a))))) ≡ true → (c a b : Determinism) → Allows b a → Allows (f c b) (f c a)
monotone_at f e c = monotone (f c) (every_at (λ c. every (λ a. every (λ b. implies (allows b a) (allows (f c b) (f c a))))) e c)

monotone_at_two : (f : Determinism → Determinism → Determinism → Determinism) → every (λ d. every (λ c. every (λ a. every (λ b. implies (allows b a) (allows (f d c b) (f d c a)))))) ≡ true → (d c a b : Determinism) → Allows b a → Allows (f d c b) (f d c a)
monotone_at_two f e d = monotone_at (f d) (every_at (λ d. every (λ c. every (λ a. every (λ b. implies (allows b a) (allows (f d c b) (f d c a)))))) e d)

pub allows_itself : AllowsItself
allows_itself a = ((λ h. h), omega arith)

pub allows_in_turn : AllowsInTurn
allows_in_turn a b c h k = ((λ f. k.0 (h.0 f)), omega (arith, h.1, k.1))

pub allows_one_way : AllowsOneWay
allows_one_way a b h k = ap₂ (λ (f : Bool) (m : Most). let d : Determinism = record { can_fail = f; most = m } in d) (same_bool a.can_fail b.can_fail h.0 k.0) (same_most a.most b.most (omega (arith, h.1, k.1)))
  where
    same_bool : (p q : Bool) → (p ≡ true → q ≡ true) → (q ≡ true → p ≡ true) → p ≡ q
    same_bool true q f g = sym (f refl)
    same_bool false true f g = g refl
    same_bool false false f g = refl

    same_most : (m n : Most) → rank m ≡ rank n → m ≡ n
    same_most Zero Zero e = refl
    same_most Zero One e = absurd (omega arith)
    same_most Zero Many e = absurd (omega arith)
    same_most One Zero e = absurd (omega arith)
    same_most One One e = refl
    same_most One Many e = absurd (omega arith)
    same_most Many Zero e = absurd (omega arith)
    same_most Many One e = absurd (omega arith)
    same_most Many Many e = refl

pub conj_is_monotone : ConjIsMonotone
conj_is_monotone a b c d h k =
    allows_in_turn (conj a b) (conj c b) (conj c d)
    (monotone_at (λ y x. conj x y) refl b a c h)
    (monotone_at conj refl c b d k)

pub disj_is_monotone : DisjIsMonotone
disj_is_monotone a b c d h k =
    allows_in_turn (disj a b) (disj c b) (disj c d)
    (monotone_at (λ y x. disj x y) refl b a c h)
    (monotone_at disj refl c b d k)

pub ite_is_monotone : IteIsMonotone
ite_is_monotone a b c d e f h k l =
    allows_in_turn (ite a b c) (ite d b c) (ite d e f)
    (monotone_at_two (λ y z x. ite x y z) refl b c a d h)
    (allows_in_turn (ite d b c) (ite d e c) (ite d e f)
    (monotone_at_two (λ x z y. ite x y z) refl d c b e k)
    (monotone_at_two ite refl d e c f l))

pub negated_is_monotone : NegatedIsMonotone
negated_is_monotone a b h = monotone negated refl a b h

pub pruned_is_monotone : PrunedIsMonotone
pruned_is_monotone a b h = monotone pruned refl a b h
