use Rattle.std.proofs.Common.{◌≡◌, inl, ℕ, zero, suc, [], ◌∷◌, Bool, true, false, nat_eq, not, ◌||◌, refl, arith}
use Rattle.std.proofs.lemmas.Bool.{eqb-true}
use Rattle.mc_program.specs.Programs.{TypeTerm}
use Rattle.mc_model.specs.Insts.{free, ground}
use Rattle.mc_model.specs.Stream.{is_bound}
use Rattle.mc_accepted.specs.Inclusion.{Merged, LeastAbove}
use Rattle.mc_accepted.specs.Ordered.{Insts, change_at}
use Rattle.laws_accepted.specs.code.Examples.{source, graph, ground_are}
use Rattle.laws_accepted.specs.code.ExamplesOfSwitches.{integers, colours}
use Rattle.laws_accepted.proofs.examples.switches.Goals as goal

least : (i : ℕ) (t : TypeTerm) → LeastAbove source graph (i ∷ i ∷ []) i t
least i t =
    record {
      above = ((λ path e a. a), ((λ path e a. a), tt));
      least = λ H p h m. m.0;
    }

-- two insts that are one are merged to that one
merges : (i : ℕ) (t : TypeTerm) → Merged source graph (i ∷ i ∷ []) i t
merges zero t = (refl, (refl, tt))
merges (suc zero) t = (((λ e. cc), ((λ e. cc), tt)), ((λ e. cc), ((λ e. cc), tt)), least 1 t)
merges (suc (suc zero)) t = (((λ e. cc), ((λ e. cc), tt)), ((λ e. cc), ((λ e. cc), tt)), least 2 t)
merges (suc (suc (suc zero))) t = (((λ e. cc), ((λ e. cc), tt)), inl refl)
merges (suc (suc (suc (suc zero)))) t = (((λ e. cc), ((λ e. cc), tt)), ((λ e. cc), ((λ e. cc), tt)), least 4 t)
merges (suc (suc (suc (suc (suc i))))) t = (((λ e. cc), ((λ e. cc), tt)), ((λ e. cc), ((λ e. cc), tt)), least (suc (suc (suc (suc (suc i))))) t)

abbrev before : Insts
before = ground_are (0 ∷ [])

abbrev after : Insts
after x = change_at x ((1, 1) ∷ []) (before x)

stays_free : (i j : ℕ) → (is_bound i || is_bound j) ≡ false → j ≡ 0
stays_free i j e = eqb-true j 0 (no_not (nat_eq j 0) (second (is_bound i) (is_bound j) e))
  where
    second : (t u : Bool) → (t || u) ≡ false → u ≡ false
    second true u e = cc
    second false u e = e

    no_not : (t : Bool) → not t ≡ false → t ≡ true
    no_not true e = refl
    no_not false e = cc

none_is_one : ◌≡◌ {A = ℕ} 0 1 → ⊥
none_is_one e = omega (arith, e)

ground_is_free : ground ≡ free → ⊥
ground_is_free e = cc

pub returns-clause-kept : goal.returns-clause-kept
returns-clause-kept c = (
  (((((omega arith), tt), (none_is_one, tt), (λ x e. merges (after x) (integers x)), (λ x i e g. g.0), (λ x e. stays_free (before x) (after x) e)), ((tt, (tt, tt)), ((tt, (tt, tt)), tt)), tt)),
  (λ m. ground_is_free (m.0.2 1 refl).0),
)

abbrev pair_before : Insts
pair_before = ground_are (0 ∷ 1 ∷ [])

abbrev pair_after : Insts
pair_after x = change_at x ((2, 1) ∷ []) (pair_before x)

pub returns-clause-nested : goal.returns-clause-nested
returns-clause-nested c = (
  (
    ((omega arith, tt), (none_is_one, tt), (λ x e. merges (pair_after x) (colours x)), (λ x i e g. g.0), (λ x e. stays_free (pair_before x) (pair_after x) e)),
    (
      ((omega arith, tt), (none_is_one, tt), (λ x e. merges (pair_after x) (colours x)), (λ x i e g. g.0), (λ x e. stays_free (pair_before x) (pair_after x) e)),
      ((tt, (tt, (tt, tt))), ((tt, (tt, (tt, tt))), tt)),
      tt,
    ),
    tt,
  ),
  (λ m. ground_is_free (m.1.0.2 2 refl).0),
)

pub returns-clause-facts : goal.returns-clause-facts
returns-clause-facts c = (refl, refl, refl, (λ e. cc))

pub returns-clause-lists : goal.returns-clause-lists
returns-clause-lists c = (refl, refl, refl, (λ e. cc))

pub returns-clause-looked_through : goal.returns-clause-looked_through
returns-clause-looked_through c = (refl, refl, refl, refl, refl, (λ e. cc))

pub returns-clause-several : goal.returns-clause-several
returns-clause-several c = (refl, refl, refl, (λ e. cc))

pub returns-clause-labels : goal.returns-clause-labels
returns-clause-labels c = (refl, refl, (λ e. cc))

pub returns-clause-clauses : goal.returns-clause-clauses
returns-clause-clauses c = (refl, refl, refl, refl, refl, (λ e. cc))
