-- Functions that look for nodes of a small graph tell its truth.
use Rattle.std.proofs.Common.{◌≡◌, ◌≢◌, ℕ, zero, suc, Bool, true, false, cond, nat_eq, List, [], ◌∷◌, Option, Some, None, refl, subst, ⊎_elim, arith}
use Rattle.std.proofs.lemmas.Bool.{eqb-true}
use Rattle.mc_program.specs.Programs.{TypeTerm, int_type}
use Rattle.mc_program.specs.declared.builtin.Builtin.{Builtin}
use Rattle.mc_model.specs.Insts.{dead, AllowsConstants}
use Rattle.mc_accepted.specs.Inclusion.{Included, Merged}
use Rattle.mc_accepted.specs.Accepted.{entered}
use Rattle.mc_accepted.specs.Fits.{type_of}
use Rattle.mc_accepted.specs.Tidy.{Tidy, EachIsTidy}
use Rattle.mc_accepted.specs.code.Truthful.{Truthful, IsNarrowed}
use Rattle.laws_order.specs.OrderLaws.{Below}
use Rattle.laws_order.specs.Tidying.{EndsTidily, TidyPoint}
use Rattle.laws_order.specs.code.Examples as example
use Rattle.laws_order.specs.code.ExamplesOfNodes.{few, joined, fits, chosen, copies, system, PremisesAreMet}
use Rattle.laws_order.specs.code.ExamplesOfNodes as N
use Rattle.laws_order.proofs.DeclaredModes.{modes-are-declared}
use Rattle.laws_order.proofs.MarkedGoals.{Each, merged-one}
use Rattle.laws_order.proofs.Arranging.{and-first, and-second}
use Rattle.laws_order.proofs.TidyInsts.{free-tidy, ground-tidy}
use Rattle.laws_order.proofs.Tidying.{entry-tidy}

is-dead : (i : ℕ) → N.is_dead i ≡ true → few i ≡ dead
is-dead zero e = cc
is-dead (suc zero) e = cc
is-dead (suc (suc i)) e = refl

is-alive : (i : ℕ) → N.is_dead i ≡ false → few i ≢ dead
is-alive zero e = λ q. cc
is-alive (suc zero) e = λ q. cc
is-alive (suc (suc i)) e = cc

included : (i j : ℕ) (t : TypeTerm) → fits i j ≡ true → Included N.source few i j t
included zero zero t e = tt
included zero (suc zero) t e = cc
included zero (suc (suc j)) t e = cc
included (suc zero) zero t e = cc
included (suc zero) (suc zero) t e = λ path tip a. a
included (suc zero) (suc (suc j)) t e = tt
included (suc (suc i)) zero t e = cc
included (suc (suc i)) (suc zero) t e = cc
included (suc (suc i)) (suc (suc j)) t e = tt

excluded : (i j : ℕ) (t : TypeTerm) → fits i j ≡ false → Included N.source few i j t → ⊥
excluded zero zero t e h = cc
excluded zero (suc zero) t e h = h
excluded zero (suc (suc j)) t e h = h
excluded (suc zero) zero t e h = h
excluded (suc zero) (suc zero) t e h = cc
excluded (suc zero) (suc (suc j)) t e h = cc
excluded (suc (suc i)) zero t e h = h
excluded (suc (suc i)) (suc zero) t e h = h
excluded (suc (suc i)) (suc (suc j)) t e h = cc

is-narrowed : (i s : ℕ) → IsNarrowed system (type_of system copies) i s (N.narrowed i s)
is-narrowed zero s = λ h. h
is-narrowed (suc zero) s = refl
is-narrowed (suc (suc i)) s = refl

takes : (i : ℕ) → N.takes_constants i ≡ true → AllowsConstants (few i)
takes zero e = cc
takes (suc zero) e = tt
takes (suc (suc i)) e = tt

takes-not : (i : ℕ) → N.takes_constants i ≡ false → AllowsConstants (few i) → ⊥
takes-not zero e h = h
takes-not (suc zero) e h = cc
takes-not (suc (suc i)) e h = cc

each-one : (i : ℕ) (js : List ℕ) → N.each_is i js ≡ true → Each system (type_of system copies) i js
each-one i [] e = tt
each-one i (j ∷ js) e = (eqb-true j i (and-first (nat_eq j i) _ e), each-one i js (and-second (nat_eq j i) _ e))

is-joined : (t : TypeTerm) (is : List ℕ) (k : ℕ) → EachIsTidy N.source few is t → joined is ≡ Some k → Merged N.source few is k t × Tidy N.source few k t
is-joined t [] k d e = cc
is-joined t (i ∷ is) k d e = at (N.each_is i is) refl e
  where
    at : (u : Bool) → N.each_is i is ≡ u → cond u (Some i) None ≡ Some k → Merged N.source few (i ∷ is) k t × Tidy N.source few k t
    at true q h = (let r : i ≡ k = cc in (subst (λ l. Merged N.source few (i ∷ is) l t) r (merged-one system (type_of system copies) i i is t (refl, each-one i is q)), subst (λ l. Tidy N.source few l t) r d.0))
    at false q h = cc

truthful : Truthful system (type_of system copies) chosen
truthful =
    record {
      dies = is-dead;
      lives = is-alive;
      over = λ s i is e. (let q : ◌≡◌ {A = Option ℕ} None (Some i) = e in cc);
      joined = λ t is k all a ne d e. is-joined t is k d e;
      narrowed = is-narrowed;
      constants = takes;
      no_constants = takes-not;
      fits = included;
      fits_not = excluded;
    }

two-below : Below 2 copies.head
two-below x i = ⊎_elim (λ e. omega (arith, e)) (λ j. ⊎_elim (λ e. omega (arith, e)) (λ k. absurd k) j) i

ends-tidily : EndsTidily system
ends-tidily =
    record {
      is_free = refl;
      is_ground = refl;
      names = λ u s r i j e a. (let q : s ∷ [] ≡ r ∷ [] = e in cc);
      builtins = (record { list = 0; result = 1 }, λ p op e. (let q : ◌≡◌ {A = Option Builtin} None (Some op) = e in cc));
      procedures = λ k lt. (ground-tidy N.source few refl int_type, (ground-tidy N.source few refl int_type, tt));
    }

enters-tidily : TidyPoint system (type_of system copies) (entered copies.head copies.first)
enters-tidily = entry-tidy system (type_of system copies) refl copies.head copies.first (int_type ∷ int_type ∷ []) refl (ground-tidy N.source few refl int_type, (free-tidy N.source few refl int_type, tt))

pub premises-are-met : PremisesAreMet
premises-are-met = (truthful, (λ p. (modes-are-declared system (type_of system copies) p).0), refl, refl, ends-tidily, two-below, tt, refl, enters-tidily, refl)
