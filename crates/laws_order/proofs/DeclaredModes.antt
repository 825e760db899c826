-- The declared modes of a predicate are those of its procedures.
use Rattle.std.proofs.Common.{◌≡◌, ◌⊎◌, inl, inr, ⊎_elim, ℕ, zero, suc, ◌+◌, ◌<◌, ◌≤◌, Bool, true, false, cond, nat_eq, List, ◌∷◌, map, filter, refl, sym, ap, ◌∙◌, subst, arith}
use Rattle.std.proofs.lemmas.Bool.{eqb-true, eq-eqb}
use Rattle.mc_program.specs.Programs.{TypeTerm}
use Rattle.mc_model.specs.Lists.{In, from}
use Rattle.mc_model.specs.Good.{System}
use Rattle.mc_accepted.specs.Arranged.{Declared}
use Rattle.mc_accepted.specs.InOrder.{mode_declared}
use Rattle.mc_accepted.specs.code.Truthful.{AllDeclared}
use Rattle.laws_order.specs.OrderLaws.{Rising, ModesAreDeclared}

module _ (S : System) (T : ℕ → TypeTerm) (p : ℕ) where
  abbrev is-of : ℕ → Bool
  is-of k = nat_eq (S.procs k).pred p

  abbrev modes : List ℕ → List Declared
  modes ks = map (mode_declared S) ks

  abbrev procs : List ℕ → List ℕ
  procs ks = map (λ (d : Declared). d.proc) (modes ks)

  abbrev kept : (n k : ℕ) → List ℕ
  kept n k = filter is-of (from n k)

  all : (n k : ℕ) → n + k ≤ S.count → AllDeclared S T p (modes (kept n k))
  all n zero h = tt
  all n (suc k) h = at (is-of n) refl (all (suc n) k (omega (arith, h)))
    where
      at : (u : Bool) → is-of n ≡ u → AllDeclared S T p (modes (kept (suc n) k)) → AllDeclared S T p (modes (cond u (n ∷ kept (suc n) k) (kept (suc n) k)))
      at true e rest = (record { known = omega (arith, h); pred = eqb-true (S.procs n).pred p e; modes = refl; never = refl }, rest)
      at false e rest = rest

  -- whether a procedure is one of so many, and of the predicate
  abbrev OneOf : (n k q : ℕ) → Type 0
  OneOf n k q = (n ≤ q) × (q < n + k) × ((S.procs q).pred ≡ p)

  told : (n k q : ℕ) → In q (procs (kept n k)) → OneOf n k q
  told n zero q i = absurd i
  told n (suc k) q i = at (is-of n) refl (λ i. later (told (suc n) k q i)) i
    where
      later : OneOf (suc n) k q → OneOf n (suc k) q
      later h = (omega (arith, h.0), omega (arith, h.1), h.2)

      at : (u : Bool) → is-of n ≡ u → (In q (procs (kept (suc n) k)) → OneOf n (suc k) q) → In q (procs (cond u (n ∷ kept (suc n) k) (kept (suc n) k))) → OneOf n (suc k) q
      at true e rest i = ⊎_elim (λ (h : q ≡ n). (omega (arith, h), omega (arith, h), subst (λ m. (S.procs m).pred ≡ p) (sym h) (eqb-true (S.procs n).pred p e))) rest i
      at false e rest i = rest i

  rises : (n k : ℕ) → Rising (procs (kept n k))
  rises n zero = tt
  rises n (suc k) = at (is-of n) (rises (suc n) k)
    where
      at : (u : Bool) → Rising (procs (kept (suc n) k)) → Rising (procs (cond u (n ∷ kept (suc n) k) (kept (suc n) k)))
      at true rest = ((λ q i. (let h = told (suc n) k q i in omega (arith, h.0))), rest)
      at false rest = rest

  begins : (n q : ℕ) → n ≤ q → (q ≡ n) ⊎ (suc n ≤ q)
  begins zero zero l = inl refl
  begins zero (suc q) l = inr (omega arith)
  begins (suc n) zero l = absurd (omega (arith, l))
  begins (suc n) (suc q) l = ⊎_elim (λ (e : q ≡ n). inl (ap suc e)) (λ (h : suc n ≤ q). inr (omega (arith, h))) (begins n q (omega (arith, l)))

  there : (n k q : ℕ) → OneOf n k q → In q (procs (kept n k))
  there n zero q h = absurd (omega (arith, h.0, h.1))
  there n (suc k) q h = at (is-of n) refl (begins n q h.0) (λ l. there (suc n) k q (l, omega (arith, h.1), h.2))
    where
      at : (u : Bool) → is-of n ≡ u → (q ≡ n) ⊎ (suc n ≤ q) → (suc n ≤ q → In q (procs (kept (suc n) k))) → In q (procs (cond u (n ∷ kept (suc n) k) (kept (suc n) k)))
      at true e (inl i) later = inl i
      at true e (inr l) later = inr (later l)
      at false e (inl i) later = absurd (let t : is-of n ≡ true = eq-eqb (S.procs n).pred p (subst (λ m. (S.procs m).pred ≡ p) i h.2) in (let f : true ≡ false = sym t ∙ e in cc))
      at false e (inr l) later = later l

pub modes-are-declared : ModesAreDeclared
modes-are-declared S T p = (
  all S T p 0 S.count (omega arith),
  rises S T p 0 S.count,
  (λ k. ((λ i. (let h = told S T p 0 S.count k i in (omega (arith, h.1), h.2))), (λ h. there S T p 0 S.count k (omega arith, omega (arith, h.0), h.1)))),
)
