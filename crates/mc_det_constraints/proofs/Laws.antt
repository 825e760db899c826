-- What a skeleton comes to grows with the determinisms of procedures, and depends on those that it
-- calls alone.
use Rattle.std.proofs.Common.{◌≡◌, ℕ, nat_eq, List, [], ◌∷◌, ◌++◌, Bool, true, false, ◌||◌, refl, sym, ap, ◌∙◌, arith, if◌then◌else◌}
use Rattle.std.proofs.lemmas.Bool.{eq-eqb}
use Rattle.mc_source.specs.Determinism.{Determinism, det, semidet, row_of, conj, Allows}
use Rattle.mc_source.specs.declared.det.Det.{Det}
use Rattle.laws_language.proofs.Monotone.{allows_itself, conj_is_monotone, disj_is_monotone, ite_is_monotone, negated_is_monotone, pruned_is_monotone}
use Rattle.mc_det_constraints.specs.declared.constraint.Step.{Step}
use Rattle.mc_det_constraints.specs.declared.constraint.Step.TheVariants as T
use Rattle.mc_det_constraints.specs.Skeletons.{top, below, either, after_step, after_steps, value, is_call_of, calls}
use Rattle.mc_det_constraints.proofs.Allowing.{either_left, either_right, either_least}

-- stacks of which each determinism of the first allows that of the second
abbrev AllAllow : List Determinism → List Determinism → Type 0
AllAllow [] [] = Unit {0}
AllAllow (a ∷ xs) (b ∷ ys) = Allows a b × AllAllow xs ys
AllAllow _ _ = ⊥

top_allows : (xs ys : List Determinism) → AllAllow xs ys → Allows (top xs) (top ys)
top_allows [] [] h = allows_itself det
top_allows [] (b ∷ ys) h = absurd h
top_allows (a ∷ xs) [] h = absurd h
top_allows (a ∷ xs) (b ∷ ys) h = h.0

below_allow : (xs ys : List Determinism) → AllAllow xs ys → AllAllow (below xs) (below ys)
below_allow [] [] h = tt
below_allow [] (b ∷ ys) h = absurd h
below_allow (a ∷ xs) [] h = absurd h
below_allow (a ∷ xs) (b ∷ ys) h = h.1

either_monotone : (a b c d : Determinism) → Allows c a → Allows d b → Allows (either c d) (either a b)
either_monotone a b c d h k =
    either_least a b (either c d)
    ((λ t. (either_left c d).0 (h.0 t)), omega (arith, h.1, (either_left c d).1))
    ((λ t. (either_right c d).0 (k.0 t)), omega (arith, k.1, (either_right c d).1))

tested_monotone : (t : Bool) (a b : Determinism) → Allows b a → Allows (if t then conj b semidet else b) (if t then conj a semidet else a)
tested_monotone true a b h = conj_is_monotone a semidet b semidet h (allows_itself semidet)
tested_monotone false a b h = h

module _ (ds es : ℕ → Det) (h : (k : ℕ) → Allows (row_of (es k)) (row_of (ds k))) where
  step_monotone : (s : Step) (xs ys : List Determinism) → AllAllow xs ys → AllAllow (after_step es s xs) (after_step ds s ys)
  step_monotone (T.Fixed d) xs ys a = (allows_itself (row_of d), a)
  step_monotone (T.Call k t) xs ys a = (tested_monotone t (row_of (ds k)) (row_of (es k)) (h k), a)
  step_monotone T.Conj xs ys a =
      let b = below_allow xs ys a in
      (conj_is_monotone (top (below ys)) (top ys) (top (below xs)) (top xs) (top_allows (below xs) (below ys) b) (top_allows xs ys a), below_allow (below xs) (below ys) b)
  step_monotone T.Disj xs ys a =
      let b = below_allow xs ys a in
      (disj_is_monotone (top (below ys)) (top ys) (top (below xs)) (top xs) (top_allows (below xs) (below ys) b) (top_allows xs ys a), below_allow (below xs) (below ys) b)
  step_monotone T.Arms xs ys a =
      let b = below_allow xs ys a in
      (either_monotone (top (below ys)) (top ys) (top (below xs)) (top xs) (top_allows (below xs) (below ys) b) (top_allows xs ys a), below_allow (below xs) (below ys) b)
  step_monotone T.Misses xs ys a = (((λ t. refl), (top_allows xs ys a).1), below_allow xs ys a)
  step_monotone T.Ite xs ys a =
      let b = below_allow xs ys a in
      let c = below_allow (below xs) (below ys) b in (
        ite_is_monotone (top (below (below ys))) (top (below ys)) (top ys) (top (below (below xs))) (top (below xs)) (top xs)
            (top_allows (below (below xs)) (below (below ys)) c) (top_allows (below xs) (below ys) b) (top_allows xs ys a),
        below_allow (below (below xs)) (below (below ys)) c,
      )
  step_monotone T.Not xs ys a = (negated_is_monotone (top ys) (top xs) (top_allows xs ys a), below_allow xs ys a)
  step_monotone T.Pruned xs ys a = (pruned_is_monotone (top ys) (top xs) (top_allows xs ys a), below_allow xs ys a)

  steps_monotone : (steps : List Step) (xs ys : List Determinism) → AllAllow xs ys → AllAllow (after_steps es steps xs) (after_steps ds steps ys)
  steps_monotone [] xs ys a = a
  steps_monotone (s ∷ steps) xs ys a = steps_monotone steps (after_step es s xs) (after_step ds s ys) (step_monotone s xs ys a)

  pub monotone : (steps : List Step) → Allows (value es steps) (value ds steps)
  monotone steps = top_allows (after_steps es steps []) (after_steps ds steps []) (steps_monotone steps [] [] tt)

neither : (t u : Bool) → (t || u) ≡ false → (t ≡ false) × (u ≡ false)
neither true u h = cc
neither false u h = (refl, h)

module _ (q : ℕ) (ds es : ℕ → Det) (h : (k : ℕ) → (k ≡ q → ⊥) → es k ≡ ds k) where
  no_call : (k : ℕ) → nat_eq k q ≡ false → es k ≡ ds k
  no_call k e = h k (λ (i : k ≡ q). let t : nat_eq k q ≡ true = eq-eqb k q i in let f : true ≡ false = sym t ∙ e in cc)

  step_depends : (s : Step) (stack : List Determinism) → is_call_of q s ≡ false → after_step es s stack ≡ after_step ds s stack
  step_depends (T.Fixed d) stack e = refl
  step_depends (T.Call k t) stack e = ap (λ (d : Det). (if t then conj (row_of d) semidet else row_of d) ∷ stack) (no_call k e)
  step_depends T.Conj stack e = refl
  step_depends T.Disj stack e = refl
  step_depends T.Arms stack e = refl
  step_depends T.Misses stack e = refl
  step_depends T.Ite stack e = refl
  step_depends T.Not stack e = refl
  step_depends T.Pruned stack e = refl

  steps_depend : (steps : List Step) (stack : List Determinism) → calls q steps ≡ false → after_steps es steps stack ≡ after_steps ds steps stack
  steps_depend [] stack e = refl
  steps_depend (s ∷ steps) stack e =
      let f = neither (is_call_of q s) (calls q steps) e in
      steps_depend steps (after_step es s stack) f.1 ∙ ap (after_steps ds steps) (step_depends s stack f.0)

  pub depends : (steps : List Step) → calls q steps ≡ false → value es steps ≡ value ds steps
  depends steps e = ap top (steps_depend steps [] e)

-- one more step
pub after_more : (ds : ℕ → Det) (xs : List Step) (s : Step) (stack : List Determinism) → after_steps ds (xs ++ s ∷ []) stack ≡ after_step ds s (after_steps ds xs stack)
after_more ds [] s stack = refl
after_more ds (x ∷ xs) s stack = after_more ds xs s (after_step ds x stack)
