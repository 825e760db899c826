-- Choices that type their steps.
use Rattle.std.proofs.Common.{◌≡◌, ℕ, ◌+◌, ◌-◌, ◌<◌, ◌≤◌, ◌⊎◌, List, [], ◌∷◌, ◌++◌, length, get_or, sym, refl, subst, inl, inr, arith}
use Rattle.std.proofs.Math.Logic.{◌↔◌}
use Rattle.mc_types.specs.Shapes.{Shape}
use Rattle.mc_types.specs.declared.signature.Signature.{Signature}
use Rattle.mc_types.specs.declared.steps.Step.{Step}
use Rattle.mc_types.specs.Typed.{Typed, Chosen, Live}
use Rattle.mc_types.specs.code.Passed.{Passed}
use Rattle.mc_types.proofs.Orders.{Begins, passed_less, passed_next, passed_deeper, passed_above, passed_under, passed_up}

module _ (θ : ℕ → Shape) (signatures : List Signature) where
  pub typed_front : (steps : List Step) (front rest : List ℕ) → Typed θ signatures steps (front ++ rest) → Typed θ signatures steps front
  typed_front steps [] rest h = tt
  typed_front [] (c ∷ front) rest h = h
  typed_front (s ∷ steps) (c ∷ front) rest h = (h.0, typed_front steps front rest h.1)

  pub typed_within : (steps : List Step) (cs : List ℕ) → Typed θ signatures steps cs → length cs ≤ length steps
  typed_within steps [] h = omega arith
  typed_within [] (c ∷ cs) h = absurd h
  typed_within (s ∷ steps) (c ∷ cs) h = omega (arith, typed_within steps cs h.1)

  -- the choice at a place
  pub typed_last : (steps : List Step) (front : List ℕ) (c : ℕ) (rest : List ℕ) (d : Step) → Typed θ signatures steps (front ++ c ∷ rest) → Chosen θ signatures (get_or steps (length front) d) c
  typed_last [] [] c rest d h = absurd h
  typed_last (s ∷ steps) [] c rest d h = h.0
  typed_last [] (a ∷ front) c rest d h = absurd h
  typed_last (s ∷ steps) (a ∷ front) c rest d h = typed_last steps front c rest d h.1

  pub typed_step : (steps : List Step) (front : List ℕ) (c : ℕ) (rest : List ℕ) → Typed θ signatures steps (front ++ c ∷ rest) → (s : Step) × ((d : Step) → get_or steps (length front) d ≡ s) × Chosen θ signatures s c
  typed_step [] [] c rest h = absurd h
  typed_step (s ∷ steps) [] c rest h = (s, (λ d. refl), h.0)
  typed_step [] (a ∷ front) c rest h = absurd h
  typed_step (s ∷ steps) (a ∷ front) c rest h = typed_step steps front c rest h.1

  pub typed_below : (steps : List Step) (front : List ℕ) (c : ℕ) (rest : List ℕ) → Typed θ signatures steps (front ++ c ∷ rest) → length front < length steps
  typed_below [] [] c rest h = absurd h
  typed_below (s ∷ steps) [] c rest h = omega arith
  typed_below [] (a ∷ front) c rest h = absurd h
  typed_below (s ∷ steps) (a ∷ front) c rest h = omega (arith, typed_below steps front c rest h.1)

  pub typed_more : (steps : List Step) (front : List ℕ) (c : ℕ) (d : Step) → length front < length steps → Typed θ signatures steps front → Chosen θ signatures (get_or steps (length front) d) c → Typed θ signatures steps (front ++ c ∷ [])
  typed_more [] front c d lt h g = let never : ⊥ = omega arith in absurd never
  typed_more (s ∷ steps) [] c d lt h g = (g, tt)
  typed_more (s ∷ steps) (a ∷ front) c d lt h g = (h.0, typed_more steps front c d (omega arith) h.1 g)

module _ (signatures : List Signature) (steps : List Step) where
  pub live_front : (front cs : List ℕ) → Begins front cs → Live signatures steps cs → Live signatures steps front
  live_front front cs b l =
      let P : List ℕ → Type 0 = λ xs. Typed l.0 signatures steps xs in
      (l.0, typed_front l.0 signatures steps front b.0 (subst P b.1 l.1))

  -- a candidate that fails: nothing that is live lies below it
  pub skip_passes : (at : List ℕ) (c : ℕ) → (Live signatures steps (at ++ c ∷ []) → ⊥) → (cs : List ℕ) → Live signatures steps cs → Passed at (c + 1) cs ↔ Passed at c cs
  skip_passes at c fails cs live = (
    (λ h. elim (passed_next at c cs h) [ inl p ↦ p | inr b ↦ absurd (fails (live_front (at ++ c ∷ []) cs b live)) ]),
    (λ h. passed_less at c cs h),
  )

  pub deeper_passes : (at : List ℕ) (c : ℕ) (cs : List ℕ) → Passed (at ++ c ∷ []) 0 cs ↔ (Passed at c cs ⊎ (cs ≡ at ++ c ∷ []))
  deeper_passes at c cs = (
    (λ h. passed_deeper at c cs h),
    (λ h. elim h [
      | inl p ↦ passed_above at c 0 cs p
      | inr e ↦ let P : List ℕ → Type 0 = λ xs. Passed (at ++ c ∷ []) 0 xs in subst P (sym e) (passed_whole (at ++ c ∷ []))
    ]),
  )
    where
      passed_whole : (xs : List ℕ) → Passed xs 0 xs
      passed_whole [] = tt
      passed_whole (x ∷ xs) = inr (refl, passed_whole xs)

  -- no candidate is left at a step
  abbrev pub NoneLeft : ℕ → ℕ → Type 0
  NoneLeft k next = (s : Step) → k < length steps → ((d : Step) → get_or steps k d ≡ s) → length s.candidates.items ≤ next

  -- what is live below has then been tried
  pub below_passes : (at : List ℕ) (next : ℕ) → NoneLeft (length at) next → (rest : List ℕ) → Live signatures steps (at ++ rest) → Passed at next (at ++ rest)
  below_passes at next none [] live = passed_under at next [] tt
  below_passes at next none (c ∷ rest) live =
      let t = typed_step live.0 signatures steps at c rest live.1 in
      let small : c < next = omega (arith, t.2.0, none t.0 (typed_below live.0 signatures steps at c rest live.1) t.1) in
      passed_under at next (c ∷ rest) small

  pub up_passes : (at : List ℕ) (c next : ℕ) → NoneLeft (length (at ++ c ∷ [])) next → (cs : List ℕ) → Live signatures steps cs → Passed at (c + 1) cs ↔ Passed (at ++ c ∷ []) next cs
  up_passes at c next none cs live = (
    (λ h. elim (passed_next at c cs h) [
      | inl p ↦ passed_above at c next cs p
      | inr b ↦
          let P : List ℕ → Type 0 = λ xs. Live signatures steps xs in
          let Q : List ℕ → Type 0 = λ xs. Passed (at ++ c ∷ []) next xs in
          subst Q (sym b.1) (below_passes (at ++ c ∷ []) next none b.0 (subst P b.1 live))
    ]),
    (λ h. passed_up at c next cs h),
  )

-- how much there is to try before the search comes to an end or to live choices
abbrev pub to_try : List Step → List ℕ → ℕ → ℕ
to_try [] cs next = 0
to_try (s ∷ steps) [] next = length s.candidates.items - next
to_try (s ∷ steps) (c ∷ cs) next = (length s.candidates.items - c) + to_try steps cs next

pub next_less : (steps : List Step) (at : List ℕ) (next : ℕ) (d : Step) → length at < length steps → next < length (get_or steps (length at) d).candidates.items → to_try steps at (next + 1) < to_try steps at next
next_less [] at next d lt small = let never : ⊥ = omega arith in absurd never
next_less (s ∷ steps) [] next d lt small = omega arith
next_less (s ∷ steps) (c ∷ at) next d lt small = omega (arith, next_less steps at next d (omega arith) small)

pub up_less : (steps : List Step) (at : List ℕ) (c next : ℕ) (d : Step) → length at < length steps → c < length (get_or steps (length at) d).candidates.items → to_try steps at (c + 1) < to_try steps (at ++ c ∷ []) next
up_less [] at c next d lt small = let never : ⊥ = omega arith in absurd never
up_less (s ∷ steps) [] c next d lt small = omega arith
up_less (s ∷ steps) (a ∷ at) c next d lt small = omega (arith, up_less steps at c next d (omega arith) small)
