-- The order in which choices are tried.
use Rattle.std.proofs.Common.{◌≡◌, ℕ, ◌+◌, ◌⊎◌, List, [], ◌∷◌, ◌++◌, ◌∙◌, ap, refl, inl, inr, arith}
use Rattle.std.proofs.lemmas.Bool.{cases_lt}
use Rattle.mc_types.specs.code.Passed.{Passed}

-- the choices begin with others
abbrev pub Begins : List ℕ → List ℕ → Type 0
Begins front cs = (rest : List ℕ) × (cs ≡ front ++ rest)

begins_cons : (a : ℕ) (front cs : List ℕ) → Begins front cs → Begins (a ∷ front) (a ∷ cs)
begins_cons a front cs b = (b.0, ap (λ xs. a ∷ xs) b.1)

pub passed_less : (at : List ℕ) (c : ℕ) (cs : List ℕ) → Passed at c cs → Passed at (c + 1) cs
passed_less at c [] h = tt
passed_less [] c (d ∷ cs) h = omega arith
passed_less (a ∷ at) c (d ∷ cs) (inl lt) = inl lt
passed_less (a ∷ at) c (d ∷ cs) (inr h) = inr (h.0, passed_less at c cs h.1)

pub passed_next : (at : List ℕ) (c : ℕ) (cs : List ℕ) → Passed at (c + 1) cs → Passed at c cs ⊎ Begins (at ++ c ∷ []) cs
passed_next at c [] h = inl tt
passed_next [] c (d ∷ cs) h = elim (cases_lt d c) [
  | inl lt ↦ inl lt
  | inr ge ↦ let e : d ≡ c = omega arith in inr (cs, ap (λ x. x ∷ cs) e)
]
passed_next (a ∷ at) c (d ∷ cs) (inl lt) = inl (inl lt)
passed_next (a ∷ at) c (d ∷ cs) (inr h) = elim (passed_next at c cs h.1) [
  | inl p ↦ inl (inr (h.0, p))
  | inr b ↦ inr (b.0, ap (λ x. x ∷ cs) h.0 ∙ ap (λ xs. a ∷ xs) b.1)
]

-- one choice more, of which no candidate has been tried
pub passed_deeper : (at : List ℕ) (c : ℕ) (cs : List ℕ) → Passed (at ++ c ∷ []) 0 cs → Passed at c cs ⊎ (cs ≡ at ++ c ∷ [])
passed_deeper at c [] h = inl tt
passed_deeper [] c (d ∷ cs) (inl lt) = inl lt
passed_deeper [] c (d ∷ []) (inr h) = inr (ap (λ x. x ∷ []) h.0)
passed_deeper [] c (d ∷ e ∷ cs) (inr h) = let never : ⊥ = omega (arith, h.1) in absurd never
passed_deeper (a ∷ at) c (d ∷ cs) (inl lt) = inl (inl lt)
passed_deeper (a ∷ at) c (d ∷ cs) (inr h) = elim (passed_deeper at c cs h.1) [
  | inl p ↦ inl (inr (h.0, p))
  | inr e ↦ inr (ap (λ x. x ∷ cs) h.0 ∙ ap (λ xs. a ∷ xs) e)
]

-- what has been tried counts as tried deeper down, whatever comes next there
pub passed_above : (at : List ℕ) (c next : ℕ) (cs : List ℕ) → Passed at c cs → Passed (at ++ c ∷ []) next cs
passed_above at c next [] h = tt
passed_above [] c next (d ∷ cs) h = inl h
passed_above (a ∷ at) c next (d ∷ cs) (inl lt) = inl lt
passed_above (a ∷ at) c next (d ∷ cs) (inr h) = inr (h.0, passed_above at c next cs h.1)

pub passed_under : (at : List ℕ) (next : ℕ) (rest : List ℕ) → Passed [] next rest → Passed at next (at ++ rest)
passed_under [] next rest h = h
passed_under (a ∷ at) next rest h = inr (refl, passed_under at next rest h)

pub passed_itself : (at : List ℕ) (next : ℕ) → Passed at next at
passed_itself [] next = tt
passed_itself (a ∷ at) next = inr (refl, passed_itself at next)

-- choices that come up to a candidate aren't tried before it
pub not_yet : (at : List ℕ) (c : ℕ) → Passed at c (at ++ c ∷ []) → ⊥
not_yet [] c h = omega arith
not_yet (a ∷ at) c (inl lt) = omega arith
not_yet (a ∷ at) c (inr h) = not_yet at c h.1

-- back up: all that was tried below a choice has been tried before the next one
pub passed_up : (at : List ℕ) (c next : ℕ) (cs : List ℕ) → Passed (at ++ c ∷ []) next cs → Passed at (c + 1) cs
passed_up at c next [] h = tt
passed_up [] c next (d ∷ cs) (inl lt) = omega arith
passed_up [] c next (d ∷ cs) (inr h) = omega (arith, h.0)
passed_up (a ∷ at) c next (d ∷ cs) (inl lt) = inl lt
passed_up (a ∷ at) c next (d ∷ cs) (inr h) = inr (h.0, passed_up at c next cs h.1)
