-- Which of the examples are well typed.
use Rattle.std.proofs.Common.{◌≡◌, ℕ, zero, suc, ◌<◌, ◌≤◌, List, [], ◌∷◌, length, take, get_or, refl, sym, ap, ◌∙◌, subst, arith, inl, inr}
use Rattle.std.specs.List.{Contains}
use Rattle.std.specs.Prelude.{◌⊎◌}
use Rattle.mc_program.specs.Programs.{TypeTerm, variable_type, union_type, no_types, Expression, made}
use Rattle.mc_accepted.specs.Resolving.{Walks, Live, Takes, Resolves, WellTyped, FirstTwo, TooMany, assignments_limit, steps_of}
use Rattle.laws_types.specs.code.Examples.{two_types, plain, candidates, over, amb, Typings, LiveAtOnce, ResolvedClauses}
use Rattle.mc_source.specs.declared.name.Candidate.{Candidate}
use Rattle.mc_source.specs.declared.name.Candidate.TheVariants.{Con}

abbrev at : ℕ → TypeTerm
at u = union_type u no_types

abbrev union_of : TypeTerm → ℕ
union_of (union_type u ts) = u
union_of (variable_type v) = 2
union_of _ = 2

abbrev first_type : List TypeTerm → TypeTerm
first_type [] = variable_type 0
first_type (t ∷ ts) = t

abbrev number_of : Candidate → ℕ
number_of (Con s) = s
number_of _ = 2

zero_one : ◌≡◌ {A = ℕ} 0 1 → ⊥
zero_one e = omega (arith, e)

-- a candidate that takes a type alone, and that type
abbrev Taken : Candidate → TypeTerm → Type 0
Taken c t = ((c ≡ Con 0) × (t ≡ at 0)) ⊎ ((c ≡ Con 1) × (t ≡ at 1))

taken_at : (c : Candidate) (t : TypeTerm) (k : ℕ) → k < 2 → get_or (Con 0 ∷ Con 1 ∷ []) k c ≡ c → Takes two_types plain c (t ∷ []) → Taken c t
taken_at c t zero lt e h =
    let P : Candidate → Type 0 = λ d. Takes two_types plain d (t ∷ []) in
    let g = subst P (sym e) h in
    inl (sym e, sym (ap first_type g.1))
taken_at c t (suc zero) lt e h =
    let P : Candidate → Type 0 = λ d. Takes two_types plain d (t ∷ []) in
    let g = subst P (sym e) h in
    inr (sym e, sym (ap first_type g.1))
taken_at c t (suc (suc k)) lt e h = let none : ⊥ = omega arith in absurd none

taken : (c : Candidate) (t : TypeTerm) → Contains candidates c → Takes two_types plain c (t ∷ []) → Taken c t
taken c t h = taken_at c t h.0 h.1 h.2

-- `pa(nil).`
pa_alone : (τ : ℕ → TypeTerm) (picks : List Candidate) → Walks two_types plain τ (steps_of (over 1)) [] picks → picks ≡ Con 0 ∷ []
pa_alone τ [] h = absurd h
pa_alone τ (c ∷ []) h = elim (taken c h.2 h.0 h.3) [
  | inl p ↦ ap (λ d. d ∷ []) p.0
  | inr p ↦ absurd (zero_one (sym (ap union_of (sym p.1 ∙ ap first_type h.4.0))))
]
pa_alone τ (c ∷ d ∷ picks) h = let none : ⊥ = omega (arith, ap length h.4.1) in absurd none

any_never : (τ : ℕ → TypeTerm) (picks : List Candidate) → Walks two_types plain τ (steps_of (over 2)) [] picks → ⊥
any_never τ [] h = h
any_never τ (c ∷ picks) h = elim (taken c h.2 h.0 h.3) [
  | inl p ↦ let e : ◌≡◌ {A = ℕ} 0 2 = ap union_of (sym p.1 ∙ ap first_type h.4.0) in omega (arith, e)
  | inr p ↦ let e : ◌≡◌ {A = ℕ} 1 2 = ap union_of (sym p.1 ∙ ap first_type h.4.0) in omega (arith, e)
]

has : (k : ℕ) → k < 2 → Contains candidates (get_or candidates k (Con 0))
has zero lt = (0, omega arith, refl)
has (suc zero) lt = (1, omega arith, refl)
has (suc (suc k)) lt = let none : ⊥ = omega arith in absurd none

pa_typed : WellTyped two_types plain (over 1)
pa_typed = record {
  picks = Con 0 ∷ [];
  resolves = ((λ v. at 0), ((0, omega arith, refl), tt, at 0, ((λ v. at 0), refl), (refl, refl)));
  alone = λ others r. pa_alone r.0 others r.1;
}

-- `amb :- X = nil, X = nil.`
amb_of : (k : ℕ) → Contains candidates (Con k) → Resolves two_types plain amb (Con k ∷ Con k ∷ [])
amb_of k h = (
  (λ v. at k),
  (refl, (h, tt, at k, ((λ v. at k), refl), (at k, refl, (h, tt, at k, ((λ v. at k), refl), (at k, refl, refl))))),
)

abbrev second_type : List TypeTerm → TypeTerm
second_type [] = variable_type 0
second_type (t ∷ ts) = first_type ts

amb_same : (c d : Candidate) (x t u : TypeTerm) → x ≡ t → x ≡ u → Taken c t → Taken d u → (c ∷ d ∷ [] ≡ Con 0 ∷ Con 0 ∷ []) ⊎ (c ∷ d ∷ [] ≡ Con 1 ∷ Con 1 ∷ [])
amb_same c d x t u et eu ht hu = elim ht [
  | inl p ↦ elim hu [
    | inl q ↦ inl (ap (λ y. y ∷ d ∷ []) p.0 ∙ ap (λ y. Con 0 ∷ y ∷ []) q.0)
    | inr q ↦ absurd (zero_one (ap union_of (sym p.1 ∙ sym et ∙ eu ∙ q.1)))
  ]
  | inr p ↦ elim hu [
    | inl q ↦ absurd (zero_one (ap union_of (sym q.1 ∙ sym eu ∙ et ∙ p.1)))
    | inr q ↦ inr (ap (λ y. y ∷ d ∷ []) p.0 ∙ ap (λ y. Con 1 ∷ y ∷ []) q.0)
  ]
]

amb_only : (τ : ℕ → TypeTerm) (picks : List Candidate) → Walks two_types plain τ (steps_of amb) [] picks → (picks ≡ Con 0 ∷ Con 0 ∷ []) ⊎ (picks ≡ Con 1 ∷ Con 1 ∷ [])
amb_only τ [] h = absurd h.1
amb_only τ (c ∷ []) h = absurd h.1.4.2
amb_only τ (c ∷ d ∷ []) h =
    let one = h.1 in
    let two = h.1.4.2 in
    amb_same c d (τ 0) one.2 two.2
    (ap first_type one.4.1 ∙ sym (ap second_type one.4.1))
    (ap first_type two.4.1 ∙ sym (ap second_type two.4.1))
    (taken c one.2 one.0 one.3) (taken d two.2 two.0 two.3)
amb_only τ (c ∷ d ∷ e ∷ picks) h = let none : ⊥ = omega (arith, ap length h.1.4.2.4.2) in absurd none

apart : Con 0 ≡ Con 1 → ⊥
apart e = zero_one (ap number_of e)

amb_two : FirstTwo two_types plain amb (Con 0 ∷ Con 0 ∷ []) (Con 1 ∷ Con 1 ∷ [])
amb_two = record {
  one = amb_of 0 (0, omega arith, refl);
  two = amb_of 1 (1, omega arith, refl);
  in_order = inl (apart, inl refl);
  others = λ picks r. elim (amb_only r.0 picks r.1) [ inl e ↦ inl e | inr e ↦ inr (inl e) ];
}

abbrev first_number : List Candidate → ℕ
first_number [] = 2
first_number (c ∷ cs) = number_of c

pub typings : Typings
typings = (
  pa_typed,
  amb_two,
  (λ w.
      let same : Con 0 ∷ Con 0 ∷ [] ≡ Con 1 ∷ Con 1 ∷ [] = w.alone (Con 0 ∷ Con 0 ∷ []) amb_two.one ∙ sym (w.alone (Con 1 ∷ Con 1 ∷ []) amb_two.two) in
      zero_one (ap first_number same)),
  (λ picks r. any_never r.0 picks r.1),
)

-- three lists are not different where each is one of two
three : (a b x y z : List Candidate) → (x ≡ a) ⊎ (x ≡ b) → (y ≡ a) ⊎ (y ≡ b) → (z ≡ a) ⊎ (z ≡ b) → (x ≡ y → ⊥) → (x ≡ z → ⊥) → (y ≡ z → ⊥) → ⊥
three a b x y z hx hy hz xy xz yz = elim hx [
  | inl xa ↦ elim hy [
    | inl ya ↦ xy (xa ∙ sym ya)
    | inr yb ↦ elim hz [ inl za ↦ xz (xa ∙ sym za) | inr zb ↦ yz (yb ∙ sym zb) ]
  ]
  | inr xb ↦ elim hy [
    | inr yb ↦ xy (xb ∙ sym yb)
    | inl ya ↦ elim hz [ inr zb ↦ xz (xb ∙ sym zb) | inl za ↦ yz (ya ∙ sym za) ]
  ]
]

-- what is live in `pa(nil).` at a moment
live_first : (τ : ℕ → TypeTerm) (picks : List Candidate) → Walks two_types plain τ (take 1 (steps_of (over 1))) [] picks → (picks ≡ Con 0 ∷ []) ⊎ (picks ≡ Con 1 ∷ [])
live_first τ [] h = absurd h
live_first τ (c ∷ []) h = elim (taken c h.2 h.0 h.3) [
  | inl p ↦ inl (ap (λ d. d ∷ []) p.0)
  | inr p ↦ inr (ap (λ d. d ∷ []) p.0)
]
live_first τ (c ∷ d ∷ picks) h = let none : ⊥ = omega (arith, ap length h.4) in absurd none

abbrev pub first_of : ℕ → List Candidate
first_of zero = []
first_of (suc n) = Con 0 ∷ []

live_at : (m : ℕ) (picks : List Candidate) → Live two_types plain (take m (steps_of (over 1))) picks → (picks ≡ first_of m) ⊎ (picks ≡ Con 1 ∷ [])
live_at zero picks h = inl h.1
live_at (suc zero) picks h = live_first h.0 picks h.1
live_at (suc (suc zero)) picks h = inl (pa_alone h.0 picks h.1)
live_at (suc (suc (suc m))) picks h = inl (pa_alone h.0 picks h.1)

two_live : (i : ℕ) → i < 2 → Live two_types plain (take 1 (steps_of (over 1))) (get_or ((Con 0 ∷ []) ∷ (Con 1 ∷ []) ∷ []) i [])
two_live zero lt = ((λ v. at 0), ((0, omega arith, refl), tt, at 0, ((λ v. at 0), refl), refl))
two_live (suc zero) lt = ((λ v. at 1), ((1, omega arith, refl), tt, at 1, ((λ v. at 1), refl), refl))
two_live (suc (suc i)) lt = let none : ⊥ = omega arith in absurd none

two_distinct : (i j : ℕ) → i < j → j < 2 → get_or ((Con 0 ∷ []) ∷ (Con 1 ∷ []) ∷ []) i [] ≡ get_or ((Con 0 ∷ []) ∷ (Con 1 ∷ []) ∷ []) j [] → ⊥
two_distinct zero zero ij lt e = omega arith
two_distinct zero (suc zero) ij lt e = zero_one (ap first_number e)
two_distinct zero (suc (suc j)) ij lt e = omega arith
two_distinct (suc i) zero ij lt e = omega arith
two_distinct (suc i) (suc zero) ij lt e = omega arith
two_distinct (suc i) (suc (suc j)) ij lt e = omega arith

no_third : TooMany two_types plain 2 (over 1) → ⊥
no_third many =
    let each : (i : ℕ) → i < length many.live → (get_or many.live i [] ≡ first_of many.moment) ⊎ (get_or many.live i [] ≡ Con 1 ∷ []) = λ i lt. live_at many.moment (get_or many.live i []) (many.all_live i lt) in
    three (first_of many.moment) (Con 1 ∷ []) (get_or many.live 0 []) (get_or many.live 1 []) (get_or many.live 2 [])
    (each 0 (omega (arith, many.many))) (each 1 (omega (arith, many.many))) (each 2 (omega (arith, many.many)))
    (many.distinct 0 1 (omega arith) (omega (arith, many.many))) (many.distinct 0 2 (omega arith) (omega (arith, many.many))) (many.distinct 1 2 (omega arith) (omega (arith, many.many)))

-- what passes a limit passes each smaller one
smaller_limit : (m n : ℕ) → m ≤ n → TooMany two_types plain n (over 1) → TooMany two_types plain m (over 1)
smaller_limit m n le many =
    record {
      moment = many.moment;
      live = many.live;
      many = omega (arith, le, many.many);
      distinct = many.distinct;
      all_live = many.all_live;
    }

pub live_at_once : LiveAtOnce
live_at_once = (
  record {
    moment = 1;
    live = (Con 0 ∷ []) ∷ (Con 1 ∷ []) ∷ [];
    many = omega arith;
    distinct = two_distinct;
    all_live = two_live;
  },
  no_third,
  (λ many. no_third (smaller_limit 2 assignments_limit (omega arith) many)),
)

abbrev symbol_of : List Expression → ℕ
symbol_of (made s es ∷ rest) = s
symbol_of _ = 2

pub resolved_clauses : ResolvedClauses
resolved_clauses = (refl, refl, (λ e. zero_one (sym (ap symbol_of e))))
