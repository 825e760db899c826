-- No type of a founded graph is nested deeper than the graph has cells.
use Rattle.std.proofs.Common.{◌≡◌, ℕ, zero, suc, ◌+◌, ◌<◌, ◌≤◌, cond, ltb, List, length, ap, subst, inl, inr, arith}
use Rattle.std.proofs.lemmas.Bool.{cases_eq, cases_lt, lt-ltb, le-ltb}
use Rattle.std.proofs.lemmas.List.{get_or_past}
use Rattle.mc_types.specs.Holds.{InOrder, cell_at}
use Rattle.mc_types.specs.Founded.{Founded, IsPart}
use Rattle.mc_types.specs.declared.cells.Cell.{Cell}
use Rattle.mc_types.specs.declared.cells.Cell.TheVariants.{Free}
use Rattle.mc_types.proofs.Visiting.{part_within_in}

module _ (rank : ℕ → ℕ) where
  one_if : ℕ → ℕ → ℕ
  one_if n r = cond (ltb (rank n) r) 1 0

  one : (n r : ℕ) → rank n < r → one_if n r ≡ 1
  unfolding one_if
  one n r lt = ap (λ b. cond b 1 0) (lt-ltb (rank n) r lt)

  none : (n r : ℕ) → r ≤ rank n → one_if n r ≡ 0
  unfolding one_if
  none n r le = ap (λ b. cond b 1 0) (le-ltb (rank n) r le)

  -- how many of the first n places rank below r
  abbrev lower : ℕ → ℕ → ℕ
  lower zero r = 0
  lower (suc n) r = lower n r + one_if n r

  one_rises : (n r s : ℕ) → r ≤ s → one_if n r ≤ one_if n s
  one_rises n r s le = elim (cases_lt (rank n) r) [
    | inl lt ↦ omega (arith, one n r lt, one n s (omega arith))
    | inr ge ↦ omega (arith, none n r ge)
  ]

  lower_rises : (n r s : ℕ) → r ≤ s → lower n r ≤ lower n s
  lower_rises zero r s le = omega arith
  lower_rises (suc n) r s le = omega (arith, lower_rises n r s le, one_rises n r s le)

  lower_less : (n r s p : ℕ) → r ≤ s → p < n → r ≤ rank p → rank p < s → lower n r < lower n s
  lower_less zero r s p le lt not_r is_s = let no_place : ⊥ = omega arith in absurd no_place
  lower_less (suc n) r s p le lt not_r is_s = elim (cases_eq p n) [
    | inl e ↦
        let P : ℕ → Type 0 = λ k. r ≤ rank k in
        let Q : ℕ → Type 0 = λ k. rank k < s in
        omega (arith, lower_rises n r s le, none n r (subst P e not_r), one n s (subst Q e is_s))
    | inr ne ↦ omega (arith, lower_less n r s p le (omega arith) not_r is_s, one_rises n r s le)
  ]

  one_at_most : (n r : ℕ) → one_if n r ≤ 1
  one_at_most n r = elim (cases_lt (rank n) r) [
    | inl lt ↦ omega (arith, one n r lt)
    | inr ge ↦ omega (arith, none n r ge)
  ]

  lower_at_most : (n r : ℕ) → lower n r ≤ n
  lower_at_most zero r = omega arith
  lower_at_most (suc n) r = omega (arith, lower_at_most n r, one_at_most n r)

  lower_below : (n r p : ℕ) → p < n → r ≤ rank p → lower n r < n
  lower_below zero r p lt not_r = omega arith
  lower_below (suc n) r p lt not_r = elim (cases_eq p n) [
    | inl e ↦ let P : ℕ → Type 0 = λ k. r ≤ rank k in omega (arith, lower_at_most n r, none n r (subst P e not_r))
    | inr ne ↦ omega (arith, lower_below n r p (omega arith) not_r, one_at_most n r)
  ]

pub part_in : (cells : List Cell) (i p : ℕ) → InOrder cells → IsPart (cell_at cells i) p → p < length cells
part_in cells i p o e = elim (cases_lt i (length cells)) [
  | inl lt ↦ part_within_in (length cells) i p (cell_at cells i) lt (o i) e
  | inr ge ↦ let P : Cell → Type 0 = λ c. IsPart c p in absurd (subst P (get_or_past cells i Free ge) e)
]

-- a ranking of the places by numbers below the number of cells
pub record Shallow (cells : List Cell) : Type 0 where
  pub founded : Founded cells
  pub low : (i : ℕ) → i < length cells → founded.rank i < length cells

pub shallow : (cells : List Cell) → InOrder cells → Founded cells → Shallow cells
shallow cells o f = record {
  founded = record {
    rank = λ i. lower f.rank (length cells) (f.rank i);
    falls = λ i p e. let lt = f.falls i p e in lower_less f.rank (length cells) (f.rank p) (f.rank i) p (omega arith) (part_in cells i p o e) (omega arith) lt;
  };
  low = λ i lt. lower_below f.rank (length cells) (f.rank i) i lt (omega arith);
}
