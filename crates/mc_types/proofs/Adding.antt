-- Cells that are added.
use Rattle.std.proofs.Common.{◌≡◌, ◌≢◌, ℕ, ◌+◌, ◌<◌, ◌≤◌, cond, eqb, List, [], ◌∷◌, ◌++◌, length, sym, ◌∙◌, ap, refl, subst, inl, inr, arith, length-append}
use Rattle.std.proofs.lemmas.Bool.{cases_eq, cases_lt, eq-eqb, ne_eqb}
use Rattle.std.proofs.lemmas.List.{get_or_append_left, get_or_push, get_or_past}
use Rattle.mc_types.specs.Shapes.{Shape, named, rigid, app}
use Rattle.mc_types.specs.Holds.{Holds, CellHolds, InOrder, CellInOrder, cell_at, Extends}
use Rattle.mc_types.specs.declared.cells.Cell.{Cell}
use Rattle.mc_types.specs.declared.cells.Cell.TheVariants.{Free, Same, Named, Rigid, App}

longer_in_order : (n m i : ℕ) (c : Cell) → n ≤ m → CellInOrder n i c → CellInOrder m i c
longer_in_order n m i Free le o = tt
longer_in_order n m i (Same j) le o = o
longer_in_order n m i (Named k) le o = tt
longer_in_order n m i (Rigid k) le o = tt
longer_in_order n m i (App f x) le o = (omega arith, omega arith)

-- what stands at a place of a longer list of cells
pushed_at : (cells : List Cell) (c : Cell) (P : ℕ → Cell → Type 0) → ((i : ℕ) → i < length cells → P i (cell_at cells i)) → P (length cells) c → ((i : ℕ) → P i Free) → (i : ℕ) → P i (cell_at (cells ++ c ∷ []) i)
pushed_at cells c P old new past i = elim (cases_lt i (length cells)) [
  | inl lt ↦ rw (get_or_append_left cells (c ∷ []) Free i lt) (old i lt)
  | inr ge ↦ elim (cases_eq (length cells) i) [
    | inl e ↦ let Q : ℕ → Type 0 = λ j. P j (cell_at (cells ++ c ∷ []) j) in subst Q e (rw (get_or_push cells c Free (length cells) refl) new)
    | inr ne ↦ rw (get_or_past (cells ++ c ∷ []) i Free (omega (arith, length-append cells (c ∷ [])))) (past i)
  ]
]

pub in_order_push : (cells : List Cell) (c : Cell) → InOrder cells → CellInOrder (length cells) (length cells) c → InOrder (cells ++ c ∷ [])
in_order_push cells c o h i =
    let n : length (cells ++ c ∷ []) ≡ length cells + 1 = length-append cells (c ∷ []) in
    let P : ℕ → Type 0 = λ m. CellInOrder m i (cell_at (cells ++ c ∷ []) i) in
    subst P (sym n)
    (pushed_at cells c (λ j d. CellInOrder (length cells + 1) j d)
    (λ j lt. longer_in_order (length cells) (length cells + 1) j (cell_at cells j) (omega arith) (o j))
    (longer_in_order (length cells) (length cells + 1) (length cells) c (omega arith) h)
    (λ j. tt)
    i)

pub agree_at : (ρ ρ' : ℕ → Shape) (n i : ℕ) (c : Cell) → ((k : ℕ) → k < n → ρ' k ≡ ρ k) → i < n → CellInOrder n i c → CellHolds ρ i c → CellHolds ρ' i c
agree_at ρ ρ' n i Free same lt o h = tt
agree_at ρ ρ' n i (Same j) same lt o h = same i lt ∙ h ∙ sym (same j (omega arith))
agree_at ρ ρ' n i (Named k) same lt o h = same i lt ∙ h
agree_at ρ ρ' n i (Rigid k) same lt o h = same i lt ∙ h
agree_at ρ ρ' n i (App f x) same lt o h = same i lt ∙ h ∙ ap (λ a. app a (ρ x)) (sym (same f o.0)) ∙ ap (app (ρ' f)) (sym (same x o.1))

-- what the cells before say is kept where more follow
pub keeps_append : (ρ : ℕ → Shape) (cells more : List Cell) → Holds ρ (cells ++ more) → Holds ρ cells
keeps_append ρ cells more h i = elim (cases_lt i (length cells)) [
  | inl lt ↦ let P : Cell → Type 0 = λ c. CellHolds ρ i c in subst P (get_or_append_left cells more Free i lt) (h i)
  | inr ge ↦ let P : Cell → Type 0 = λ c. CellHolds ρ i c in subst P (sym (get_or_past cells i Free ge)) tt
]

abbrev value_at : (ℕ → Shape) → ℕ → Cell → Shape
value_at ρ n Free = ρ n
value_at ρ n (Same j) = ρ j
value_at ρ n (Named k) = named k
value_at ρ n (Rigid k) = rigid k
value_at ρ n (App f x) = app (ρ f) (ρ x)

extended : (ℕ → Shape) → ℕ → Shape → ℕ → Shape
extended ρ n v i = cond (eqb i n) v (ρ i)

extended_other : (ρ : ℕ → Shape) (n : ℕ) (v : Shape) (i : ℕ) → i ≢ n → extended ρ n v i ≡ ρ i
unfolding extended
extended_other ρ n v i ne = ap (λ b. cond b v (ρ i)) (ne_eqb i n ne)

extended_same : (ρ : ℕ → Shape) (n : ℕ) (v : Shape) → extended ρ n v n ≡ v
unfolding extended
extended_same ρ n v = ap (λ b. cond b v (ρ n)) (eq-eqb n n refl)

value_holds : (ρ ρ' : ℕ → Shape) (n : ℕ) (c : Cell) → ((k : ℕ) → k < n → ρ' k ≡ ρ k) → CellInOrder n n c → ρ' n ≡ value_at ρ n c → CellHolds ρ' n c
value_holds ρ ρ' n Free same o e = tt
value_holds ρ ρ' n (Same j) same o e = e ∙ sym (same j o)
value_holds ρ ρ' n (Named k) same o e = e
value_holds ρ ρ' n (Rigid k) same o e = e
value_holds ρ ρ' n (App f x) same o e = e ∙ ap (λ a. app a (ρ x)) (sym (same f o.0)) ∙ ap (app (ρ' f)) (sym (same x o.1))

pub extends_push : (cells : List Cell) (c : Cell) → InOrder cells → CellInOrder (length cells) (length cells) c → Extends cells (cells ++ c ∷ [])
extends_push cells c o h ρ holds =
    let n = length cells in
    let ρ' : ℕ → Shape = extended ρ n (value_at ρ n c) in
    let same : (k : ℕ) → k < n → ρ' k ≡ ρ k = λ k lt. extended_other ρ n (value_at ρ n c) k (let ne : k ≢ n = omega arith in ne) in (
      ρ',
      (λ i. pushed_at cells c (λ j d. CellHolds ρ' j d)
          (λ j lt. agree_at ρ ρ' n j (cell_at cells j) same lt (o j) (holds j))
          (value_holds ρ ρ' n c same h (extended_same ρ n (value_at ρ n c)))
          (λ j. tt)
          i),
      same,
    )

pub extends_more : (a b c : List Cell) → length a ≤ length b → Extends a b → Extends b c → Extends a c
extends_more a b c le x y ρ h =
    let p = x ρ h in
    let q = y p.0 p.1 in
    (q.0, q.1, (λ i lt. q.2 i (omega arith) ∙ p.2 i lt))

pub cell_last : (cells : List Cell) (c : Cell) (ρ : ℕ → Shape) → Holds ρ (cells ++ c ∷ []) → CellHolds ρ (length cells) c
cell_last cells c ρ h = let P : Cell → Type 0 = λ d. CellHolds ρ (length cells) d in subst P (get_or_push cells c Free (length cells) refl) (h (length cells))
