-- Cells that are overwritten.
use Rattle.std.proofs.Common.{◌≡◌, ◌≢◌, ℕ, ◌+◌, ◌<◌, List, length, set, sym, subst, inl, inr, arith, length-set, get_or-set_same, get_or-set_other}
use Rattle.std.proofs.lemmas.Bool.{cases_eq}
use Rattle.std.proofs.lemmas.List.Sums.{sum_by-set}
use Rattle.mc_types.specs.Shapes.{Shape}
use Rattle.mc_types.specs.Holds.{Holds, CellHolds, InOrder, CellInOrder, IsRoot, cell_at}
use Rattle.mc_types.specs.code.Joins.{weight, cell_weight}
use Rattle.mc_types.specs.declared.cells.Cell.{Cell}
use Rattle.mc_types.specs.declared.cells.Cell.TheVariants.{Free, Same, Named, Rigid, App}

-- all cells but one hold
abbrev pub Others : (ℕ → Shape) → List Cell → ℕ → Type 0
Others ρ cells i = (j : ℕ) → j ≢ i → CellHolds ρ j (cell_at cells j)

pub to_set : (ρ : ℕ → Shape) (cells : List Cell) (i : ℕ) (c : Cell) → i < length cells → Others ρ cells i → CellHolds ρ i c → Holds ρ (set cells i c)
to_set ρ cells i c lt others h j =
    elim (cases_eq j i) as (λ _. CellHolds ρ j (cell_at (set cells i c) j)) [
      | inl e ↦ let P : ℕ → Type 0 = λ k. CellHolds ρ k (cell_at (set cells i c) k) in subst P (sym e) (rw get_or-set_same h)
      | inr ne ↦ let ne' : j ≢ i = ne in rw get_or-set_other (others j ne')
    ]

pub from_set : (ρ : ℕ → Shape) (cells : List Cell) (i : ℕ) (c : Cell) → i < length cells → Holds ρ (set cells i c) → Others ρ cells i × CellHolds ρ i c
from_set ρ cells i c lt h = (λ j ne. rw get_or-set_other at (h j), rw get_or-set_same at (h i))

pub to_all : (ρ : ℕ → Shape) (cells : List Cell) (i : ℕ) → Others ρ cells i → CellHolds ρ i (cell_at cells i) → Holds ρ cells
to_all ρ cells i others h j =
    elim (cases_eq j i) as (λ _. CellHolds ρ j (cell_at cells j)) [
      | inl e ↦ let P : ℕ → Type 0 = λ k. CellHolds ρ k (cell_at cells k) in subst P (sym e) h
      | inr ne ↦ others j ne
    ]

pub in_order-set : (cells : List Cell) (i : ℕ) (c : Cell) → i < length cells → InOrder cells → CellInOrder (length cells) i c → InOrder (set cells i c)
in_order-set cells i c lt all h j =
    let P : ℕ → Type 0 = λ n. CellInOrder n j (cell_at (set cells i c) j) in
    subst P (sym (length-set cells i c))
    (elim (cases_eq j i) as (λ _. CellInOrder (length cells) j (cell_at (set cells i c) j)) [
      | inl e ↦ let Q : ℕ → Type 0 = λ k. CellInOrder (length cells) k (cell_at (set cells i c) k) in subst Q (sym e) (rw get_or-set_same h)
      | inr ne ↦ let ne' : j ≢ i = ne in rw get_or-set_other (all j)
    ])

pub weight-set : (cells : List Cell) (i : ℕ) (c : Cell) → i < length cells → weight (set cells i c) + cell_weight (cell_at cells i) ≡ weight cells + cell_weight c
weight-set cells i c lt = sum_by-set cell_weight cells i c Free lt

pub root_in_order : (n i j : ℕ) (c : Cell) → IsRoot c → CellInOrder n i c → CellInOrder n j c
root_in_order n i j Free r h = tt
root_in_order n i j (Same k) r h = absurd r
root_in_order n i j (Named m) r h = tt
root_in_order n i j (Rigid m) r h = tt
root_in_order n i j (App f x) r h = h

-- a root's cell is put in a lower place, and joined with it
pub moved_in_order : (cells : List Cell) (low high : ℕ) (c : Cell) → low < high → high < length cells → cell_at cells high ≡ c → IsRoot (cell_at cells high) → InOrder cells → InOrder (set cells low c)
moved_in_order cells low high c lt place e r all =
    let P : Cell → Type 0 = λ d. CellInOrder (length cells) low d in
    in_order-set cells low c (omega arith) all (subst P e (root_in_order (length cells) high low (cell_at cells high) r (all high)))

pub moved_and_joined : (cells : List Cell) (low high : ℕ) (c : Cell) → low < high → high < length cells → cell_at cells high ≡ c → IsRoot (cell_at cells high) → InOrder cells → InOrder (set (set cells low c) high (Same low))
moved_and_joined cells low high c lt place e r all =
    in_order-set (set cells low c) high (Same low) (omega (arith, length-set cells low c)) (moved_in_order cells low high c lt place e r all) lt
