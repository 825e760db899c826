-- The roots of places, from the lowest up.
use Rattle.std.proofs.Common.{◌≡◌, ◌<◌, ◌+◌, ℕ, List, [], ◌∷◌, ◌++◌, length, ◌∙◌, refl, subst, arith}
use Rattle.std.proofs.lemmas.List.{get_or_append_left, get_or_push, length_push}
use Rattle.mc_types.specs.Holds.{CellHolds, CellInOrder, InOrder, IsRoot, cell_at}
use Rattle.mc_types.specs.declared.cells.Cell.{Cell}
use Rattle.mc_types.specs.declared.cells.Cell.TheVariants.{Same}
use Rattle.mc_types.specs.code.RootTable.{HasRoot, AreRoots}

pub joined_below : (cells : List Cell) (at lower : ℕ) → InOrder cells → cell_at cells at ≡ Same lower → lower < at
joined_below cells at lower in_order is =
    let P : Cell → Type 0 = λ c. CellInOrder (length cells) at c in subst P is (in_order at)

-- a place that is joined with a lower one has the root of that one
pub lower_root : (cells : List Cell) (at lower root : ℕ) → InOrder cells → cell_at cells at ≡ Same lower → HasRoot cells lower root → HasRoot cells at root
lower_root cells at lower root in_order is has = record {
  below = omega (arith, joined_below cells at lower in_order is);
  is_root = has.is_root;
  same = λ ρ holds. let P : Cell → Type 0 = λ c. CellHolds ρ at c in subst P is (holds at) ∙ has.same ρ holds;
}

-- any other is its own
joined_with_none : (cell : Cell) → ((j : ℕ) → cell ≡ Same j → ⊥) → IsRoot cell
joined_with_none (Same j) none = none j refl
joined_with_none _ none = tt

pub own_root : (cells : List Cell) (at : ℕ) → ((j : ℕ) → cell_at cells at ≡ Same j → ⊥) → HasRoot cells at at
own_root cells at none = record {
  below = omega arith;
  is_root = joined_with_none (cell_at cells at) none;
  same = λ ρ holds. refl;
}

pub next_root : (cells : List Cell) (count : ℕ) (roots : List ℕ) (root : ℕ) → AreRoots cells count roots → HasRoot cells count root → AreRoots cells (count + 1) (roots ++ root ∷ [])
next_root cells count roots root so_far has = record {
  as_many = omega (arith, length_push roots root);
  are = λ i d lt. grind (arith, get_or_append_left, get_or_push, has, so_far.are i d);
}
