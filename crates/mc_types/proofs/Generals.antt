-- The types that a graph stands for are those below the substitution of its first places.
use Rattle.std.proofs.Common.{◌≡◌, ℕ, zero, suc, ◌<◌, List, length, sym, ◌∙◌, ap, ap₂, refl, subst, inl, inr, arith}
use Rattle.std.proofs.lemmas.List.{get_or-map}
use Rattle.std.proofs.lemmas.List.FromFn.{length-map-range_with_len, get_or-map-range_with_len}
use Rattle.mc_program.specs.Programs.{TypeTerm, int_type, variable_type}
use Rattle.mc_program.specs.PlainPrograms.{plain_type}
use Rattle.mc_types.specs.Shapes.{Shape, rigid, app}
use Rattle.mc_types.specs.Holds.{Holds, cell_at}
use Rattle.mc_types.specs.Founded.{Founded, IsPart}
use Rattle.mc_types.specs.Solved.{value, value_of}
use Rattle.mc_types.specs.declared.cells.Cell.{Cell}
use Rattle.mc_types.specs.declared.cells.Cell.TheVariants.{Free, Same, Named, Rigid, App}
use Rattle.mc_types.proofs.Solutions.{solved, only_value}
use Rattle.mc_types.proofs.Depths.{Shallow, shallow, part_in}
use Rattle.mc_types.specs.Substitutions.{under, image, IsBelow}
use Rattle.mc_types.specs.Trees.{shape, type_of}
use Rattle.mc_types.specs.Placed.{IsTypeOf}
use Rattle.mc_types.specs.code.Systems.{IsSystem, held_type, general, types_of}
use Rattle.mc_types.proofs.TypeViews.{plain_held}
use Rattle.mc_types.proofs.TreeLaws.{chosen_above, chosen_below, grafted, grafted_shape, placed_agrees, placed_under, proper_of, shape-injective, type_of_placed, under_agrees}

-- the list of the types, and what stands in it
pub as_many_types : (n : ℕ) (cells : List Cell) → length (types_of n cells) ≡ n
as_many_types n cells = length-map-range_with_len (λ v. held_type (general cells v)) 0 n

pub image_at : (n : ℕ) (cells : List Cell) (v : ℕ) → v < n → image (types_of n cells) v ≡ general cells v
image_at n cells v lt =
    let default = held_type int_type in
    get_or-map plain_type (types_of n cells) v default (variable_type v) (omega (arith, as_many_types n cells))
    ∙ ap plain_type (get_or-map-range_with_len (λ j. held_type (general cells j)) 0 n v v default lt (omega arith))
    ∙ plain_held (general cells v)

pub to_below : (n : ℕ) (cells : List Cell) (θ : ℕ → TypeTerm) → ((v : ℕ) → v < n → θ v ≡ under n θ (general cells v)) → IsBelow θ (types_of n cells)
to_below n cells θ h v lt =
    let len = as_many_types n cells in
    let low : v < n = omega (arith, len) in
    let P : ℕ → Type 0 = λ m. θ v ≡ under m θ (image (types_of n cells) v) in
    subst P (sym len) (h v low ∙ ap (under n θ) (sym (image_at n cells v low)))

pub from_below : (n : ℕ) (cells : List Cell) (θ : ℕ → TypeTerm) → IsBelow θ (types_of n cells) → (v : ℕ) → v < n → θ v ≡ under n θ (general cells v)
from_below n cells θ h v low =
    let len = as_many_types n cells in
    let P : ℕ → Type 0 = λ m. θ v ≡ under m θ (image (types_of n cells) v) in
    subst P len (h v (omega (arith, len))) ∙ ap (under n θ) (image_at n cells v low)

module _ (n : ℕ) (cells : List Cell) (s : IsSystem n cells) where
  low_ranks : Shallow cells
  low_ranks = shallow cells s.in_order s.founded

  grafted_at : (σ : ℕ → Shape) (d i : ℕ) (c : Cell) → i < length cells → cell_at cells i ≡ c → ((p : ℕ) → IsPart c p → value cells σ d p ≡ grafted n σ (value cells rigid d p)) → value_of (value cells σ d) (σ i) c ≡ grafted n σ (value_of (value cells rigid d) (rigid i) c)
  grafted_at σ d i Free lt e h = sym (chosen_below n σ i (s.apart.free i lt e))
  grafted_at σ d i (Same j) lt e h = h j refl
  grafted_at σ d i (Named m) lt e h = refl
  grafted_at σ d i (Rigid k) lt e h = sym (chosen_above n σ k (s.apart.rigid i k e))
  grafted_at σ d i (App f x) lt e h = ap₂ app (h f (inl refl)) (h x (inr refl))

  -- any solution is the general one with types for its variables
  value_grafted : (f : Founded cells) (σ : ℕ → Shape) (d i : ℕ) → i < length cells → f.rank i < d → value cells σ d i ≡ grafted n σ (value cells rigid d i)
  value_grafted f σ zero i lt low = let none : ⊥ = omega arith in absurd none
  value_grafted f σ (suc d) i lt low =
      grafted_at σ d i (cell_at cells i) lt refl (λ p e. let falls = f.falls i p e in value_grafted f σ d p (part_in cells i p s.in_order e) (omega arith))

  pub solution_is : (σ ρ : ℕ → Shape) → Holds ρ cells → ((j : ℕ) → cell_at cells j ≡ Free → ρ j ≡ σ j) → (v : ℕ) → v < n → ρ v ≡ grafted n σ (value cells rigid (length cells) v)
  solution_is σ ρ h free v lt =
      let inside : v < length cells = omega (arith, s.room) in
      let f = low_ranks.founded in
      let low : f.rank v < length cells = low_ranks.low v inside in
      only_value cells f σ ρ h free (length cells) v low ∙ value_grafted f σ (length cells) v inside low

  -- the general solution
  pub general_is : (ρ : ℕ → Shape) → Holds ρ cells → ((j : ℕ) → cell_at cells j ≡ Free → ρ j ≡ rigid j) → (v : ℕ) → v < n → ρ v ≡ value cells rigid (length cells) v
  general_is ρ h free v lt =
      let inside : v < length cells = omega (arith, s.room) in
      only_value cells low_ranks.founded rigid ρ h free (length cells) v (low_ranks.low v inside)

  -- its trees are trees of types
  pub proper_at : (v : ℕ) → v < n → shape (general cells v) ≡ value cells rigid (length cells) v
  proper_at v lt =
      let g = solved cells s.founded rigid in
      let p = s.proper g.types g.holds in
      let G = value cells rigid (length cells) v in
      let read : p.0 v ≡ shape (type_of G) = p.2 v lt ∙ ap (λ t. shape (type_of t)) (general_is g.types g.holds g.free v lt) in
      proper_of n p.0 G (sym read ∙ solution_is p.0 p.0 p.1 (λ j e. refl) v lt)

  as_shape : (θ : ℕ → TypeTerm) (v : ℕ) → v < n → grafted n (λ k. shape (θ k)) (value cells rigid (length cells) v) ≡ shape (under n θ (general cells v))
  as_shape θ v lt =
      ap (grafted n (λ k. shape (θ k))) (sym (proper_at v lt))
      ∙ grafted_shape n (λ k. shape (θ k)) (general cells v)
      ∙ placed_under n θ (general cells v)

  pub means_below : (θ : ℕ → TypeTerm) (ρ : ℕ → Shape) → Holds ρ cells → ((v : ℕ) → v < n → ρ v ≡ shape (θ v)) → (v : ℕ) → v < n → θ v ≡ under n θ (general cells v)
  means_below θ ρ h is v lt =
      shape-injective (θ v) (under n θ (general cells v))
      (sym (is v lt)
      ∙ solution_is ρ ρ h (λ j e. refl) v lt
      ∙ ap (grafted n ρ) (sym (proper_at v lt))
      ∙ grafted_shape n ρ (general cells v)
      ∙ placed_agrees n ρ (λ k. shape (θ k)) (general cells v) is
      ∙ placed_under n θ (general cells v))

  pub below_means : (θ : ℕ → TypeTerm) → ((v : ℕ) → v < n → θ v ≡ under n θ (general cells v)) → (ρ : ℕ → Shape) × Holds ρ cells × ((v : ℕ) → v < n → ρ v ≡ shape (θ v))
  below_means θ h =
      let g = solved cells s.founded (λ k. shape (θ k)) in
      (g.types, g.holds, (λ v lt. solution_is (λ k. shape (θ k)) g.types g.holds g.free v lt ∙ as_shape θ v lt ∙ ap shape (sym (h v lt))))

  -- the substitution is below itself
  pub below_itself : IsBelow (image (types_of n cells)) (types_of n cells)
  below_itself =
      let g = solved cells s.founded rigid in
      to_below n cells (image (types_of n cells))
      (means_below (image (types_of n cells)) g.types g.holds (λ v lt. general_is g.types g.holds g.free v lt ∙ sym (proper_at v lt) ∙ ap shape (sym (image_at n cells v lt))))

  -- a type with the general types for its variables is the type under the substitution
  pub resolved_is : (t made : TypeTerm) → IsTypeOf n cells t made → made ≡ under (length (types_of n cells)) (image (types_of n cells)) t
  resolved_is t made is =
      let g = solved cells s.founded rigid in
      let P : ℕ → Type 0 = λ m. made ≡ under m (image (types_of n cells)) t in
      subst P (sym (as_many_types n cells))
      (is g.types (record { holds = g.holds; free = g.free })
      ∙ type_of_placed n g.types t
      ∙ under_agrees n (λ v. type_of (g.types v)) (image (types_of n cells)) t (λ v lt. ap type_of (general_is g.types g.holds g.free v lt) ∙ sym (image_at n cells v lt)))
