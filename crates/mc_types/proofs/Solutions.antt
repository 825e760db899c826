-- A graph in which no type has itself in it stands for types, whatever its free cells are.
use Rattle.std.proofs.Common.{◌≡◌, ℕ, zero, suc, ◌<◌, List, ◌∙◌, ap, refl, inl, inr, arith}
use Rattle.mc_types.specs.Shapes.{Shape, app}
use Rattle.mc_types.specs.Holds.{Holds, CellHolds, cell_at}
use Rattle.mc_types.specs.Founded.{Founded, IsPart}
use Rattle.mc_types.specs.Solved.{Solved, value, value_of}
use Rattle.mc_types.specs.declared.cells.Cell.{Cell}
use Rattle.mc_types.specs.declared.cells.Cell.TheVariants.{Free, Same, Named, Rigid, App}

module _ (cells : List Cell) (founded : Founded cells) (σ : ℕ → Shape) where
  enough_at : (f g i : ℕ) (c : Cell) → ((p : ℕ) → IsPart c p → value cells σ f p ≡ value cells σ g p) → value_of (value cells σ f) (σ i) c ≡ value_of (value cells σ g) (σ i) c
  enough_at f g i Free same = refl
  enough_at f g i (Same j) same = same j refl
  enough_at f g i (Named n) same = refl
  enough_at f g i (Rigid n) same = refl
  enough_at f g i (App h x) same = ap (λ a. app a (value cells σ f x)) (same h (inl refl)) ∙ ap (app (value cells σ g h)) (same x (inr refl))

  enough : (f g i : ℕ) → founded.rank i < f → founded.rank i < g → value cells σ f i ≡ value cells σ g i
  enough zero g i lf lg = let no : ⊥ = omega arith in absurd no
  enough (suc f) zero i lf lg = let no : ⊥ = omega arith in absurd no
  enough (suc f) (suc g) i lf lg = enough_at f g i (cell_at cells i) (λ p e. let falls = founded.falls i p e in enough f g p (omega arith) (omega arith))

  solution : ℕ → Shape
  solution i = value cells σ (suc (founded.rank i)) i

  holds_at : (i : ℕ) (c : Cell) → ((p : ℕ) → IsPart c p → value cells σ (founded.rank i) p ≡ solution p) → solution i ≡ value_of (value cells σ (founded.rank i)) (σ i) c → CellHolds solution i c
  holds_at i Free same e = tt
  holds_at i (Same j) same e = e ∙ same j refl
  holds_at i (Named n) same e = e
  holds_at i (Rigid n) same e = e
  holds_at i (App h x) same e = e ∙ ap (λ a. app a (value cells σ (founded.rank i) x)) (same h (inl refl)) ∙ ap (app (solution h)) (same x (inr refl))

  part_enough : (i p : ℕ) → IsPart (cell_at cells i) p → value cells σ (founded.rank i) p ≡ solution p
  unfolding solution
  part_enough i p e = enough (founded.rank i) (suc (founded.rank p)) p (founded.falls i p e) (omega arith)

  solution_holds : Holds solution cells
  unfolding solution
  solution_holds i = holds_at i (cell_at cells i) (part_enough i) refl

  free_at : (i : ℕ) → cell_at cells i ≡ Free → solution i ≡ σ i
  unfolding solution
  free_at i e = ap (value_of (value cells σ (founded.rank i)) (σ i)) e

  only_at : (ρ : ℕ → Shape) (f i : ℕ) (c : Cell) → cell_at cells i ≡ c → CellHolds ρ i c → ((j : ℕ) → cell_at cells j ≡ Free → ρ j ≡ σ j) → ((p : ℕ) → IsPart c p → ρ p ≡ value cells σ f p) → ρ i ≡ value_of (value cells σ f) (σ i) c
  only_at ρ f i Free e h free same = free i e
  only_at ρ f i (Same j) e h free same = h ∙ same j refl
  only_at ρ f i (Named n) e h free same = h
  only_at ρ f i (Rigid n) e h free same = h
  only_at ρ f i (App a x) e h free same = h ∙ ap (λ z. app z (ρ x)) (same a (inl refl)) ∙ ap (app (value cells σ f a)) (same x (inr refl))

  pub only_value : (ρ : ℕ → Shape) → Holds ρ cells → ((j : ℕ) → cell_at cells j ≡ Free → ρ j ≡ σ j) → (f i : ℕ) → founded.rank i < f → ρ i ≡ value cells σ f i
  only_value ρ h free zero i lt = let no : ⊥ = omega arith in absurd no
  only_value ρ h free (suc f) i lt = only_at ρ f i (cell_at cells i) refl (h i) free (λ p e. let falls = founded.falls i p e in only_value ρ h free f p (omega arith))

  pub solved : Solved cells σ
  unfolding solution
  solved = record {
    types = solution;
    holds = solution_holds;
    free = free_at;
    only = λ ρ h free i. only_value ρ h free (suc (founded.rank i)) i (omega arith);
  }
