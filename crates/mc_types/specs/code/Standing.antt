-- Where a search stands: a graph for each choice on its path, each made from the one before by changes that are noted.
use Rattle.std.specs.Prelude.{◌≡◌, ℕ, ◌<◌, ◌≤◌, Bool, true, false, List, [], ◌∷◌, ◌++◌, length, map, ◌⊎◌, ◌↔◌}
use Rattle.mc_types.specs.Shapes.{Shape}
use Rattle.mc_types.specs.Holds.{Holds, InOrder}
use Rattle.mc_types.specs.Changes.{Grown}
use Rattle.mc_types.specs.Founded.{Founded, AllPast}
use Rattle.mc_types.specs.Fits.{Fits, FitHolds}
use Rattle.mc_types.specs.declared.cells.Cell.{Cell}
use Rattle.mc_types.specs.declared.cells.Change.{Change}
use Rattle.mc_types.specs.declared.signature.Signature.{Signature}
use Rattle.mc_types.specs.declared.steps.Step.{Step}
use Rattle.mc_types.specs.declared.state.Level.{Level}
use Rattle.mc_types.specs.declared.state.Search.{Search}
use Rattle.mc_types.specs.Typed.{Typed, Live}
use Rattle.mc_types.specs.code.Passed.{Passed}

-- what trying a candidate says of the graph before and after
pub record CandidateFits (cells : List Cell) (changes : List Change) (cells' : List Cell) (changes' : List Change) (signature : Signature) (places : List ℕ) : Type 0 where
  pub in_order : InOrder cells'
  pub founded : Founded cells'
  pub grown : Grown cells changes cells' changes'
  pub fits : FitHolds cells cells' signature places

pub record CandidateFails (cells : List Cell) (changes : List Change) (cells' : List Cell) (changes' : List Change) (signature : Signature) (places : List ℕ) : Type 0 where
  pub same_cells : cells' ≡ cells
  pub same_changes : changes' ≡ changes
  pub never : (ρ : ℕ → Shape) → Holds ρ cells → Fits ρ signature places → ⊥

abbrev pub Tried : Bool → List Cell → List Change → List Cell → List Change → Signature → List ℕ → Type 0
Tried true cells changes cells' changes' signature places = CandidateFits cells changes cells' changes' signature places
Tried false cells changes cells' changes' signature places = CandidateFails cells changes cells' changes' signature places

abbrev pub choices : List Level → List ℕ
choices path = map (λ l. l.choice) path

-- The graph stands for the types with which the choices type their steps. Its first cells are the places.
pub record Represents (signatures : List Signature) (steps : List Step) (places : ℕ) (cs : List ℕ) (cells : List Cell) : Type 0 where
  pub in_order : InOrder cells
  pub founded : Founded cells
  pub room : places ≤ length cells
  pub keeps : (ρ : ℕ → Shape) → Holds ρ cells → Typed ρ signatures steps cs
  pub extends : (θ : ℕ → Shape) → Typed θ signatures steps cs → (ρ : ℕ → Shape) × Holds ρ cells × ((i : ℕ) → i < places → ρ i ≡ θ i)

pub data Standing (signatures : List Signature) (steps : List Step) (places : ℕ) : List Level → List Cell → List Change → Type 0 where
  at_root : {path : List Level} {cells : List Cell} {changes : List Change} → path ≡ [] → Represents signatures steps places [] cells → Standing signatures steps places path cells changes
  at_level : {path : List Level} {cells : List Cell} {changes : List Change} (before : List Level) (l : Level) (cells0 : List Cell) (changes0 : List Change) → path ≡ before ++ l ∷ [] → Standing signatures steps places before cells0 changes0 → Represents signatures steps places (choices path) cells → Grown cells0 changes0 cells changes → l.cells ≡ length cells0 → l.changes ≡ length changes0 → Standing signatures steps places path cells changes

pub record Stands (signatures : List Signature) (steps : List Step) (places : ℕ) (s : Search) : Type 0 where
  pub standing : Standing signatures steps places s.path.items s.graph.cells.items s.graph.changes.items
  pub past : AllPast s.round s.marks.items
  pub some_round : 0 < s.round

-- the search has come to the next choices that are live, in its order
pub record Arrived (signatures : List Signature) (steps : List Step) (places : ℕ) (before after : Search) : Type 0 where
  pub stands : Stands signatures steps places after
  pub at_first : after.next ≡ 0
  pub live : Live signatures steps (choices after.path.items)
  pub new : Passed (choices before.path.items) before.next (choices after.path.items) → ⊥
  pub passes : (cs : List ℕ) → Live signatures steps cs → Passed (choices after.path.items) 0 cs ↔ (Passed (choices before.path.items) before.next cs ⊎ (cs ≡ choices after.path.items))

abbrev pub Moved : Bool → List Signature → List Step → ℕ → (before after : Search) → Type 0
Moved true signatures steps places before after = Arrived signatures steps places before after
Moved false signatures steps places before after = (cs : List ℕ) → Live signatures steps cs → Passed (choices before.path.items) before.next cs
