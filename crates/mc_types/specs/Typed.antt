-- Which choices of candidates type the steps of a clause: each step ties the types at some places,
-- those of a name's arguments and its own, to those of one of its candidates. (Mercury Language
-- Reference Manual: Types, overloading; this project's profile: the walk.)
use Rattle.std.specs.Prelude.{◌≡◌, ℕ, ◌<◌, List, [], ◌∷◌, length, slice_index_or, slice_index}
use Rattle.mc_types.specs.Shapes.{Shape}
use Rattle.mc_types.specs.Fits.{Fits}
use Rattle.mc_types.specs.declared.signature.Signature.{Signature}
use Rattle.mc_types.specs.declared.steps.Step.{Step}

-- the step's places fit the candidate of this number
abbrev pub Chosen : (θ : ℕ → Shape) → List Signature → Step → ℕ → Type 0
Chosen θ signatures step c =
    (c < length step.candidates.items)
    × ((d : Signature)
    → Fits θ (slice_index_or signatures (slice_index step.candidates.items c) d) step.places.items)

-- the choices type as many of the first steps as there are choices, where θ gives each place its
-- type
abbrev pub Typed : (θ : ℕ → Shape) → List Signature → List Step → List ℕ → Type 0
Typed θ signatures steps [] = Unit {0}
Typed θ signatures [] (c ∷ choices) = ⊥
Typed θ signatures (step ∷ steps) (c ∷ choices) =
    Chosen θ signatures step c × Typed θ signatures steps choices

-- some types of the places are typed by the choices
abbrev pub Live : List Signature → List Step → List ℕ → Type 0
Live signatures steps choices = (θ : ℕ → Shape) × Typed θ signatures steps choices

-- the choices of a moment: they type as many steps as have been walked
abbrev pub LiveAt : List Signature → List Step → ℕ → List ℕ → Type 0
LiveAt signatures steps k choices = (length choices ≡ k) × Live signatures steps choices

-- each step names places and candidates that are there, and as many places as each candidate has
-- types
pub record Proper (signatures : List Signature) (places : ℕ) (step : Step) : Type 0 where
  pub places_there :
      (k : ℕ) (d : ℕ)
      → k < length step.places.items → slice_index_or step.places.items k d < places
  pub candidates_there :
      (c : ℕ)
      → c < length step.candidates.items
      → slice_index step.candidates.items c < length signatures
  pub same_length :
      (c : ℕ) (d : Signature)
      → c < length step.candidates.items
      → length step.places.items
      ≡ length (slice_index_or signatures (slice_index step.candidates.items c) d).types.items

abbrev pub AllProper : List Signature → ℕ → List Step → Type 0
AllProper signatures places steps =
    (k : ℕ) (d : Step)
    → k < length steps → Proper signatures places (slice_index_or steps k d)
