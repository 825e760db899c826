-- Types over free places, with numbers for these. (Milner, A Theory of Type Polymorphism in
-- Programming: most general types; this project's profile: the numbers.)
use Rattle.std.specs.Prelude.{◌≡◌, ℕ, ◌+◌, ◌<◌, List, [], ◌∷◌, ◌++◌, length, slice_index_or}
use Rattle.mc_program.specs.Programs.{TypeTerm}
use Rattle.mc_model.specs.Lists.{once, place_in}
use Rattle.mc_accepted.specs.MostGeneral.{AreNumbered, generalised, type_at}
use Rattle.mc_types.specs.declared.written_types.Written.{Written, Free, Rigid, Named, App'}
use Rattle.mc_typecheck.specs.WrittenTypes.{type_written}

-- the free places of a type, in the order in which they occur
abbrev pub free_of : Written → List ℕ
free_of (Free k) = k ∷ []
free_of (Rigid k) = []
free_of (Named n) = []
free_of (App' p f q x) = free_of f ++ free_of x

abbrev pub free_in : List Written → List ℕ
free_in [] = []
free_in (w ∷ ws) = free_of w ++ free_in ws

-- the number of a free place: behind the rigid ones, by first occurrence among those that were met
abbrev pub number_of : (r : ℕ) → (met : List ℕ) → ℕ → ℕ
number_of r met k = r + place_in k (once met)

-- types over the numbers of free places
pub record ArePlain (r : ℕ) (written : List Written) (types : List TypeTerm) : Type 0 where
  pub as_many : length types ≡ length written
  pub numbered : AreNumbered r types
  pub general :
      (σ : ℕ → TypeTerm)
      → (τ : ℕ → TypeTerm)
      × ((v : ℕ) (d : Written)
      → v < length written
      → type_written σ (slice_index_or written v d) ≡ generalised r τ (type_at types v))
  pub typed :
      (τ : ℕ → TypeTerm)
      → (σ : ℕ → TypeTerm)
      × ((v : ℕ) (d : Written)
      → v < length written
      → type_written σ (slice_index_or written v d) ≡ generalised r τ (type_at types v))
