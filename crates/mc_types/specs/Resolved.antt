-- What the search for a resolution answers. (Mercury Language Reference Manual: Types, overloading;
-- Milner, A Theory of Type Polymorphism in Programming: most general types; this project's profile:
-- the order of choices, and the limit of live ones.)
use Rattle.std.specs.Prelude.{◌≡◌, ℕ, ◌<◌, List, [], ◌∷◌, length, slice_index_or, ◌⊎◌}
use Rattle.mc_types.specs.Shapes.{Shape}
use Rattle.mc_types.specs.declared.signature.Signature.{Signature}
use Rattle.mc_types.specs.declared.steps.Step.{Step}
use Rattle.mc_types.specs.declared.outcome.Outcome.{Outcome}
use Rattle.mc_types.specs.declared.outcome.Outcome.TheVariants.{None, One, Two, TooMany}
use Rattle.mc_types.specs.declared.written_types.Written.{Written}
use Rattle.mc_types.specs.Typed.{Typed, LiveAt}
use Rattle.mc_types.specs.Writing.{written}

-- the first difference is to an earlier candidate
abbrev pub Earlier : List ℕ → List ℕ → Type 0
Earlier (a ∷ as') (b ∷ bs) = (a < b) ⊎ ((a ≡ b) × Earlier as' bs)
Earlier _ _ = ⊥

module _ (signatures : List Signature) (steps : List Step) where
  -- choices for all steps, which type them
  abbrev pub Resolves : List ℕ → Type 0
  Resolves cs = LiveAt signatures steps (length steps) cs

  -- at some moment there are more live choices than the limit
  pub record Exceeds (limit : ℕ) : Type 0 where
    pub moment : ℕ
    pub live : List (List ℕ)
    pub many : limit < length live
    pub distinct :
        (i j : ℕ)
        → i < j → j < length live → slice_index_or live i [] ≡ slice_index_or live j [] → ⊥
    pub all_live :
        (i : ℕ) → i < length live → LiveAt signatures steps moment (slice_index_or live i [])

  -- The types of the first places: each way in which the choices type the steps gives them types for
  -- their free places, and each types for these come of such a way.
  pub record MostGeneral (vars : ℕ) (cs : List ℕ) (types : List Written) : Type 0 where
    pub as_many : length types ≡ vars
    pub general :
        (θ : ℕ → Shape)
        → Typed θ signatures steps cs
        → (σ : ℕ → Shape)
        × ((i : ℕ) (d : Written) → i < vars → θ i ≡ written σ (slice_index_or types i d))
    pub typed :
        (σ : ℕ → Shape)
        → (θ : ℕ → Shape)
        × Typed θ signatures steps cs
        × ((i : ℕ) (d : Written) → i < vars → θ i ≡ written σ (slice_index_or types i d))

  -- None: no choices type the steps. One: these alone do, with these most general types of the first
  -- places. Two: these are the first two that do. In none of these cases is the limit passed.
  -- TooMany: it is.
  abbrev pub OutcomeSays : (vars limit : ℕ) → Outcome → Type 0
  OutcomeSays vars limit None = ((cs : List ℕ) → Resolves cs → ⊥) × (Exceeds limit → ⊥)
  OutcomeSays vars limit (One v types) =
      Resolves v.items
      × ((cs : List ℕ) → Resolves cs → cs ≡ v.items)
      × MostGeneral vars v.items types.items
      × (Exceeds limit → ⊥)
  OutcomeSays vars limit (Two v w) =
      Resolves v.items
      × Resolves w.items
      × Earlier v.items w.items
      × ((cs : List ℕ)
      → Resolves cs → (cs ≡ v.items) ⊎ ((cs ≡ w.items) ⊎ Earlier w.items cs))
      × (Exceeds limit → ⊥)
  OutcomeSays vars limit TooMany = Exceeds limit
