-- The types of a clause's variables and of the occurrences of its names, numbers and texts, as the
-- search writes them out. (Milner, A Theory of Type Polymorphism in Programming: most general types.)
use Rattle.std.specs.Prelude.{◌≡◌, ℕ, ◌+◌, ◌<◌, List, [], length, map, drop, slice_index_or}
use Rattle.mc_program.specs.Programs.{TypeTerm, variable_type, Source}
use Rattle.mc_accepted.specs.ProperTypes.{Parameters}
use Rattle.mc_accepted.specs.Resolving.{Step}
use Rattle.mc_source.specs.declared.name.Candidate.{Candidate}
use Rattle.mc_types.specs.Trees.{of_name, applied}
use Rattle.mc_types.specs.declared.written_types.Written.{Written, Free, Rigid, Named, App'}
use Rattle.laws_made_types.specs.Traced.{Traces}
use Rattle.mc_typecheck.specs.Ties.{made_by}

-- the type, with types for its free places
abbrev pub type_written : (ℕ → TypeTerm) → Written → TypeTerm
type_written σ (Free k) = σ k
type_written σ (Rigid k) = variable_type k
type_written σ (Named n) = of_name n
type_written σ (App' p f q x) = applied (type_written σ f) (type_written σ x)

-- The types of the variables and, behind them, of the occurrences, that any types with which the picks
-- type a walk come of, by types for the free places; and each choice of types for these gives such
-- types.
pub record AreTypes
    (P : Source) (D : Parameters) (walk : List Step) (vars : ℕ) (picks : List Candidate)
    (types : List Written)
    : Type 0 where
  pub as_many : length types ≡ vars + made_by walk
  pub general :
      (τ : ℕ → TypeTerm) (trace : List TypeTerm)
      → Traces P D τ walk [] picks trace
      → (σ : ℕ → TypeTerm)
      × ((v : ℕ) (d : Written) → v < vars → τ v ≡ type_written σ (slice_index_or types v d))
      × (trace ≡ map (type_written σ) (drop vars types))
  pub typed :
      (σ : ℕ → TypeTerm)
      → (τ : ℕ → TypeTerm)
      × Traces P D τ walk [] picks (map (type_written σ) (drop vars types))
      × ((v : ℕ) (d : Written) → v < vars → τ v ≡ type_written σ (slice_index_or types v d))
