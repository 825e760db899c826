-- A walk in which each step has one meaning alone, whose types are names without arguments: what is
-- then known of the types of the places. (This project's profile.)
use Rattle.std.specs.Prelude.{◌≡◌, ◌↔◌, ◌⊎◌, ℕ, List, [], ◌∷◌, ◌++◌, length, map, slice_index_or}
use Rattle.mc_program.specs.Programs.{TypeTerm, Source}
use Rattle.mc_accepted.specs.ProperTypes.{Parameters}
use Rattle.mc_accepted.specs.Resolving.{Step}
use Rattle.mc_source.specs.declared.name.Candidate.{Candidate}
use Rattle.mc_types.specs.declared.cells.TypeName.{TypeName}
use Rattle.mc_types.specs.Substitutions.{under}
use Rattle.mc_types.specs.declared.written_types.Written.{Written, Free, Named}
use Rattle.mc_typecheck.specs.Ties.{Meaning, of_equation, Declared, Tie, declared, pick_of}
use Rattle.mc_typecheck.specs.WrittenTypes.{type_written}
use Rattle.mc_typecheck.specs.Walked.{Stand, ShowsStep, after}
use Rattle.mc_typecheck.specs.declared.table.Signatures.{Signatures}
use Rattle.mc_typecheck.specs.declared.named.NamedWalk.{NamedWalk}

-- the types are those that are declared, with types for their own variables
abbrev pub Suits : List TypeTerm → Declared → Type 0
Suits types d = (σ : ℕ → TypeTerm) × (map (under d.vars σ) d.types ≡ types)

-- what is known of the type at a place
abbrev pub known : List Written → ℕ → Written
known types i = slice_index_or types i (Free i)

-- each place is free, or has a name
abbrev pub EachOwn : List Written → Type 0
EachOwn types =
    (i : ℕ) → (known types i ≡ Free i) ⊎ ((n : TypeName) × (known types i ≡ Named n))

-- places have these types
abbrev pub Solves : (ℕ → TypeTerm) → List Written → Type 0
Solves τ types = (i : ℕ) → τ i ≡ type_written τ (known types i)

abbrev pub first_meaning : Tie → Meaning
first_meaning t = slice_index_or t.meanings 0 of_equation

-- each of some ties has one meaning
abbrev pub EachSole : List Tie → Type 0
EachSole [] = Unit {0}
EachSole (t ∷ ties) = (length t.meanings ≡ 1) × EachSole ties

-- the candidates that these are
abbrev pub first_picks : List Tie → List Candidate
first_picks [] = []
first_picks (t ∷ ties) = pick_of (first_meaning t) ++ first_picks ties

module _ (P : Source) (D : Parameters) where
  -- and has the types of its places
  abbrev pub EachSuited : (ℕ → TypeTerm) → List Tie → Type 0
  EachSuited τ [] = Unit {0}
  EachSuited τ (t ∷ ties) =
      Suits (map τ t.places) (declared P D (first_meaning t)) × EachSuited τ ties

  -- the types of places that have those of these ties' only meanings
  pub record AreKnown (types : List Written) (ties : List Tie) : Type 0 where
    pub own : EachOwn types
    pub sole : EachSole ties
    pub means : (τ : ℕ → TypeTerm) → Solves τ types ↔ EachSuited τ ties

  -- the walk stands there
  pub record IsNamedAt (w : NamedWalk) (s : Stand) : Type 0 where
    pub next : length w.types.items ≡ s.next
    pub stack : w.stack.items ≡ s.stack
    pub picks : w.picks.items ≡ first_picks s.ties
    pub types : AreKnown w.types.items s.ties

-- From wherever a walk stood it has taken this step.
abbrev pub TakesNamed : Signatures → (before after : NamedWalk) → Step → Type 0
TakesNamed t w w' step =
    (P : Source) (D : Parameters) (s : Stand)
    → ShowsStep P D t step → IsNamedAt P D w s → IsNamedAt P D w' (after P D step s)
