-- What the search over the steps of a walk says of the clause: the laws between the two. (Mercury
-- Language Reference Manual: Types, overloading; this project's profile.)
use Rattle.std.specs.Prelude.{◌≡◌, ◌↔◌, ℕ, ◌+◌, List, [], take}
use Rattle.mc_program.specs.Programs.{Source}
use Rattle.mc_accepted.specs.ProperTypes.{Parameters}
use Rattle.mc_accepted.specs.Resolving.{Step as WalkStep, Live, TooMany, steps_of, Unresolved_clause, WellTyped, FirstTwo, Resolves as ClauseResolves}
use Rattle.mc_source.specs.declared.name.Candidate.{Candidate}
use Rattle.mc_types.specs.declared.signature.Signature.{Signature}
use Rattle.mc_types.specs.declared.steps.Step.{Step}
use Rattle.mc_types.specs.declared.outcome.Outcome.{Outcome}
use Rattle.mc_types.specs.declared.outcome.Outcome.TheVariants as O
use Rattle.mc_types.specs.declared.written_types.Written.{Written}
use Rattle.mc_types.specs.Typed.{LiveAt, AllProper}
use Rattle.mc_types.specs.Resolved.{OutcomeSays}
use Rattle.mc_typecheck.specs.Ties.{tied, ties_in, made_by, picks_of}
use Rattle.mc_typecheck.specs.Searched.{AreTies, VariablesBelow}
use Rattle.mc_typecheck.specs.WrittenTypes.{AreTypes}

-- The live assignments of a moment are the picks of the choices that are live once its ties have been
-- walked.
abbrev pub WalkMeans : Type 0
WalkMeans =
    (P : Source) (D : Parameters) (signatures : List Signature) (walk : List WalkStep)
    (steps : List Step) (vars : ℕ)
    → VariablesBelow vars walk
    → AreTies P D signatures steps (tied P D walk vars [])
    → (moment : ℕ) (picks : List Candidate)
    → Live P D (take moment walk) picks
    ↔ ((choices : List ℕ)
    × LiveAt signatures steps (ties_in (take moment walk)) choices
    × (picks ≡ picks_of (tied P D walk vars []) choices))

-- the steps are such as the search takes
abbrev pub WalkIsProper : Type 0
WalkIsProper =
    (P : Source) (D : Parameters) (signatures : List Signature) (walk : List WalkStep)
    (steps : List Step) (vars places : ℕ)
    → VariablesBelow vars walk
    → AreTies P D signatures steps (tied P D walk vars [])
    → places ≡ vars + made_by walk
    → AllProper signatures places steps

module _ (P : Source) (D : Parameters) (clause : Unresolved_clause) where
  -- These picks alone type the clause, with these most general types of its variables and its
  -- occurrences, and nowhere are more assignments live than the limit.
  abbrev pub IsOnly : (limit vars : ℕ) → (picks : List Candidate) → List Written → Type 0
  IsOnly limit vars picks types =
      (w : WellTyped P D clause)
      × (w.picks ≡ picks)
      × AreTypes P D (steps_of clause) vars w.picks types
      × (TooMany P D limit clause → ⊥)

  -- No resolution types the clause, these picks alone do, with these most general types of its
  -- variables and its occurrences, or these two are the first; and nowhere are more assignments live
  -- than the limit. Or somewhere more are.
  abbrev pub ClauseSays : (limit vars : ℕ) → Outcome → Type 0
  ClauseSays limit vars O.None =
      ((picks : List Candidate) → ClauseResolves P D clause picks → ⊥)
      × (TooMany P D limit clause → ⊥)
  ClauseSays limit vars (O.One v types) =
      IsOnly limit vars (picks_of (tied P D (steps_of clause) vars []) v.items) types.items
  ClauseSays limit vars (O.Two v w) =
      FirstTwo P D clause (picks_of (tied P D (steps_of clause) vars []) v.items)
      (picks_of (tied P D (steps_of clause) vars []) w.items)
      × (TooMany P D limit clause → ⊥)
  ClauseSays limit vars O.TooMany = TooMany P D limit clause

-- what the search answers of a clause's steps, the clause's definitions say of the clause
abbrev pub SearchDecides : Type 0
SearchDecides =
    (P : Source) (D : Parameters) (signatures : List Signature) (clause : Unresolved_clause)
    (steps : List Step) (vars limit : ℕ) (outcome : Outcome)
    → VariablesBelow vars (steps_of clause)
    → AreTies P D signatures steps (tied P D (steps_of clause) vars [])
    → OutcomeSays signatures steps (vars + made_by (steps_of clause)) limit outcome
    → ClauseSays P D clause limit vars outcome
