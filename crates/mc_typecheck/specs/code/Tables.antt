-- Which candidates a table offers.
use Rattle.std.specs.Prelude.{◌≡◌, ℕ, Bool, true, false, nat_eq, Option, Some, None, not, ◌&&◌, List, [], ◌∷◌, length, if◌then◌else◌}
use Rattle.mc_source.specs.declared.name.Candidate.{Candidate}
use Rattle.mc_program.specs.Programs.{Source}
use Rattle.mc_accepted.specs.ProperTypes.{Parameters}
use Rattle.mc_accepted.specs.Resolving.{signature}
use Rattle.mc_typecheck.specs.Ties.{Meaning, of_name, Declared, declared, is_among, names_atom, names_term, offered}
use Rattle.mc_typecheck.specs.Searched.{PlainStep}
use Rattle.mc_typecheck.specs.Walked.{entry}
use Rattle.mc_typecheck.specs.declared.table.Signatures.{Signatures}

-- those of an atom, or of a term
abbrev pub passes_as : (of_atom : Bool) → Candidate → Bool
passes_as true = names_atom
passes_as false = names_term

-- a step with one meaning, where that has as many types as there are places
abbrev pub only_step : Declared → (places : List ℕ) → PlainStep
only_step d places =
    record {
      candidates =
          if nat_eq (length d.types) (length places) then Some d ∷ [] else [];
      places = places;
    }

abbrev pub listed : Option ℕ → List ℕ
listed None = []
listed (Some k) = k ∷ []

-- the meaning that a candidate is, where it is offered behind those that were met
abbrev pub offer :
    (P : Source) (D : Parameters) (passes : Candidate → Bool) (count : ℕ)
    → (met : List Candidate) → Candidate → List Meaning
offer P D passes n met c =
    if passes c && (nat_eq (length (signature P D c)) n && not (is_among c met))
    then of_name c ∷ []
    else []

-- a candidate is the only one that is offered, and stands there
pub record IsSole
    (P : Source) (D : Parameters) (t : Signatures) (passes : Candidate → Bool) (count : ℕ)
    (candidates : List Candidate) (only : Candidate) (place : ℕ)
    : Type 0 where
  pub sole : offered P D passes count [] candidates ≡ of_name only ∷ []
  pub entry : entry t place ≡ Some (declared P D (of_name only))
