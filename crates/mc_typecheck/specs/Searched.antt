-- When the steps that the search takes are those of a walk. (This project's profile.)
use Rattle.std.specs.Prelude.{◌≡◌, ℕ, ◌<◌, Option, Some, List, [], ◌∷◌, map, slice_get}
use Rattle.mc_program.specs.Programs.{Source}
use Rattle.mc_program.specs.PlainPrograms.{plain_type}
use Rattle.mc_accepted.specs.ProperTypes.{Parameters}
use Rattle.mc_accepted.specs.Resolving.{Step as WalkStep, push_variable}
use Rattle.mc_types.specs.declared.signature.Signature.{Signature}
use Rattle.mc_types.specs.declared.steps.Step.{Step}
use Rattle.mc_typecheck.specs.Ties.{Declared, Tie, declared}

-- a step, with the signatures that its candidates are the numbers of
pub record PlainStep : Type 0 where
  pub candidates : List (Option Declared)
  pub places : List ℕ

abbrev pub plain_signature : Signature → Declared
plain_signature s = record { vars = s.vars; types = map plain_type s.types.items }

abbrev pub plain_step : List Signature → Step → PlainStep
plain_step signatures s =
    record {
      candidates = map (λ k. slice_get (map plain_signature signatures) k) s.candidates.items;
      places = s.places.items;
    }

abbrev pub plain_tie : (P : Source) (D : Parameters) → Tie → PlainStep
plain_tie P D t =
    record { candidates = map (λ m. Some (declared P D m)) t.meanings; places = t.places }

-- the steps of a search are these
abbrev pub AreTies :
    (P : Source) (D : Parameters)
    → List Signature → (steps : List Step) → (ties : List Tie) → Type 0
AreTies P D signatures steps ties =
    map (plain_step signatures) steps ≡ map (plain_tie P D) ties

-- the variables of a walk are those below a number
abbrev pub VariablesBelow : ℕ → List WalkStep → Type 0
VariablesBelow n [] = Unit {0}
VariablesBelow n (push_variable v ∷ steps) = (v < n) × VariablesBelow n steps
VariablesBelow n (s ∷ steps) = VariablesBelow n steps
