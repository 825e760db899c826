-- Types that stand for type variables.
use Rattle.std.specs.Prelude.{◌≡◌, ◌↔◌, ℕ, Bool, true, false, nat_eq, List, [], ◌∷◌, Option, Some, None, if◌then◌else◌}
use Rattle.mc_program.specs.Programs.{TypeTerm}
use Rattle.mc_program.specs.PlainPrograms.{plain_type}
use Rattle.mc_self_check.specs.declared.matching.Binding.{Binding}

-- the first type for a variable
abbrev pub bound_to : List Binding → ℕ → Option TypeTerm
bound_to [] v = None
bound_to (b ∷ bs) v = if nat_eq b.variable v then Some (plain_type b.t) else bound_to bs v

abbrev pub Agrees : (ℕ → TypeTerm) → List Binding → Type 0
Agrees σ bs = (v : ℕ) (t : TypeTerm) → bound_to bs v ≡ Some t → σ v ≡ t

-- Whether a fact of a substitution holds where it agrees: after a match exactly the substitutions
-- agree that agreed before and of which the fact holds; there is none where there was no match.
abbrev pub Matched : Bool → (old new : List Binding) → ((ℕ → TypeTerm) → Type 0) → Type 0
Matched true old new Q = (σ : ℕ → TypeTerm) → Agrees σ new ↔ (Agrees σ old × Q σ)
Matched false old new Q = (σ : ℕ → TypeTerm) → Agrees σ old → Q σ → ⊥
