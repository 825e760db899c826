-- Insts that hold `unique` and `dead` at io's state alone. (Mercury Language Reference Manual:
-- Modes, unique modes; this project's profile of uniqueness.)
use Rattle.std.specs.Prelude.{◌≡◌, ◌⊎◌, ℕ, ◌<◌, List, [], ◌∷◌, length, get_or}
use Rattle.mc_program.specs.Programs.{TypeTerm, state_type, variable_type, Source}
use Rattle.mc_model.specs.Types.{argument_types}
use Rattle.mc_model.specs.Insts.{unique, dead, Graph, AllowsSymbol}
use Rattle.mc_accepted.specs.Inclusion.{Path, OnTypes}

-- the inst at the type allows the path, which leads to this inst and this type
abbrev pub Leads : Source → Graph → Path → (to : ℕ) (at : TypeTerm) → ℕ → TypeTerm → Type 0
Leads P G [] j u i t = (i ≡ j) × (t ≡ u)
Leads P G ((s, k) ∷ path) j u i t =
    OnTypes (argument_types P s t)
    (λ ts.
    AllowsSymbol P (G i) i s
    (λ is.
    (k < length is) × Leads P G path j u (get_or is k 0) (get_or ts k (variable_type 0))))

-- `unique` and `dead` stand at io's state alone, at any depth. A type variable isn't io's state, nor
-- is what is below one, so a tidy inst is tidy at each instance of the type.
abbrev pub Tidy : Source → Graph → ℕ → TypeTerm → Type 0
Tidy P G i t =
    (path : Path) (j : ℕ) (u : TypeTerm)
    → Leads P G path j u i t → ((G j ≡ unique) ⊎ (G j ≡ dead)) → u ≡ state_type

abbrev pub EachTidy : Source → Graph → List ℕ → List TypeTerm → Type 0
EachTidy P G [] ts = Unit {0}
EachTidy P G (i ∷ is) [] = Unit {0}
EachTidy P G (i ∷ is) (t ∷ ts) = Tidy P G i t × EachTidy P G is ts

-- several insts at one type
abbrev pub EachIsTidy : Source → Graph → List ℕ → TypeTerm → Type 0
EachIsTidy P G [] t = Unit {0}
EachIsTidy P G (i ∷ is) t = Tidy P G i t × EachIsTidy P G is t
