-- One step along a path.
use Rattle.std.specs.Prelude.{ℕ, ◌<◌, length, get_or}
use Rattle.mc_program.specs.Programs.{TypeTerm, variable_type, Source}
use Rattle.mc_model.specs.Types.{argument_types}
use Rattle.mc_model.specs.Insts.{Graph, AllowsSymbol}
use Rattle.mc_accepted.specs.Inclusion.{OnTypes}

-- the inst allows the symbol at the type, and Z holds of the argument of that number and its type
abbrev pub Through : Source → Graph → (s k : ℕ) → (ℕ → TypeTerm → Type 0) → ℕ → TypeTerm → Type 0
Through P G s k Z i t = OnTypes (argument_types P s t) (λ ts. AllowsSymbol P (G i) i s (λ is. (k < length is) × Z (get_or is k 0) (get_or ts k (variable_type 0))))
