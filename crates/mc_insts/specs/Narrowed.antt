-- Narrowing an inst to a constructor. (Mercury Language Reference Manual: Modes, insts.)
use Rattle.std.specs.Prelude.{◌≡◌, ℕ, List, Option, Some, None}
use Rattle.mc_program.specs.Programs.{Source}
use Rattle.mc_model.specs.Insts.{Graph, AllowsSymbol}

-- the insts of the constructor's arguments, or none exactly where the inst excludes it
abbrev pub Narrowed : Source → Graph → (i s : ℕ) → Option (List ℕ) → Type 0
Narrowed P G i s None = AllowsSymbol P (G i) i s (λ is. Unit {0}) → ⊥
Narrowed P G i s (Some row) = AllowsSymbol P (G i) i s (λ is. is ≡ row)
