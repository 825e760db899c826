-- What is asked of flat code that is run over a program: that its goals name what the program has.
use Rattle.std.specs.Prelude.{◌<◌, ℕ, length, All}
use Rattle.mc_program.specs.Values.{plain_value}
use Rattle.mc_program.specs.declared.program.Program.{Program}
use Rattle.mc_model.specs.Builtins.{Library}
use Rattle.mc_model.specs.Worlds.{library_of}
use Rattle.mc_plain.specs.Values.{IsConstant, IsProper, ListsAreNamed, ResultsAreNamed}
use Rattle.mc_flat_code.specs.declared.code.Instr.{Instr}
use Rattle.mc_flat_code.specs.declared.code.Instr.TheVariants as I
use Rattle.mc_flat_code.specs.declared.code.Code.{Code}

-- the symbols that a goal makes are among so many: that of a constructor, and those of what a builtin
-- gives
abbrev pub IsNamed : (count : ℕ) → Library → Instr → Type 0
IsNamed n L (I.Made x f ys next) = f < n
IsNamed n L (I.Apply op xs ys next) = ListsAreNamed n L op × ResultsAreNamed n L op
IsNamed n L _ = Unit {0}

-- the program has each symbol that the code's goals make, and each value of the code is a constant
pub record NamesAll (P : Program) (code : Code) : Type 0 where
  pub symbols : All (IsNamed (length P.symbols) (library_of P)) code.instrs.items
  pub constants : All (λ v. IsConstant (plain_value v)) code.values.items
  pub proper : All (λ v. IsProper (plain_value v)) code.values.items
