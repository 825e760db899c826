-- What is asked of a program before its insts are made.
use Rattle.mc_program.specs.PlainPrograms.{plain_program}
use Rattle.mc_program.specs.declared.program.Program.{Program}
use Rattle.mc_accepted.specs.Fits.{FitsTypes}
use Rattle.mc_insts.specs.Programs.{FitsConstructors}
use Rattle.mc_self_check.specs.HasLibrary.{HasLibrary}
use Rattle.mc_procs.specs.Procedures.{parameters_in}

-- a program's types and its constructors fit, and it has the library
abbrev pub ProgramIsFit : Program → Type 0
ProgramIsFit P =
    FitsTypes (plain_program P) (parameters_in P) × FitsConstructors (plain_program P) × HasLibrary P
