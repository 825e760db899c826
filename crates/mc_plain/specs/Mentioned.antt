-- Code is named where the program has what it mentions: so is code that is made of procedures whose
-- program has what they mention.
use Rattle.std.specs.Prelude.{◌<◌, List, length}
use Rattle.mc_program.specs.declared.program.Program.{Program}
use Rattle.mc_model.specs.Scheduled.{Procedure}
use Rattle.mc_model.specs.Worlds.{library_of}
use Rattle.mc_plain.specs.Values.{IsConstant, IsProper, ListsAreNamed, ResultsAreNamed}
use Rattle.mc_flat_code.specs.Mentions.{Mention, of_symbol, of_constant, of_builtin, CodeMentions, BodiesMention}
use Rattle.mc_flat_code.specs.declared.code.Code.{Code}
use Rattle.mc_plain.specs.Names.{NamesAll}

-- the program has what is mentioned: a symbol; a constant that is a proper one; of a builtin the
-- symbols of what it gives
abbrev pub Has : Program → Mention → Type 0
Has P (of_symbol f) = f < length P.symbols
Has P (of_constant v) = IsConstant v × IsProper v
Has P (of_builtin op) =
    ListsAreNamed (length P.symbols) (library_of P) op
    × ResultsAreNamed (length P.symbols) (library_of P) op

abbrev pub CodeIsNamed : Type 0
CodeIsNamed =
    (P : Program) (code : Code) → ((m : Mention) → CodeMentions code m → Has P m) → NamesAll P code

abbrev pub ProceduresAreNamed : Type 0
ProceduresAreNamed =
    (P : Program) (code : Code) (procs : List Procedure) →
    ((m : Mention) → CodeMentions code m → BodiesMention procs m) →
    ((m : Mention) → BodiesMention procs m → Has P m) → NamesAll P code
