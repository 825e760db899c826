use Rattle.std.proofs.Common.{◌≡◌, take, length}
use Rattle.mc_command_line.specs.Plain.{plain_texts}
use Rattle.mc_compile.specs.Sources.{texts_of}
use Rattle.mc_cmd.specs.code.Decisions.{given_names}
use Rattle.mc_cmd.proofs.InTurn.{AreHeld}
use Rattle.mc_cmd.proofs.decide.read_files.Given as goal

abbrev pub invariant-loop-name : goal.invariant-loop-name
invariant-loop-name g l =
    record {
      named : given_names l.sources ≡ plain_texts (take l.name-index l.names);
      read : AreHeld (g.F.Files.held l.initial.files) (plain_texts (take l.name-index l.names)) (texts_of l.sources);
      held : g.F.Files.held l.files ≡ g.F.Files.held l.initial.files;
      faults : g.F.Files.faults l.files ≡ g.F.Files.faults l.initial.files;
      absents : g.F.Files.absents l.files ≡ g.F.Files.absents l.initial.files;
      many : length l.sources ≡ l.name-index;
    }
