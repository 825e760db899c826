use Rattle.std.proofs.Common.{map, sym, ap, ◌∙◌}
use Rattle.std.specs.Prelude.{string_bytes, option_map}
use Rattle.mc_command_line.specs.Plain.{plain_command, plain_texts}
use Rattle.mc_compile.specs.Sources.{texts_of}
use Rattle.mc_cmd.proofs.Commands.{few_names}
use Rattle.mc_cmd.proofs.Calls.{decided_of_texts}
use Rattle.mc_cmd.proofs.decide.decide.Goals as goal

pub read_files-requires : goal.read_files-requires
read_files-requires g c =
    few_names (map string_bytes c.args.words.now.items) (plain_command c.in-Ok-Some.command) c.files_of.result.now (sym (c.in-Ok-Some.ensures {u = tt}) ∙ ap (option_map plain_command) c.in-Ok-Some.field-0-is) c.files_of.ensures

pub returns-in-Ok-clause-decided : goal.returns-in-Ok-clause-decided
returns-in-Ok-clause-decided g c =
    decided_of_texts (map string_bytes c.args.words.now.items) (g.F.Files.held c.args.files.now) (plain_command c.in-Ok-Some.command) (plain_texts c.files_of.result.now) (texts_of c.in-Ok.sources) c.compiled.result
    (sym (c.in-Ok-Some.ensures {u = tt}) ∙ ap (option_map plain_command) c.in-Ok-Some.field-0-is) c.files_of.ensures (c.in-Ok.ensures {u = tt}).read c.compiled.ensures
