use Rattle.std.proofs.Common.{Result, Ok, subst}
use Rattle.std.specs.Option.{option_copied}
use Rattle.mc_command_line.specs.Plain.{plain_command}
use Rattle.mc_compile.specs.declared.executable.Executable.{Executable}
use Rattle.mc_compile.specs.declared.given.CompileFault.{CompileFault}
use Rattle.mc_compile.specs.Phases.{Tells, Viewed}
use Rattle.mc_compile.specs.Sources.{Sources, texts_of}
use Rattle.mc_compile.specs.Sources.{sources_of as given_sources}
use Rattle.mc_compile.specs.Ruling.{plain_executable}
use Rattle.mc_compile.specs.Compiling.{Compiles}
use Rattle.mc_cmd.proofs.Understanding.{same_sources, understood_ok}
use Rattle.mc_cmd.proofs.decide.compiled.Goals as goal

pub returns-in-Ok-compile : goal.returns-in-Ok-compile
returns-in-Ok-compile c =
    let m = plain_command c.args.command.now in
    let files = c.args.sources in
    let query = option_copied c.as_ref.result in
    let q = c.in-Ok.ensures {u = tt} in
    let there = subst (λ (r : Result Executable CompileFault). Tells Compiles (Viewed plain_executable) (given_sources files query c.is_run.result) r) c.in-Ok-compile.is c.compile.ensures in
    let same = same_sources m files c.in-Ok.query query c.is_run.result c.as_ref.ensures.value q.text q.first c.is_run.ensures in
    understood_ok m (texts_of files) there.0 c.in-Ok-compile.executable c.asked.result (subst (λ (s : Sources). Compiles s (Ok there.0)) same there.2) there.1 c.asked.ensures
