use Rattle.std.specs.Option.{option_copied}
use Rattle.mc_compile.specs.Sources.{sources_of}
use Rattle.mc_compile.specs.Phases.{Viewed}
use Rattle.mc_compile.specs.Reading.{plain_read}
use Rattle.mc_compile.specs.Linking.{Links, plain_named}
use Rattle.mc_compile.specs.Ruling.{plain_executable}
use Rattle.mc_compile.specs.Compiling.{FromTypes}
use Rattle.mc_compile.proofs.Chains.{stops, goes_on_by}
use Rattle.mc_compile.proofs.compiling.linked.Goals as goal

pub returns-in-Ok : goal.returns-in-Ok
returns-in-Ok c = λ files.
    let s = sources_of files (option_copied c.args.query) c.args.want_main in
    goes_on_by Links (FromTypes s) plain_named (Viewed plain_executable) (plain_read c.args.read) c.in-Ok.named c.typed.result (c.in-Ok.ensures {u = tt}) (c.typed.ensures files)

pub returns-in-Err : goal.returns-in-Err
returns-in-Err c = λ files.
    let s = sources_of files (option_copied c.args.query) c.args.want_main in
    stops Links (FromTypes s) (Viewed plain_named) (Viewed plain_executable) (plain_read c.args.read) c.in-Err.fault (c.in-Err.ensures {u = tt})
