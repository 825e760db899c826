use Rattle.std.specs.Option.{option_copied}
use Rattle.mc_compile.specs.Sources.{sources_of}
use Rattle.mc_compile.specs.Phases.{Viewed}
use Rattle.mc_compile.specs.Linking.{plain_named}
use Rattle.mc_compile.specs.Typing.{Types, plain_typed}
use Rattle.mc_compile.specs.Ruling.{plain_executable}
use Rattle.mc_compile.specs.Compiling.{FromClauses}
use Rattle.mc_compile.proofs.Chains.{stops, goes_on_by}
use Rattle.mc_compile.proofs.compiling.typed.Goals as goal

pub returns-in-Ok : goal.returns-in-Ok
returns-in-Ok c = λ files.
    let s = sources_of files (option_copied c.args.query) c.args.want_main in
    goes_on_by Types (FromClauses s) plain_typed (Viewed plain_executable) (plain_named c.args.named) c.in-Ok.typed c.checked.result (c.in-Ok.ensures {u = tt}) (c.checked.ensures files)

pub returns-in-Err : goal.returns-in-Err
returns-in-Err c = λ files.
    let s = sources_of files (option_copied c.args.query) c.args.want_main in
    stops Types (FromClauses s) (Viewed plain_typed) (Viewed plain_executable) (plain_named c.args.named) c.in-Err.fault (c.in-Err.ensures {u = tt})
