use Rattle.std.specs.Option.{option_copied}
use Rattle.mc_compile.specs.Sources.{sources_of}
use Rattle.mc_compile.specs.Phases.{Viewed}
use Rattle.mc_compile.specs.Typing.{plain_typed}
use Rattle.mc_compile.specs.Checking.{Clauses, Shows}
use Rattle.mc_compile.specs.Ruling.{Rules, plain_executable}
use Rattle.mc_compile.proofs.Chains.{stops, goes_on}
use Rattle.mc_compile.proofs.compiling.checked.Goals as goal

pub returns-in-Ok : goal.returns-in-Ok
returns-in-Ok c = λ files.
    let s = sources_of files (option_copied c.args.query) c.args.want_main in
    let told = c.in-Ok.ensures {u = tt} in
    goes_on Clauses (Rules s) (Viewed plain_executable) (plain_typed c.args.typed) told.0 c.rules.result told.2 (c.rules.ensures files told.0 told.1)

pub returns-in-Err : goal.returns-in-Err
returns-in-Err c = λ files.
    let s = sources_of files (option_copied c.args.query) c.args.want_main in
    stops Clauses (Rules s) Shows (Viewed plain_executable) (plain_typed c.args.typed) c.in-Err.fault (c.in-Err.ensures {u = tt})
