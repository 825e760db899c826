use Rattle.std.specs.Option.{option_copied}
use Rattle.mc_compile.specs.Sources.{sources_of}
use Rattle.mc_compile.specs.Phases.{Viewed}
use Rattle.mc_compile.specs.Reading.{Reads, plain_read}
use Rattle.mc_compile.specs.Ruling.{plain_executable}
use Rattle.mc_compile.specs.Compiling.{FromLinking}
use Rattle.mc_compile.proofs.Chains.{stops, goes_on_by}
use Rattle.mc_compile.proofs.compiling.compile.Goals as goal

pub returns-in-Ok : goal.returns-in-Ok
returns-in-Ok c =
    let s = sources_of c.args.files.now (option_copied c.args.query) c.args.want_main in
    goes_on_by Reads (FromLinking s) plain_read (Viewed plain_executable) s c.in-Ok.read c.linked.result (c.in-Ok.ensures {u = tt} c.args.want_main) (c.linked.ensures c.args.files.now)

pub returns-in-Err : goal.returns-in-Err
returns-in-Err c =
    let s = sources_of c.args.files.now (option_copied c.args.query) c.args.want_main in
    stops Reads (FromLinking s) (Viewed plain_read) (Viewed plain_executable) s c.in-Err.fault (c.in-Err.ensures {u = tt} c.args.want_main)
