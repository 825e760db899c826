use Rattle.std.proofs.Common.{subst}
use Rattle.std.specs.Option.{option_copied}
use Rattle.mc_compile.specs.Phases.{Tells, Then, Viewed}
use Rattle.mc_compile.specs.Sources.{sources_of}
use Rattle.mc_compile.specs.Typing.{PlainTyped}
use Rattle.mc_compile.specs.Ruling.{Insts, Modes, Procedures, plain_executable}
use Rattle.mc_compile.proofs.Chains.{stops, goes_on}
use Rattle.mc_compile.proofs.rules.rules.Goals as goal

pub returns-in-Ok : goal.returns-in-Ok
returns-in-Ok c = λ files plain shows.
    let s = sources_of files (option_copied c.args.query) c.args.want_main in
    let told = c.in-Ok.ensures {u = tt} plain shows.typed in
    goes_on Insts (Then (Modes s) (Procedures s)) (Viewed plain_executable) plain told.0 c.with_modes.result told.2
    (subst (λ (b : PlainTyped). Tells (Then (Modes s) (Procedures s)) (Viewed plain_executable) b c.with_modes.result) told.1 (c.with_modes.ensures files plain shows))

pub returns-in-Err : goal.returns-in-Err
returns-in-Err c = λ files plain shows.
    let s = sources_of files (option_copied c.args.query) c.args.want_main in
    stops Insts (Then (Modes s) (Procedures s)) (Viewed (λ (x : PlainTyped). x)) (Viewed plain_executable) plain c.in-Err.fault (c.in-Err.ensures {u = tt} plain shows.typed)
