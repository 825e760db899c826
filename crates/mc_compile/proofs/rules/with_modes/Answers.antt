use Rattle.std.proofs.Common.{refl, sym}
use Rattle.std.specs.Option.{option_copied}
use Rattle.mc_compile.specs.declared.moded.Moded.{Moded}
use Rattle.mc_compile.specs.Phases.{Viewed}
use Rattle.mc_compile.specs.Sources.{sources_of}
use Rattle.mc_compile.specs.Ruling.{Modes, Procedures, plain_executable}
use Rattle.mc_compile.proofs.Chains.{stops, goes_on_by}
use Rattle.mc_compile.proofs.rules.with_modes.Goals as goal

pub executable-requires-clause-goals : goal.executable-requires-clause-goals
executable-requires-clause-goals c = (c.in-Ok.ensures {u = tt}).goals

pub executable-requires-clause-defs : goal.executable-requires-clause-defs
executable-requires-clause-defs c = (c.in-Ok.ensures {u = tt}).defs

pub returns-in-Ok : goal.returns-in-Ok
returns-in-Ok c = λ files plain shows.
    let s = sources_of files (option_copied c.args.query) c.args.want_main in
    goes_on_by (Modes s) (Procedures s) (λ (m : Moded). m) (Viewed plain_executable) plain c.in-Ok.moded c.executable.result
    ((c.in-Ok.ensures {u = tt}).tells s plain (sym c.is_first.ensures) shows) (c.executable.ensures s refl)

pub returns-in-Err : goal.returns-in-Err
returns-in-Err c = λ files plain shows.
    let s = sources_of files (option_copied c.args.query) c.args.want_main in
    stops (Modes s) (Procedures s) (Viewed (λ (m : Moded). m)) (Viewed plain_executable) plain c.in-Err.fault ((c.in-Err.ensures {u = tt}).tells s plain (sym c.is_first.ensures) shows)
