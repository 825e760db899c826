use Rattle.std.proofs.Common.{refl}
use Rattle.mc_compile.proofs.Links.{named_is, unlinked_is}
use Rattle.mc_compile.proofs.named.Named.of.Goals as goal

pub returns-in-Ok : goal.returns-in-Ok
returns-in-Ok c =
    let answer = c.in-Ok.ensures {u = tt} in
    named_is c.args.read c.in_ok-files.files (c.in_ok-files.ensures {u = tt})
    (record { files = c.in_ok-files.files; given = c.len-given.result; names = c.in-Ok.names; goal = c.args.read.goal })
    c.in-Ok.names c.len-given.result refl c.len-given.ensures answer.names answer.sound

pub returns-in-Err : goal.returns-in-Err
returns-in-Err c =
    let answer = c.in-Err.ensures {u = tt} in
    unlinked_is c.args.read c.in_ok-files.files (c.in_ok-files.ensures {u = tt}) c.in-Err.fault c.len-given.result c.len-given.ensures answer.refusal
