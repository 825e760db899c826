use Rattle.mc_compile.proofs.Types.{has_types, has_faults}
use Rattle.mc_compile.proofs.typed.Typed.of.Goals as goal

pub returns-in-Ok : goal.returns-in-Ok
returns-in-Ok c =
    let answer = c.in-Ok.ensures {u = tt} in
    has_types c.args.named c.in-Ok.types answer.table answer.legal

pub returns-in-Err-Broken : goal.returns-in-Err-Broken
returns-in-Err-Broken c =
    let refusal = rw c.in-Err-Broken.field-0-is at c.in-Err-Broken.ensures.refusal in
    has_faults c.args.named c.in-Err-Broken.broken refusal.0 refusal.1
