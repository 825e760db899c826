use Rattle.mc_compile.proofs.Clauses.{are_typed, are_faulty}
use Rattle.mc_compile.proofs.Lists.{none_counted, some_counted}
use Rattle.mc_compile.proofs.checked.Checked.of.Goals as goal

pub returns-then-is_empty : goal.returns-then-is_empty
returns-then-is_empty c =
    let made = c.in_ok-named in
    let broken = made.judged.broken in
    are_typed c.args.typed made.judged made.ensures.judged made.named made.ensures.named (none_counted broken.items broken.len broken.ok.0 c.if-is_empty.ensures)

pub returns : goal.returns
returns c =
    let made = c.in_ok-named in
    let broken = made.judged.broken in
    are_faulty c.args.typed made.judged made.ensures.judged c.in_ok-of.field-0 c.in_ok-of.ensures.elements (some_counted broken.items broken.len broken.ok.0 c.if-is_empty.ensures)
