use Rattle.std.proofs.Common.{sym, ◌∙◌}
use Rattle.mc_tokens.proofs.quoting.open_quote.Goals as goal

pub loop-i-preserved : goal.loop-i-preserved
loop-i-preserved c =
    let stepped = rw c.in-Ok-On.field-0-is at c.in-Ok-On.ensures in
    (stepped.within.1, λ start. sym (stepped.value start) ∙ c.loop-i.invariant.1 start)
