use Rattle.std.proofs.Common.{arith, ◌∷◌, [], ◌++◌, sym, ap, ◌∙◌}
use Rattle.mc_goals.proofs.Drops.{from_more}
use Rattle.mc_goals.proofs.shape.below.Goals as goal

pub loop-k-preserved : goal.loop-k-preserved
loop-k-preserved c = (c.in_ok-push.ensures {u = tt}).items ∙ ap (λ l. l ++ c.loop-k.k ∷ []) c.loop-k.invariant ∙ sym (from_more 0 c.loop-k.k c.loop-k.k (omega arith))
