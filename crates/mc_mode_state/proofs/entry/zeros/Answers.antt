use Rattle.std.proofs.Common.{◌∙◌, List, ℕ, get_or, ap, arith}
use Rattle.mc_mode_state.proofs.NewVariables.{count-pushed, zero-pushed}
use Rattle.mc_mode_state.proofs.entry.zeros.Goals as goal

pub loop-row-preserved : goal.loop-row-preserved
loop-row-preserved c = record {
  few = omega (arith, count-pushed c.loop-row.row.items c.push.new.self.items 0 c.in_ok-push.ensures.items);
  zeros = λ x. ap (λ (is : List ℕ). get_or is x 0) c.in_ok-push.ensures.items ∙ (zero-pushed c.loop-row.row.items x ∙ c.loop-row.invariant.zeros x);
}
