use Rattle.std.proofs.Common.{◌∙◌}
use Rattle.mc_insts.proofs.chains.follow_all.Goals as goal

pub loop-k-preserved : goal.loop-k-preserved
loop-k-preserved c = record {
  all = c.in_ok-follow.ensures.all;
  count = c.in_ok-follow.ensures.length ∙ c.loop-k.invariant.count;
  are = λ ds first h. c.in_ok-follow.ensures.are ds first (c.loop-k.invariant.are ds first h);
}
