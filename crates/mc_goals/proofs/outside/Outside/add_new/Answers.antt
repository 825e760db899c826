use Rattle.std.proofs.Common.{sym, ◌∙◌}
use Rattle.mc_goals.specs.code.Outside.{count}
use Rattle.mc_goals.proofs.OutsideCounts.{none_added}
use Rattle.mc_goals.proofs.outside.Outside.add_new.Goals as goal

pub returns-then-has-clause-counts : goal.returns-then-has-clause-counts
returns-then-has-clause-counts c = none_added (count c.args.self.now) c.args.variable (sym c.has.ensures ∙ c.if-has.true)
