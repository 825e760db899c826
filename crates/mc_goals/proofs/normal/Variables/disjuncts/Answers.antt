use Rattle.std.proofs.Common.{rules}
use Rattle.std.proofs.lemmas.Grind.{common_steps}
use borrow.Author.Tests.{tests}
use borrow.Author.Rules.{get_or_read}
use Rattle.mc_program.specs.declared.program.Goal.{the_lemmas}
use Rattle.mc_goals.proofs.normal.Variables.disjuncts.Goals as goal

pub loop-clause-preserved : goal.loop-clause-preserved
loop-clause-preserved c = search (tests, rules, the_lemmas, get_or_read, c.well_formed, c.loop-clause.invariant, common_steps)
