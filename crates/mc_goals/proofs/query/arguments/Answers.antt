use Rattle.std.proofs.Common.{rules}
use Rattle.std.proofs.lemmas.Grind.{common_steps}
use borrow.Author.Tests.{tests}
use borrow.Author.Rules.{get_or_read}
use Rattle.mc_program.specs.declared.expr.Expr.{the_lemmas}
use Rattle.mc_goals.proofs.query.arguments.Goals as goal

pub loop-number-preserved : goal.loop-number-preserved
loop-number-preserved c = search (tests, rules, the_lemmas, get_or_read, c.well_formed, c.loop-number.invariant, common_steps)
