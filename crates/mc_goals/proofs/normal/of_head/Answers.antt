use Rattle.std.proofs.Common.{rules}
use Rattle.std.proofs.lemmas.Grind.{common_steps}
use borrow.Author.Tests.{tests}
use borrow.Author.Rules.{get_or_read}
use Rattle.mc_program.specs.declared.ty.Ty.{the_lemmas}
use Rattle.mc_goals.proofs.normal.of_head.Goals as goal

pub loop-ty-preserved : goal.loop-ty-preserved
loop-ty-preserved c = search (tests, rules, the_lemmas, get_or_read, c.well_formed, c.loop-ty.invariant, common_steps)
