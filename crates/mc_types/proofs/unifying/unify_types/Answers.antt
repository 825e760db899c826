use Rattle.std.proofs.Common.{◌∙◌, arith}
use Rattle.mc_types.proofs.Noted.{restored}
use Rattle.mc_types.proofs.Linked.{system_after, unifies_yes, unifies_no}
use Rattle.mc_types.proofs.unifying.unify_types.Goals as goal

pub returns-in-Ok-true-clause-system : goal.returns-in-Ok-true-clause-system
returns-in-Ok-true-clause-system c = system_after c.args.vars _ _ c.requires.system _ _ (rw c.in-Ok-true.field-0-test at c.in-Ok-true.ensures.answer)

pub returns-in-Ok-true-clause-answer : goal.returns-in-Ok-true-clause-answer
returns-in-Ok-true-clause-answer c = unifies_yes c.args.vars _ _ c.requires.system _ _ (rw c.in-Ok-true.field-0-test at c.in-Ok-true.ensures.answer)

pub returns-in-Ok-false-clause-answer : goal.returns-in-Ok-false-clause-answer
returns-in-Ok-false-clause-answer c =
    let r = restored _ _ _ _ c.len-cells.result c.len-changes.result (omega (arith, c.len-cells.ensures)) (omega (arith, c.len-changes.ensures)) c.link_types.ensures.grown in
    unifies_no c.args.vars _ _ c.requires.system c.link_types.new.g.cells.items _ _ (rw c.in-Ok-false.field-0-test at c.in-Ok-false.ensures.answer) (c.restore.ensures.cells ∙ r.0)
