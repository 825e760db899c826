use Rattle.std.proofs.Common.{subst, arith}
use Rattle.mc_source.specs.declared.rule.Rule.TheVariants as R
use Rattle.mc_terms.specs.Answers.{IsOver}
use Rattle.mc_items.specs.Queries.{empty}
use Rattle.mc_items.specs.Words as W
use Rattle.mc_items.proofs.NoGoal.{no_goal}
use Rattle.mc_items.proofs.query.read_query.Goals as goal

pub returns-in-Ok-None-clause-refusal : goal.returns-in-Ok-None-clause-refusal
returns-in-Ok-None-clause-refusal c =
    let over = subst (λ text. IsOver text 0) c.new-walk.ensures (rw c.in-Ok-None.field-0-is at c.in-Ok-None.ensures.over) in
    no_goal c.args.file 1 c.args.text.now W.not_a_term R.S5 c.no_term.result (omega (arith, c.if-text-gt-GREATEST_TEXT.false)) (empty over) c.no_term.ensures
