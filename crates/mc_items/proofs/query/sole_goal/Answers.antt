use Rattle.std.proofs.Common.{◌∙◌, sym}
use Rattle.mc_source.specs.declared.rule.Rule.TheVariants as R
use Rattle.mc_items.specs.Words as W
use Rattle.mc_items.proofs.NoGoal.{no_goal, followed_by, refused_by}
use Rattle.mc_items.proofs.query.sole_goal.Goals as goal

pub returns-then-not-is_over-clause-refusal : goal.returns-then-not-is_over-clause-refusal
returns-then-not-is_over-clause-refusal c =
    let i = c.args.item in
    let why = followed_by c.args.walk.now i.term i.line i.end.at c.requires.read (c.is_over.ensures.no c.if-not-is_over.true) c.requires.line in
    no_goal c.args.file i.line c.args.walk.now W.not_a_term R.S5 c.no_term.result c.requires.short why c.no_term.ensures

pub returns-in-Some-clause-refusal : goal.returns-in-Some-clause-refusal
returns-in-Some-clause-refusal c =
    let i = c.args.item in
    let alone = c.is_over.ensures.yes c.if-not-is_over.false in
    let why = refused_by c.args.walk.now c.in-Some.what c.in-Some.rule i.term i.line i.end.at c.requires.read alone c.requires.line (sym c.in_ok-query_rule.ensures ∙ c.in-Some.is) in
    no_goal c.args.file i.line c.args.walk.now c.in-Some.what c.in-Some.rule c.no_goal.result c.requires.short why c.no_goal.ensures
