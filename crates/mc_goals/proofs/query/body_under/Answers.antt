use Rattle.std.proofs.Common.{ap, ◌∙◌}
use Rattle.mc_program.specs.PlainPrograms.{plain_goal}
use Rattle.mc_goals.specs.code.Outside.{count, scoped_by}
use Rattle.mc_goals.proofs.Scoping.{scoped_from_nothing}
use Rattle.mc_goals.proofs.query.body_under.Goals as goal

pub returns : goal.returns
returns c =
    let goal = plain_goal c.args.goal.now in
    let none = count c.nothing-outside.result in
    (c.in_ok-body.ensures {u = tt}).goal
    ∙ ap (λ f. scoped_by f goal) (c.in_ok-add_all.ensures {u = tt})
    ∙ scoped_from_nothing none c.args.variables.now goal c.nothing-outside.ensures
