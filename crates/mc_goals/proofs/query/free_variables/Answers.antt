use Rattle.std.proofs.Common.{ap₂, ◌∙◌}
use Rattle.mc_program.specs.PlainPrograms.{plain_goal}
use Rattle.mc_goals.specs.code.Outside.{count, own_of}
use Rattle.mc_goals.proofs.Scoping.{free_where_nothing_is}
use Rattle.mc_goals.proofs.query.free_variables.Goals as goal

pub returns : goal.returns
returns c =
    let none = count c.nothing-outside.result in
    (c.in_ok-free.ensures {u = tt}).own
    ∙ ap₂ own_of (c.in_ok-scoped.ensures {u = tt}).kept (c.in_ok-scoped.ensures {u = tt}).goal
    ∙ free_where_nothing_is none (plain_goal c.args.goal.now) c.nothing-outside.ensures
