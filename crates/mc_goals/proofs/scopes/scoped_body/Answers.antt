use Rattle.std.proofs.Common.{◌≡◌, ◌++◌, map, ap, ap₂, ◌∙◌}
use Rattle.mc_program.specs.Programs.{expressions}
use Rattle.mc_program.specs.PlainPrograms.{plain_expression, plain_goal}
use Rattle.mc_accepted.specs.Scope.{variables_in_all}
use Rattle.mc_goals.specs.code.Outside.{count, more, scoped_by}
use Rattle.mc_goals.proofs.Scoping.{scoped_from_nothing}
use Rattle.mc_goals.proofs.scopes.scoped_body.Goals as goal

pub returns : goal.returns
returns c =
    let clause = c.args.clause.now in
    let in_head = variables_in_all (expressions (map plain_expression clause.head)) in
    let none = count c.nothing-outside.result in
    let variables : c.push_all_variables.new.list.items ≡ in_head =
    c.in_ok-push_all_variables.ensures {u = tt} ∙ ap₂ (λ l ts. l ++ variables_in_all (expressions (map plain_expression ts))) c.new-variables.ensures.items c.as_slice.ensures.items in
    let outside : count c.add_all.new.self ≡ more none in_head = c.in_ok-add_all.ensures {u = tt} ∙ ap (more none) (c.as_slice-2.ensures.value ∙ variables) in
    (c.in_ok-body.ensures {u = tt}).goal ∙ ap (λ f. scoped_by f (plain_goal clause.body)) outside ∙ scoped_from_nothing none in_head (plain_goal clause.body) c.nothing-outside.ensures
