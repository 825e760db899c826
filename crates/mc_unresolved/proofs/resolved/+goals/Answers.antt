use Rattle.std.proofs.Common.{List, map, ap, ◌∙◌}
use Rattle.mc_program.specs.PlainPrograms.{plain_expression, plain_goal}
use Rattle.mc_program.specs.declared.expr.Expr.{Expr}
use Rattle.mc_program.specs.declared.program.Goal.{Goal}
use Rattle.mc_unresolved.specs.Unresolved.{plain_unresolved, plain_unresolved_goal}
use Rattle.mc_unresolved.specs.code.Picked.{resolved_list, resolved_goal_list}
use Rattle.mc_unresolved.proofs.Makings.{atom_made, all_made, one_made}
use Rattle.mc_unresolved.proofs.resolved.+goals.Goals as goal

pub make_goal-returns-in_ok-of-in-Atom : goal.make_goal-returns-in_ok-of-in-Atom
make_goal-returns-in_ok-of-in-Atom t c =
    let left = c.make_terms.new.picks.rest.now in
    let old = c.args.picks.now.rest.now in
    atom_made _ c.in-Atom.field-0 c.in-Atom.args c.in_ok-of-in-Atom.field-0 old left _ c.in-Atom.is
    (ap (λ (xs : List Expr). (map plain_expression xs, left)) (c.in_ok-of-in-Atom.ensures {u = tt}).elements ∙ c.in_ok-args-in-Atom.ensures {u = tt} ∙ ap (λ xs. resolved_list (map plain_unresolved xs) old) c.as_slice.ensures.items)
    c.called.ensures

pub make_goal-returns-in_ok-of-in-AllOf : goal.make_goal-returns-in_ok-of-in-AllOf
make_goal-returns-in_ok-of-in-AllOf t c =
    let left = c.make_goals.new.picks.rest.now in
    let old = c.args.picks.now.rest.now in
    all_made _ c.in-AllOf.parts c.in_ok-of-in-AllOf.field-0 old left c.in-AllOf.is
    (ap (λ (xs : List Goal). (map plain_goal xs, left)) (c.in_ok-of-in-AllOf.ensures {u = tt}).elements ∙ c.in_ok-goals-in-AllOf.ensures {u = tt} ∙ ap (λ xs. resolved_goal_list (map plain_unresolved_goal xs) old) c.as_slice-in-AllOf.ensures.items)

pub make_goal-returns-in_ok-of-in-OneOf : goal.make_goal-returns-in_ok-of-in-OneOf
make_goal-returns-in_ok-of-in-OneOf t c =
    let left = c.make_goals-in-OneOf.new.picks.rest.now in
    let old = c.args.picks.now.rest.now in
    one_made _ c.in-OneOf.parts c.in_ok-of-in-OneOf.field-0 old left c.in-OneOf.is
    (ap (λ (xs : List Goal). (map plain_goal xs, left)) (c.in_ok-of-in-OneOf.ensures {u = tt}).elements ∙ c.in_ok-goals-in-OneOf.ensures {u = tt} ∙ ap (λ xs. resolved_goal_list (map plain_unresolved_goal xs) old) c.as_slice-in-OneOf.ensures.items)
