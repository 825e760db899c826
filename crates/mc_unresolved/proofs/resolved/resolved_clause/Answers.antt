use Rattle.std.proofs.Common.{List, map, ap, ◌∙◌}
use Rattle.mc_program.specs.PlainPrograms.{plain_expression}
use Rattle.mc_program.specs.declared.expr.Expr.{Expr}
use Rattle.mc_unresolved.specs.Unresolved.{plain_unresolved}
use Rattle.mc_unresolved.specs.code.Picked.{resolved_list}
use Rattle.mc_unresolved.proofs.Makings.{clause_made}
use Rattle.mc_unresolved.proofs.resolved.resolved_clause.Goals as goal

pub returns-clause-form : goal.returns-clause-form
returns-clause-form c =
    let mid = c.make_terms.new.picks.rest.now in
    clause_made c.args.clause.now c.in_ok-of.field-0 c.in_ok-body.body c.args.picks.now mid c.make_goal.new.picks.rest.now
    (ap (λ (xs : List Expr). (map plain_expression xs, mid)) c.in_ok-of.ensures.elements ∙ c.in_ok-head.ensures ∙ ap (λ xs. resolved_list (map plain_unresolved xs) c.args.picks.now) c.as_slice.ensures.items)
    c.in_ok-body.ensures
