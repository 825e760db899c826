use Rattle.std.proofs.Common.{◌++◌, map, ap, subst, ◌∙◌}
use Rattle.mc_program.specs.PlainPrograms.{plain_expression, plain_goal}
use Rattle.mc_accepted.specs.Scope.{occurring}
use Rattle.mc_accepted.specs.Normal.{named_by_quantifiers}
use Rattle.mc_goals.specs.code.Meeting.{Knows, head_variables}
use Rattle.mc_goals.proofs.ClauseGoals.{knows_nothing}
use Rattle.mc_goals.proofs.clauses.numbering_of.Goals as goal

pub returns : goal.returns
returns c =
    let n = c.args.first in
    let head = map plain_expression c.args.clause.now.head in
    let body = plain_goal c.args.clause.now.body in
    let nothing = knows_nothing (record { slots = c.new.result; others = c.new-2.result; first = n }) c.new.ensures.items c.new-2.ensures.items in
    let of_head = c.in_ok-meet_head.ensures n nothing in
    let all = c.in_ok-meet_all.ensures n head (head_variables head) of_head in
    let list =
    c.as_slice.ensures.value ∙ (c.in_ok-push_named.ensures {u = tt})
    ∙ ap (λ l. l ++ named_by_quantifiers body) ((c.in_ok-push_occurring.ensures {u = tt}) ∙ ap (λ l. l ++ occurring body) c.new-variables.ensures.items) in
    subst (λ l. Knows n head (head_variables head ++ l) c.meet_all.new.self) list all
