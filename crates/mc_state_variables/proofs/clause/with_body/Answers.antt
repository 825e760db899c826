use Rattle.std.proofs.Common.{◌≤◌, ◌∙◌, length, map, arith}
use Rattle.std.proofs.lemmas.List.{length-map}
use Rattle.mc_term_data.specs.Plain.{plain_term}
use Rattle.mc_state_variables.proofs.Clauses.{many_goals}
use Rattle.mc_state_variables.proofs.Written.{if_ok}
use Rattle.mc_state_variables.proofs.clause.with_body.Goals as goal

pub returns-then-len-gt1 : goal.returns-then-len-gt1
returns-then-len-gt1 c =
    let goals = map plain_term c.args.goals.items in
    let many : 2 ≤ length goals = omega (arith, length-map c.args.goals.items plain_term, c.len.ensures, c.if-len-gt1.true, c.args.goals.ok.0) in
    if_ok c.operator.result _ _ c.operator.ensures
    (λ x e. e ∙ many_goals c.args.line (plain_term c.args.head) (plain_term c.in_ok-body.body) goals many c.in_ok-body.ensures)
