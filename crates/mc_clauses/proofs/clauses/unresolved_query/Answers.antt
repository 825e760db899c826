use Rattle.std.proofs.Common.{◌∙◌, []}
use Rattle.mc_term_data.specs.Plain.{plain_term}
use Rattle.mc_names.specs.Linked.{plain_names}
use Rattle.mc_clauses.specs.Variables.{nothing_met}
use Rattle.mc_clauses.specs.Unresolved.{goal_of}
use Rattle.mc_clauses.proofs.Heads.{names-met}
use Rattle.mc_clauses.proofs.clauses.unresolved_query.Goals as goal

pub returns-clause-names : goal.returns-clause-names
returns-clause-names c =
    let walk = (goal_of (plain_names c.args.at.now.names.now) c.args.at.now.own (plain_term c.args.query.now)).itself in
    let body = c.in_ok-body.ensures [] nothing_met c.new-variables.ensures in
    c.in_ok-names.ensures ∙ names-met [] (walk [] nothing_met).1 c.goal.new.variables c.deref.result.now c.deref.ensures.value body.knows
