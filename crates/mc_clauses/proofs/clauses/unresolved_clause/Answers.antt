use Rattle.std.proofs.Common.{◌≡◌, ◌∙◌, [], map, Some, None, ap, sym}
use Rattle.std.specs.Prelude.{codes, option_map}
use Rattle.mc_term_data.specs.Plain.{plain_term}
use Rattle.mc_term_data.specs.Shapes.{operands}
use Rattle.mc_names.specs.Linked.{plain_names}
use Rattle.mc_clauses.specs.Variables.{nothing_met}
use Rattle.mc_clauses.specs.Unresolved.{clause_walk, goal_of, source_name}
use Rattle.mc_clauses.specs.code.Clauses.{head_walk}
use Rattle.mc_clauses.proofs.Heads.{names-met}
use Rattle.mc_clauses.proofs.clauses.unresolved_clause.Goals as goal

pub returns-in-Some-clause-names : goal.returns-in-Some-clause-names
returns-in-Some-clause-names c =
    let names = plain_names c.args.at.now.names.now in
    let own = c.args.at.now.own in
    let t = plain_term c.args.clause.now in
    let is : operands (codes ":-") t ≡ Some (plain_term c.in-Some.head_term.now, plain_term c.in-Some.body.now) =
    sym c.operands.ensures ∙ ap (option_map (λ p. (plain_term p.0.now, plain_term p.1.now))) c.in-Some.is in
    let first = (head_walk c.args.at.now c.in-Some.head_term.now [] nothing_met).1 in
    let head = c.in_ok-head-in-Some.ensures [] nothing_met c.new-variables.ensures in
    let body = c.in_ok-body-in-Some.ensures [] first head.knows in
    c.in_ok-names-in-Some.ensures
    ∙ names-met [] ((goal_of names own (plain_term c.in-Some.body.now)).itself [] first).1 c.goal.new.variables c.deref.result.now c.deref.ensures.value body.knows
    ∙ sym (ap (λ o. map source_name (clause_walk names own t o [] nothing_met).1.names) is)

pub returns-clause-names : goal.returns-clause-names
returns-clause-names c =
    let names = plain_names c.args.at.now.names.now in
    let own = c.args.at.now.own in
    let t = plain_term c.args.clause.now in
    let is : operands (codes ":-") t ≡ None =
    sym c.operands.ensures ∙ ap (option_map (λ p. (plain_term p.0.now, plain_term p.1.now))) c.in-None.is in
    let head = c.in_ok-head-in-None.ensures [] nothing_met c.new-variables.ensures in
    c.in_ok-names-in-None.ensures
    ∙ names-met [] (head_walk c.args.at.now c.args.clause.now [] nothing_met).1 c.head-in-None.new.variables c.deref-in-None.result.now c.deref-in-None.ensures.value head.knows
    ∙ sym (ap (λ o. map source_name (clause_walk names own t o [] nothing_met).1.names) is)
