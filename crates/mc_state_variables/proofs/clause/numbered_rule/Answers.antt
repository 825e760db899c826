use Rattle.std.proofs.Common.{ap, ap₂, sym, ◌∙◌, []}
use Rattle.mc_base.specs.NameSets.{put_all}
use Rattle.mc_term_data.specs.Plain.{plain_term}
use Rattle.mc_clause_syntax.specs.States.{names_of}
use Rattle.mc_state_variables.specs.Numbered.{goal_of, rule_of, term_of}
use Rattle.mc_state_variables.specs.code.Helds.{plain_helds}
use Rattle.mc_state_variables.proofs.Written.{if_ok, rule_is}
use Rattle.mc_state_variables.proofs.clause.numbered_rule.Goals as goal

pub returns : goal.returns
returns c =
    let h = plain_term c.args.head.now in
    let b = plain_term c.args.body.now in
    let names = names_of c.deref.result.now in
    let entered = c.in_ok-held.ensures {u = tt} in
    let from = c.entered.new.self.next in
    if_ok c.rule_in.result _ _ c.rule_in.ensures
    (λ x e.
    e
    ∙ ap₂ (λ ns hs. rule_of c.args.line (term_of (plain_helds hs) h) ((goal_of b).branch.writing (put_all [] (names_of ns)) (plain_helds hs) from).text) (c.deref-2.ensures.value ∙ sym c.deref.ensures.value) c.deref-3.ensures.value
    ∙ rule_is c.args.line h b names (plain_helds c.in_ok-held.held.items) from (ap names_of c.deref.ensures.value ∙ c.in_ok-names.ensures) entered.held entered.next)
