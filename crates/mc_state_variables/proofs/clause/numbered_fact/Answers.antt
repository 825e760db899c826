use Rattle.std.proofs.Common.{ap, ap₂, sym, ◌∙◌, []}
use Rattle.mc_base.specs.NameSets.{put_all}
use Rattle.mc_term_data.specs.Plain.{plain_term}
use Rattle.mc_clause_syntax.specs.States.{names_of, states_of}
use Rattle.mc_state_variables.specs.Versions.{closings}
use Rattle.mc_state_variables.specs.Numbered.{term_of, fact_of, head_states}
use Rattle.mc_state_variables.specs.code.Helds.{plain_helds}
use Rattle.mc_state_variables.proofs.Closing.{plain_line}
use Rattle.mc_state_variables.proofs.Written.{if_ok, fact_is}
use Rattle.mc_state_variables.proofs.clause.numbered_fact.Goals as goal

pub returns : goal.returns
returns c =
    let h = plain_term c.args.head.now in
    let l = c.args.head.now.line in
    let names = names_of c.deref.result.now in
    let entered = c.in_ok-held.ensures {u = tt} in
    if_ok c.fact_in.result _ _ c.fact_in.ensures
    (λ x e.
    e
    ∙ ap₂ (λ ns hs. fact_of l (term_of (plain_helds hs) h) (closings (put_all [] (names_of ns)) [] l (plain_helds hs))) (c.deref-2.ensures.value ∙ sym c.deref.ensures.value) c.deref-3.ensures.value
    ∙ fact_is l h names (plain_helds c.in_ok-held.held.items) (ap names_of c.deref.ensures.value ∙ c.in_ok-names.ensures) entered.held
    ∙ ap (λ k. fact_of k (term_of (head_states h) h) (closings (states_of h) [] k (head_states h))) (sym (plain_line c.args.head.now)))
