use Rattle.std.proofs.Common.{◌≡◌, ◌∙◌, [], ◌&&◌, ap, sym, true, false}
use Rattle.std.proofs.lemmas.Result.{IfOk-weaker}
use Rattle.mc_base.specs.NameSets.{put_all}
use Rattle.mc_term_data.specs.Plain.{plain_term}
use Rattle.mc_clause_syntax.specs.Clauses.{is_head, is_body, is_rule}
use Rattle.mc_clause_syntax.specs.States.{states_of}
use Rattle.mc_clause_syntax.specs.code.Scopes.{all_names}
use Rattle.mc_clause_syntax.proofs.Scoped.{headed, head_same, body_same}
use Rattle.mc_clause_syntax.proofs.clause.is_rule.Goals as goal

pub returns-then-not-is_head : goal.returns-then-not-is_head
returns-then-not-is_head c =
    let h = plain_term c.args.head.now in
    let names = states_of h in
    let e : false ≡ is_head names h =
    sym c.if-not-is_head.true ∙ c.is_head.ensures ∙ rw (c.in_ok-scope.ensures {u = tt}) (head_same (put_all [] names) names (headed names) h) in
    ap (λ p. p && is_body names (plain_term c.args.body.now)) e

pub returns : goal.returns
returns c =
    let h = plain_term c.args.head.now in
    let b = plain_term c.args.body.now in
    let names = states_of h in
    let sets = put_all [] names in
    let e : true ≡ is_head names h =
    sym c.if-not-is_head.false ∙ c.is_head.ensures ∙ rw (c.in_ok-scope.ensures {u = tt}) (head_same sets names (headed names) h) in
    let f : is_body (all_names c.in_ok-scope.scope.sets.items) b ≡ is_rule h b =
    rw (c.in_ok-scope.ensures {u = tt}) (body_same sets names (headed names) b ∙ ap (λ p. p && is_body names b) e) in
    IfOk-weaker c.is_body.result (λ holds. holds ≡ is_body (all_names c.in_ok-scope.scope.sets.items) b) (λ holds. holds ≡ is_rule h b) (λ holds g. g ∙ f) c.is_body.ensures
