use Rattle.std.proofs.Common.{◌∙◌, []}
use Rattle.mc_base.specs.NameSets.{put_all}
use Rattle.mc_term_data.specs.Plain.{plain_term}
use Rattle.mc_clause_syntax.specs.States.{states_of}
use Rattle.mc_clause_syntax.proofs.Scoped.{headed, head_same}
use Rattle.mc_clause_syntax.proofs.clause.is_fact.Goals as goal

pub returns : goal.returns
returns c =
    let h = plain_term c.args.head.now in
    let names = states_of h in
    c.is_head.ensures ∙ rw (c.in_ok-scope.ensures {u = tt}) (head_same (put_all [] names) names (headed names) h)
