use Rattle.std.proofs.Common.{ap, ◌∙◌, ◌++◌, ◌∷◌, [], map}
use Rattle.mc_term_data.specs.Plain.{at, Disj, plain_term, term_list}
use Rattle.mc_state_variables.specs.Versions.{and_then}
use Rattle.mc_state_variables.proofs.Lists.{map_reverse}
use Rattle.mc_state_variables.proofs.pieces.grouped.Goals as goal

pub returns : goal.returns
returns c =
    let whole = c.in_ok-and_then.field-0 in
    ap (map plain_term) ((c.in_ok-push.ensures {u = tt}).items ∙ ap (λ xs. xs ++ whole ∷ []) c.new-group.ensures.items)
    ∙ ap (λ t. t ∷ [])
    (c.in_ok-and_then.ensures
    ∙ ap (λ t. and_then t (term_list (map plain_term c.args.goals.items))) c.in_ok-disjunction.ensures
    ∙ ap (λ ts. and_then (at (Disj (term_list ts)) c.args.line) (term_list (map plain_term c.args.goals.items)))
    (ap (map plain_term) c.reverse.ensures.items ∙ map_reverse plain_term c.args.branches.items))
