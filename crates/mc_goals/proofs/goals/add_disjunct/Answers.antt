use Rattle.std.proofs.Common.{◌++◌, ◌∷◌, [], map, sym, ap, ◌∙◌}
use Rattle.std.proofs.lemmas.List.{map-append}
use Rattle.mc_model.specs.PlainGoals.{plain_flat}
use Rattle.mc_accepted.specs.Normal.{disjuncts}
use Rattle.mc_goals.proofs.Views.{parts_of_disjunction, part_alone}
use Rattle.mc_goals.proofs.goals.add_disjunct.Goals as goal

pub returns-in_ok-append-in-Disj : goal.returns-in_ok-append-in-Disj
returns-in_ok-append-in-Disj c =
    let old = c.args.flats.now.items in
    ap (map plain_flat) (c.in_ok-append-in-Disj.ensures {u = tt}).items ∙ map-append plain_flat old c.into_vec-goals.result.items
    ∙ ap (λ gs. map plain_flat old ++ map plain_flat gs) c.into_vec-goals.ensures.items
    ∙ ap (λ gs. map plain_flat old ++ gs) (sym (parts_of_disjunction c.in-Disj.goals) ∙ ap (λ g. disjuncts (plain_flat g)) (sym c.in-Disj.is))

pub returns-in_ok-push-in_default : goal.returns-in_ok-push-in_default
returns-in_ok-push-in_default c =
    let old = c.args.flats.now.items in
    ap (map plain_flat) (c.in_ok-push-in_default.ensures {u = tt}).items ∙ map-append plain_flat old (c.args.goal ∷ [])
    ∙ ap (λ gs. map plain_flat old ++ gs) (sym (part_alone c.args.goal c.in_default.not-Disj))
