use Rattle.std.proofs.Common.{◌∙◌, map, ◌++◌, ◌∷◌, []}
use Rattle.mc_base.specs.NameSets.{put_all}
use Rattle.mc_term_data.specs.Plain.{plain_term, term_list}
use Rattle.mc_clause_syntax.specs.States.{quantified, condition_names}
use Rattle.mc_clause_syntax.specs.code.Scopes.{all_names}
use Rattle.mc_clause_syntax.proofs.Scoped.{entered, goals_same}
use Rattle.mc_clause_syntax.proofs.scope.Scope.+goals_placed.Goals as goal

pub places_then_part-returns-clause-answer : goal.places_then_part-returns-clause-answer
places_then_part-returns-clause-answer t c =
    let sets = c.args.self.now.sets.items in
    let names = condition_names (plain_term c.args.condition.now) in
    (c.in_ok-placed.ensures {u = tt}).answer
    ∙ rw ((c.in_ok-push.ensures {u = tt}).items, c.in_ok-condition_names.ensures {u = tt})
    (goals_same (all_names (sets ++ put_all [] names ∷ [])) (names ++ all_names sets) (entered sets names) (term_list (map plain_term c.args.then_part.now)))

pub places_quantified-returns-clause-answer : goal.places_quantified-returns-clause-answer
places_quantified-returns-clause-answer t c =
    let sets = c.args.self.now.sets.items in
    let names = quantified (plain_term c.args.list.now) in
    (c.in_ok-placed.ensures {u = tt}).answer
    ∙ rw ((c.in_ok-push.ensures {u = tt}).items, c.in_ok-quantified.ensures {u = tt})
    (goals_same (all_names (sets ++ put_all [] names ∷ [])) (names ++ all_names sets) (entered sets names) (term_list (map plain_term c.args.goals.now)))
