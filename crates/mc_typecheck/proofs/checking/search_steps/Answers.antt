use Rattle.std.proofs.Common.{List, map, sym, subst}
use Rattle.mc_accepted.specs.Resolving.{assignments_limit}
use Rattle.mc_source.specs.declared.name.Candidate.{Candidate}
use Rattle.mc_types.specs.declared.outcome.Outcome.{Outcome}
use Rattle.mc_typecheck.specs.Outcomes.{ClauseSays}
use Rattle.mc_unresolved.specs.Unresolved.{plain_unresolved_clause}
use Rattle.mc_unresolved.specs.Steps.{plain_walk_step}
use Rattle.mc_typecheck.specs.code.Made.{IsMade}
use Rattle.mc_typecheck.proofs.Checked.{head_shown, was_walked, searched, answered_two, answered_choices, shown_steps}
use Rattle.mc_typecheck.proofs.checking.search_steps.Goals as goal

pub resolve_walk-requires-clause-walked : goal.resolve_walk-requires-clause-walked
resolve_walk-requires-clause-walked c = was_walked c.args.signatures.now c.args.clause.now c.args.steps.now c.requires.steps c.len-vars.result c.len-vars.ensures c.requires.fits c.in_ok-walk.walk c.in_ok-walk.ensures c.requires.table

pub returns-in-None : goal.returns-in-None
returns-in-None c = λ P D shows.
    let Q : Outcome → Type 0 = λ o. ClauseSays P D (plain_unresolved_clause c.args.clause.now) assignments_limit c.len-vars.result o in
    subst Q c.in-None.is (searched c.args.signatures.now c.args.clause.now c.args.steps.now c.requires.steps c.len-vars.result c.len-vars.ensures c.requires.fits c.in_ok-walk.walk c.in_ok-walk.ensures assignments_limit c.in_ok-resolve_walk.field-0 c.in_ok-resolve_walk.ensures P D shows)

pub returns-in-TooMany : goal.returns-in-TooMany
returns-in-TooMany c = λ P D shows.
    let Q : Outcome → Type 0 = λ o. ClauseSays P D (plain_unresolved_clause c.args.clause.now) assignments_limit c.len-vars.result o in
    subst Q c.in-TooMany.is (searched c.args.signatures.now c.args.clause.now c.args.steps.now c.requires.steps c.len-vars.result c.len-vars.ensures c.requires.fits c.in_ok-walk.walk c.in_ok-walk.ensures assignments_limit c.in_ok-resolve_walk.field-0 c.in_ok-resolve_walk.ensures P D shows)

pub returns-in-Two : goal.returns-in-Two
returns-in-Two c = λ P D shows.
    let clause = c.args.clause.now in
    let steps = c.args.steps.now in
    let vars = c.len-vars.result in
    let Q : Outcome → Type 0 = λ o. ClauseSays P D (plain_unresolved_clause clause) assignments_limit vars o in
    let said = searched c.args.signatures.now clause steps c.requires.steps vars c.len-vars.ensures c.requires.fits c.in_ok-walk.walk c.in_ok-walk.ensures assignments_limit c.in_ok-resolve_walk.field-0 c.in_ok-resolve_walk.ensures P D shows in
    let there = shown_steps P D c.args.signatures.now clause steps c.requires.steps shows in
    answered_two P D clause steps c.requires.steps vars c.len-vars.ensures c.in-Two.first c.in-Two.second c.in_ok-first-in-Two.first c.in_ok-second-in-Two.second (c.in_ok-first-in-Two.ensures P D vars there) (c.in_ok-second-in-Two.ensures P D vars there) (subst Q c.in-Two.is said)

pub returns : goal.returns
returns c = λ P D shows.
    let t = c.args.signatures.now in
    let clause = c.args.clause.now in
    let steps = c.args.steps.now in
    let vars = c.len-vars.result in
    let made = c.in_ok-made-in-One.made in
    let Q : Outcome → Type 0 = λ o. ClauseSays P D (plain_unresolved_clause clause) assignments_limit vars o in
    let R : List Candidate → Type 0 = λ cs. IsMade P clause (map plain_walk_step steps) cs c.in-One.types.items made in
    let said = searched t clause steps c.requires.steps vars c.len-vars.ensures c.requires.fits c.in_ok-walk.walk c.in_ok-walk.ensures assignments_limit c.in_ok-resolve_walk.field-0 c.in_ok-resolve_walk.ensures P D shows in
    answered_choices P D clause steps c.requires.steps vars c.len-vars.ensures c.in-One.choices c.in-One.types c.in_ok-picks-in-One.picks made
    (c.in_ok-picks-in-One.ensures P D vars (shown_steps P D t clause steps c.requires.steps shows))
    (subst R c.as_slice.ensures.items (c.in_ok-made-in-One.ensures P D (head_shown P D t clause shows)))
    (subst Q c.in-One.is said)
