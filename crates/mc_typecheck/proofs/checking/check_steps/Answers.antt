use Rattle.std.proofs.Common.{arith}
use Rattle.mc_accepted.specs.Resolving.{assignments_limit}
use Rattle.mc_typecheck.specs.NamedWalks.{IsNamedAt}
use Rattle.mc_unresolved.specs.Unresolved.{plain_unresolved_clause}
use Rattle.mc_typecheck.proofs.Checked.{head_shown, own_below, walked_at, answered_one}
use Rattle.mc_typecheck.proofs.checking.check_steps.Goals as goal

pub returns-in_ok-made-in-Some : goal.returns-in_ok-made-in-Some
returns-in_ok-made-in-Some c = λ P D shows.
    let t = c.args.signatures.now in
    let clause = c.args.clause.now in
    let steps = c.args.steps.now in
    let vars = c.len-vars.result in
    let walk = c.in-Some.walk in
    let at = walked_at t clause steps c.requires.steps vars c.len-vars.ensures c.requires.fits (λ P D s. IsNamedAt P D walk s) (rw c.in-Some.is at c.in_ok-walk.ensures) P D shows in
    answered_one P D clause steps c.requires.steps vars c.len-vars.ensures c.resolution-picks.result.now walk.types.items c.in_ok-made-in-Some.made
    (c.in_ok-made-in-Some.ensures P D (head_shown P D t clause shows))
    (c.resolution-picks.ensures P D (plain_unresolved_clause clause) assignments_limit vars (omega arith) (own_below t clause steps c.requires.steps vars c.len-vars.ensures c.requires.fits) at)
