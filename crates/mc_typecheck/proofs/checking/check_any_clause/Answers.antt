use Rattle.std.proofs.Common.{◌≡◌, true, rules, arith}
use Rattle.std.proofs.lemmas.Grind.{common_steps}
use Rattle.mc_typecheck.specs.Fitting.{clause_fits}
use Rattle.mc_typecheck.proofs.checking.check_any_clause.Goals as goal

pub returns : goal.returns
returns c = λ P D shows.
    let fits : clause_fits c.args.signatures.now c.args.clause.now ≡ true = first_of (search rules, grind (arith, common_steps)) in
    c.check_steps.ensures P D (shows fits)
