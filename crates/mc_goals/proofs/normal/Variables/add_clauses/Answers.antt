use Rattle.std.proofs.Common.{◌≢◌, map, length, sym, ap, ◌∙◌, arith}
use Rattle.std.proofs.lemmas.List.{length-map}
use Rattle.mc_model.specs.PlainGoals.{plain_flat}
use Rattle.mc_goals.specs.Resolved.{clause_of}
use Rattle.mc_goals.proofs.Several.{several_clauses}
use Rattle.mc_goals.proofs.normal.Variables.add_clauses.Goals as goal

pub returns-in_ok-of-in-len2-up-clause-goal : goal.returns-in_ok-of-in-len2-up-clause-goal
returns-in_ok-of-in-len2-up-clause-goal c =
    let clauses = c.args.clauses.now in
    let many : length clauses ≢ 1 = omega arith in
    several_clauses c.in_ok-of-in-len2-up.field-0 c.args.self.now.next (map clause_of clauses) (λ one. many (sym (length-map clauses clause_of) ∙ one))
    (ap (map plain_flat) (c.in_ok-of-in-len2-up.ensures {u = tt}).elements ∙ (c.in_ok-disjuncts-in-len2-up.ensures {u = tt}).goals)
