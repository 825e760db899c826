use Rattle.std.proofs.Common.{◌≡◌, ◌+◌, map, sym, ap, ◌∙◌, refl, arith, length}
use Rattle.mc_program.specs.PlainPrograms.{plain_clause}
use Rattle.mc_model.specs.PlainGoals.{plain_flat}
use Rattle.mc_accepted.specs.Normal.{Conjuncts, one_or_and, head_equations, clause_goal}
use Rattle.mc_goals.specs.declared.numbers.Numbers.{Numbers}
use Rattle.mc_goals.specs.code.Naming.{held, followed}
use Rattle.mc_goals.specs.code.Numbering.{number_at}
use Rattle.mc_goals.proofs.Naming.{nothing}
use Rattle.mc_goals.proofs.ClauseGoals.{clause_built, clause_conjunction, rest_is, numbers_are, places_are}
use Rattle.mc_goals.proofs.clauses.goal_of_clause.Goals as goal

pub returns-clause-goal : goal.returns-clause-goal
returns-clause-goal c =
    let n = c.args.first in
    let cf = plain_clause c.args.clause.now in
    let met = c.in_ok-met.met in
    let rest = c.in_ok-rest.rest in
    let k = c.in_ok-met.ensures {u = tt} in
    let numbers : Numbers = record { slots = met.slots; rest = rest } in
    let after = c.in_ok-rest.ensures {u = tt} in
    let count = c.len.ensures in
    let long = met.others.ok.0 in
    let behind : rest ≡ n + length met.others.items = omega arith in
    let start : Conjuncts = record { goals = map plain_flat c.in_ok-room.room.items; made_variables = c.new.result.items; next = rest } in
    let empty : start ≡ nothing rest = λ i. record { goals = map plain_flat ((c.in_ok-room.ensures {u = tt}).items i); made_variables = c.new.ensures.items i; next = rest } in
    let heads : held c.add_head.new.into ≡ followed (nothing rest) (head_equations (number_at numbers) cf.head rest 0 cf.head) =
    c.in_ok-add_head.ensures cf.head (places_are n cf met numbers k refl behind)
    ∙ ap (λ (s : Conjuncts). followed s (head_equations (number_at numbers) cf.head s.next 0 cf.head)) empty in
    let built : held c.add_goal.new.into ≡ clause_goal n cf =
    clause_built n cf (number_at numbers) rest (held c.add_head.new.into) (held c.add_goal.new.into) (numbers_are n cf met numbers k refl behind) (rest_is n cf met numbers k refl behind) heads (c.in_ok-add_goal.ensures {u = tt}) in
    (c.in_ok-conjunction_of.ensures {u = tt}) ∙ ap (λ (r : Conjuncts). one_or_and r.goals) built ∙ sym (clause_conjunction n cf)

pub returns-clause-next : goal.returns-clause-next
returns-clause-next c =
    let n = c.args.first in
    let cf = plain_clause c.args.clause.now in
    let met = c.in_ok-met.met in
    let rest = c.in_ok-rest.rest in
    let k = c.in_ok-met.ensures {u = tt} in
    let numbers : Numbers = record { slots = met.slots; rest = rest } in
    let after = c.in_ok-rest.ensures {u = tt} in
    let count = c.len.ensures in
    let long = met.others.ok.0 in
    let behind : rest ≡ n + length met.others.items = omega arith in
    let start : Conjuncts = record { goals = map plain_flat c.in_ok-room.room.items; made_variables = c.new.result.items; next = rest } in
    let empty : start ≡ nothing rest = λ i. record { goals = map plain_flat ((c.in_ok-room.ensures {u = tt}).items i); made_variables = c.new.ensures.items i; next = rest } in
    let heads : held c.add_head.new.into ≡ followed (nothing rest) (head_equations (number_at numbers) cf.head rest 0 cf.head) =
    c.in_ok-add_head.ensures cf.head (places_are n cf met numbers k refl behind)
    ∙ ap (λ (s : Conjuncts). followed s (head_equations (number_at numbers) cf.head s.next 0 cf.head)) empty in
    ap (λ (r : Conjuncts). r.next)
    (clause_built n cf (number_at numbers) rest (held c.add_head.new.into) (held c.add_goal.new.into) (numbers_are n cf met numbers k refl behind) (rest_is n cf met numbers k refl behind) heads (c.in_ok-add_goal.ensures {u = tt}))
