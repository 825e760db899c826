use Rattle.std.proofs.Common.{◌<◌, map, length, ap, ◌∙◌, arith, rules}
use Rattle.mc_program.specs.PlainPrograms.{plain_goal, formulas}
use Rattle.mc_program.specs.declared.program.Goal.{the_lemmas}
use Rattle.mc_accepted.specs.Scope.{occurring, occurring_all}
use Rattle.mc_goals.specs.code.Outside.{count, more, less, scoped_by}
use Rattle.mc_goals.proofs.PartSteps.{next_part, part_restored, next_disjunct}
use Rattle.mc_goals.proofs.scopes.+scopes.Goals as goal

pub parts-loop-goal-preserved : goal.parts-loop-goal-preserved
parts-loop-goal-preserved t c =
    let goals = c.args.goals.now in
    let outside = count c.args.outside.now in
    let own = occurring (plain_goal c.goal-item.result) in
    let i = c.loop-goal.goal-index in
    let inside : i < length goals = omega arith in
    let part = c.in_ok-part.ensures {u = tt} in
    record {
      goals =
          next_part (more outside (occurring_all (formulas (map plain_goal goals)))) goals i c.goal-item.result c.in_ok-part.field-0 c.loop-goal.made.items c.push.new.self.items _ inside c.goal-item.is
          (part.goal ∙ ap (λ h. scoped_by (less h own) (plain_goal c.goal-item.result)) c.loop-goal.invariant.counts)
          (c.in_ok-push.ensures {u = tt}).items c.loop-goal.invariant.goals;
      counts = part.counts ∙ ap (λ h. more (less h own) own) c.loop-goal.invariant.counts ∙ part_restored outside goals i c.goal-item.result inside c.goal-item.is;
    }

pub disjuncts-loop-goal-preserved : goal.disjuncts-loop-goal-preserved
disjuncts-loop-goal-preserved t c =
    let goals = c.args.goals.now in
    let i = c.loop-goal.goal-index in
    let inside : i < length goals = omega arith in
    let one = c.in_ok-scoped_goal.ensures {u = tt} in
    record {
      goals =
          next_disjunct (count c.args.outside.now) goals i c.goal-item.result c.in_ok-scoped_goal.field-0 c.loop-goal.made.items c.push.new.self.items _ inside c.goal-item.is
          (one.goal ∙ ap (λ h. scoped_by h (plain_goal c.goal-item.result)) c.loop-goal.invariant.counts)
          (c.in_ok-push.ensures {u = tt}).items c.loop-goal.invariant.goals;
      counts = one.kept ∙ c.loop-goal.invariant.counts;
    }

pub scoped_goal-returns-in-True-clause-goal : goal.scoped_goal-returns-in-True-clause-goal
scoped_goal-returns-in-True-clause-goal t c = search (rules, the_lemmas)

pub scoped_goal-returns-in_ok-parts-in-Conj-clause-goal : goal.scoped_goal-returns-in_ok-parts-in-Conj-clause-goal
scoped_goal-returns-in_ok-parts-in-Conj-clause-goal t c = search (rules, the_lemmas)

pub scoped_goal-returns-in_ok-disjuncts-in-Disj-clause-goal : goal.scoped_goal-returns-in_ok-disjuncts-in-Disj-clause-goal
scoped_goal-returns-in_ok-disjuncts-in-Disj-clause-goal t c = search (rules, the_lemmas)

pub scoped_goal-returns-in-Ite-clause-goal : goal.scoped_goal-returns-in-Ite-clause-goal
scoped_goal-returns-in-Ite-clause-goal t c = search (rules, the_lemmas)

pub scoped_goal-returns-in_ok-copied-in-Some-clause-goal : goal.scoped_goal-returns-in_ok-copied-in-Some-clause-goal
scoped_goal-returns-in_ok-copied-in-Some-clause-goal t c = search (rules, the_lemmas)

pub scoped_goal-returns-in-Equal-clause-goal : goal.scoped_goal-returns-in-Equal-clause-goal
scoped_goal-returns-in-Equal-clause-goal t c = search (rules, the_lemmas)

pub scoped_goal-returns-in_ok-copied_terms-in-Call-clause-goal : goal.scoped_goal-returns-in_ok-copied_terms-in-Call-clause-goal
scoped_goal-returns-in_ok-copied_terms-in-Call-clause-goal t c = search (rules, the_lemmas)
