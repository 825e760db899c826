use Rattle.std.proofs.Common.{◌≡◌, ◌∙◌, List, ap, sym}
use Rattle.mc_accepted.specs.Resolving.{Unresolved_goal}
use Rattle.mc_unresolved.specs.declared.goal.UnresolvedGoal.{UnresolvedGoal}
use Rattle.mc_unresolved.specs.Unresolved.{plain_unresolved_goal}
use Rattle.mc_clauses.specs.Unresolved.{one_or_several, alone}
use Rattle.mc_clauses.specs.declared.pieces.OuterDisjunction.{OuterDisjunction}
use Rattle.mc_clauses.specs.code.GoalWalks.{goal_row, goals_before, over_around, enclosed}
use Rattle.mc_clauses.proofs.Disjunctions.{enclosed-push, row-before}
use Rattle.mc_clauses.proofs.pieces.Unclosed.close.Goals as goal

pub loop-before-preserved : goal.loop-before-preserved
loop-before-preserved c =
    let f = c.in-Some.field-0 in
    let whole = plain_unresolved_goal c.loop-before.whole in
    let step : plain_unresolved_goal c.in_ok-whole-2.whole ≡ over_around f whole =
    c.in_ok-whole-2.ensures
    ∙ ap (λ (gs : List UnresolvedGoal). one_or_several (goal_row gs)) c.in_ok-push.ensures.items
    ∙ ap one_or_several (row-before f.before.items c.in_ok-last.last)
    ∙ ap (λ (g : Unresolved_goal). one_or_several (goals_before f.before.items (alone g))) c.in_ok-last.ensures in
    ap (enclosed c.pop.new.self.items) step
    ∙ sym (enclosed-push c.pop.new.self.items f whole)
    ∙ ap (λ (fs : List OuterDisjunction). enclosed fs whole) (sym c.in-Some.ensures.items)
    ∙ c.loop-before.invariant
