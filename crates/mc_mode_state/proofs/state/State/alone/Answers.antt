use Rattle.std.proofs.Common.{◌≡◌, ◌∙◌, List, length, map, ap, sym, arith}
use Rattle.mc_model.specs.PlainGoals.{plain_node}
use Rattle.mc_model.specs.Scheduled.{nodes}
use Rattle.mc_model.specs.declared.sched.GoalNode.{GoalNode}
use Rattle.mc_accepted.specs.Arranged.{alone, changing}
use Rattle.mc_accepted.specs.NodeOracle.{of_nodes, other_node}
use Rattle.mc_procs.proofs.Views.{plain_sched-Conj}
use Rattle.mc_mode_state.specs.Answers.{end_of}
use Rattle.mc_mode_state.specs.States.{point_of}
use Rattle.mc_mode_state.proofs.OneOrMany.{several}
use Rattle.mc_mode_state.proofs.state.State.alone.Goals as goal

pub returns-then-len-eq1 : goal.returns-then-len-eq1
returns-then-len-eq1 c = λ s p e C.
    let t = c.args.self.now in
    ap (λ (gs : List GoalNode). alone (of_nodes C) (length t.insts.items) (point_of s.insts.items) (end_of c.args.reachable t) (nodes (map plain_node gs)))
    (sym c.only.ensures ∙ c.in_ok-row.ensures.elements)

pub returns : goal.returns
returns c = λ s p e C.
    let t = c.args.self.now in
    let n = length t.insts.items in
    let b = point_of s.insts.items in
    let o = end_of c.args.reachable t in
    let row = c.in_ok-row.row in
    let h : length row ≡ 1 → ⊥ = λ l. omega (arith, l, c.len.ensures) in
    c.in_ok-goal.ensures s p e
    ∙ (ap (changing other_node n b o) (plain_sched-Conj row)
    ∙ (sym (several C n b o row h) ∙ ap (λ (gs : List GoalNode). alone (of_nodes C) n b o (nodes (map plain_node gs))) c.in_ok-row.ensures.elements))
