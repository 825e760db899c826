use Rattle.std.proofs.Common.{◌≡◌, [], List, map, sym, ap, ◌∙◌}
use Rattle.std.proofs.lemmas.List.{append-nil, nil_from_length}
use Rattle.std.specs.Vec.Iter.{into_iter_items}
use Rattle.mc_model.specs.PlainGoals.{plain_node}
use Rattle.mc_model.specs.Scheduled.{Node, Disj, nodes}
use Rattle.mc_procs.proofs.Views.{plain_sched-Disj}
use Rattle.mc_switch.specs.code.Grouping.{nodes_of}
use Rattle.mc_switch.proofs.formed.disjunction_of.Goals as goal

pub returns : goal.returns
returns c =
    let now = c.loop-goal in
    let none = c.in-None.ensures.steps in
    let empty : into_iter_items now.goal-iterator ≡ [] = nil_from_length _ (sym now.invariant.left ∙ none.0) in
    let all = sym (append-nil now.yielded) ∙ rw empty at now.invariant.all ∙ c.into_iter-goal-iterator.ensures.into_iter_gives.0 in
    plain_sched-Disj c.in_ok-nodes-2.nodes
    ∙ ap (λ (ns : List Node). Disj (nodes ns))
    (ap (map plain_node) c.in_ok-nodes-2.ensures.elements ∙ now.invariant.goals ∙ ap nodes_of all)
