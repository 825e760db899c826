use Rattle.std.proofs.Common.{◌≡◌, [], List, map, sym, ap, ◌∙◌}
use Rattle.std.proofs.lemmas.List.{append-nil, nil_from_length}
use Rattle.std.specs.Vec.Iter.{into_iter_items}
use Rattle.mc_model.specs.PlainGoals.{plain_node}
use Rattle.mc_model.specs.Scheduled.{Node, Disj, nodes}
use Rattle.mc_procs.proofs.Views.{plain_sched-Disj}
use Rattle.mc_switch.specs.declared.disjunct.Opened.{Opened}
use Rattle.mc_switch.proofs.Arms.{goals_same}
use Rattle.mc_switch.proofs.grouping.disjunction.Goals as goal

pub returns : goal.returns
returns c =
    let now = c.loop-disjunct in
    let none = c.in-None.ensures.steps in
    let empty : into_iter_items now.disjunct-iterator ≡ [] = nil_from_length _ (sym now.invariant.left ∙ none.0) in
    let all = sym (append-nil now.yielded) ∙ rw empty at now.invariant.all ∙ c.into_iter-disjunct-iterator.ensures.into_iter_gives.0 in
    plain_sched-Disj c.in_ok-goals-2.goals
    ∙ ap (λ (ns : List Node). Disj (nodes ns))
    (ap (map plain_node) c.in_ok-goals-2.ensures.elements
    ∙ now.invariant.goals
    ∙ ap (map (λ (o : Opened). plain_node o.goal)) all
    ∙ goals_same c.args.disjuncts.items)
