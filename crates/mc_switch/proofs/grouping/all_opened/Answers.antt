use Rattle.std.proofs.Common.{◌≡◌, ◌+◌, ◌<◌, ◌∷◌, [], ◌++◌, List, length, map, take, All, sym, ap, subst, ◌∙◌, append_assoc, arith}
use Rattle.std.proofs.lemmas.List.{length-append}
use Rattle.std.proofs.lemmas.List.Elements.{All-push}
use Rattle.std.specs.Vec.Iter.{into_iter_items}
use Rattle.mc_model.specs.PlainGoals.{plain_node}
use Rattle.mc_model.specs.declared.sched.GoalNode.{GoalNode}
use Rattle.mc_switch.specs.code.Grouping.{disjuncts_of, nodes_of}
use Rattle.mc_switch.specs.declared.formed.Formed.{Formed}
use Rattle.mc_switch.specs.code.Labels.{KeepsFirst, plain_opened}
use Rattle.mc_switch.specs.declared.disjunct.Opened.{Opened}
use Rattle.mc_switch.proofs.Arms.{one_more_disjunct, one_more_kept}
use Rattle.mc_switch.proofs.grouping.all_opened.Goals as goal

pub loop-goal-preserved : goal.loop-goal-preserved
loop-goal-preserved c =
    let now = c.loop-goal in
    let m : Formed = c.in-Some.goal in
    let o : Opened = c.in_ok-of.field-0 in
    let sources : List GoalNode = c.args.sources.now in
    let before : List Opened = now.disjuncts.items in
    let after : List Opened = c.push.new.self.items in
    let ms : List Formed = now.yielded in
    let steps : into_iter_items now.goal-iterator ≡ m ∷ into_iter_items c.next.new.self = c.in-Some.ensures.steps.0 in
    let one = ap length steps in
    let whole : length ms + length (into_iter_items now.goal-iterator) ≡ length sources =
    sym (length-append ms (into_iter_items now.goal-iterator)) ∙ ap length (now.invariant.all ∙ c.into_iter-goal-iterator.ensures.into_iter_gives.0) ∙ c.requires in
    let many : c.len-k.result ≡ length ms = omega (arith, c.len-k.ensures, now.invariant.many, now.disjuncts.ok) in
    let lt : c.len-k.result < length sources = omega (arith, whole, one, many) in
    let more : length (ms ++ m ∷ []) ≡ length ms + 1 = length-append ms (m ∷ []) in
    let put : length after ≡ length before + 1 = ap length c.in_ok-push.ensures.items ∙ length-append before (o ∷ []) in
    record {
      all = append_assoc ms (m ∷ []) _ ∙ rw (← steps) now.invariant.all;
      left =
          let was = now.invariant.left in
          let gone = c.in-Some.ensures.steps.1 in
          omega (arith, was, gone, one);
      many = omega (arith, more, put, now.invariant.many);
      first = subst (All KeepsFirst) (sym c.in_ok-push.ensures.items) (All-push KeepsFirst before o now.invariant.first c.in_ok-of.ensures.first);
      disjuncts =
          one_more_disjunct sources ms c.len-k.result c.index-sources-k.result m o before after many lt c.index-sources-k.is c.in_ok-of.ensures.opens c.in_ok-of.ensures.goal c.in_ok-push.ensures.items
          (subst (λ j. map plain_opened before ≡ disjuncts_of (map plain_node (take j sources)) (nodes_of ms)) (sym many) now.invariant.disjuncts)
          ∙ (let j : c.len-k.result + 1 ≡ length (ms ++ m ∷ []) = omega (arith, many, more) in
          ap (λ i. disjuncts_of (map plain_node (take i sources)) (nodes_of (ms ++ m ∷ []))) j);
      kept = one_more_kept ms before after m o now.invariant.kept c.in_ok-of.ensures.goal c.in_ok-of.ensures.never c.in_ok-push.ensures.items;
    }
