use Rattle.std.proofs.Common.{◌≡◌, ◌∷◌, [], length, All, sym, ap, subst, ◌∙◌, append_assoc, arith}
use Rattle.std.proofs.lemmas.List.{append-nil, nil_from_length}
use Rattle.std.proofs.lemmas.List.Elements.{All-head, All-tail}
use Rattle.std.specs.Vec.Iter.{into_iter_items}
use Rattle.mc_switch.specs.code.Labels.{KeepsFirst}
use Rattle.mc_switch.specs.code.Groups.{plain_groups, groups_of}
use Rattle.mc_switch.proofs.Putting.{split_more}
use Rattle.mc_switch.proofs.groups.split.Goals as goal

pub loop-disjunct-preserved : goal.loop-disjunct-preserved
loop-disjunct-preserved c =
    let now = c.loop-disjunct in
    let o = c.in-Some.disjunct in
    let steps : into_iter_items now.disjunct-iterator ≡ o ∷ into_iter_items c.next.new.self = c.in-Some.ensures.steps.0 in
    let keep : All KeepsFirst (o ∷ into_iter_items c.next.new.self) = subst (All KeepsFirst) steps now.invariant.first in
    record {
      all = append_assoc now.yielded (o ∷ []) _ ∙ rw (← steps) now.invariant.all;
      left =
          let was = now.invariant.left in
          let gone = c.in-Some.ensures.steps.1 in
          let short = ap length steps in
          omega arith;
      first = All-tail KeepsFirst o (into_iter_items c.next.new.self) keep;
      labels = c.in_ok-put_told.ensures.labels;
      groups =
          split_more c.args.x now.yielded o c.label-label.result (plain_groups now.found.groups.items) (plain_groups c.put_told.new.self.groups.items)
          (All-head KeepsFirst o (into_iter_items c.next.new.self) keep) c.label-label.ensures now.invariant.groups c.in_ok-put_told.ensures.groups;
    }

pub returns : goal.returns
returns c =
    let now = c.loop-disjunct in
    let none = c.in-None.ensures.steps in
    let empty : into_iter_items now.disjunct-iterator ≡ [] = nil_from_length _ (sym now.invariant.left ∙ none.0) in
    let all = sym (append-nil now.yielded) ∙ rw empty at now.invariant.all ∙ c.into_iter-disjunct-iterator.ensures.into_iter_gives.0 in
    now.invariant.groups ∙ ap (groups_of c.args.x) all
