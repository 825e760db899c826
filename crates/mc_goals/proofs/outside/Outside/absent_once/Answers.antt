use Rattle.std.proofs.Common.{◌≡◌, ◌<◌, ◌++◌, [], ◌∷◌, length, get_or, sym, ap, ap₂, ◌∙◌, arith}
use Rattle.mc_goals.specs.code.Outside.{count, more, less, absent}
use Rattle.mc_goals.proofs.OutsideCounts.{more_none, less_more, next_own, next_counts}
use Rattle.mc_goals.proofs.outside.Outside.absent_once.Goals as goal

pub loop-variable-init : goal.loop-variable-init
loop-variable-init c =
    record {
      own = c.new-own.ensures.items;
      counts = sym (more_none (count c.args.self.now)) ∙ ap (more (count c.args.self.now)) (sym c.new-own.ensures.items);
    }

pub loop-variable-preserved : goal.loop-variable-preserved
loop-variable-preserved c =
    let f = count c.args.self.now in
    let own = c.loop-variable.own.items in
    let i = c.loop-variable.variable-index in
    let v = get_or c.args.variables.now i 0 in
    let inside : i < length c.args.variables.now = omega arith in
    let added = c.in_ok-add_new.ensures {u = tt} in
    let list : c.add_new.new.list.items ≡ own ++ absent (count c.loop-variable.self) (v ∷ []) = added.list in
    record {
      own =
          next_own f c.args.variables.now own c.add_new.new.list.items i inside c.loop-variable.invariant.own
          (list ∙ ap (λ g. own ++ absent g (v ∷ [])) c.loop-variable.invariant.counts);
      counts = next_counts f (count c.loop-variable.self) (count c.add_new.new.self) own c.add_new.new.list.items v c.loop-variable.invariant.counts added.counts list;
    }

pub returns-clause-kept : goal.returns-clause-kept
returns-clause-kept c =
    let own = c.loop-variable.own.items in
    c.remove_all.ensures ∙ ap₂ less c.loop-variable.invariant.counts c.as_slice.ensures.value ∙ less_more (count c.args.self.now) own
