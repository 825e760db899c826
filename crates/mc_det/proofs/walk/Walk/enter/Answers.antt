use Rattle.std.proofs.Common.{ℕ, List, length, sym, ap, ◌∙◌, subst}
use Rattle.std.proofs.lemmas.Result.{on_ok_weaker}
use Rattle.mc_accepted.specs.Ordered.{change_at}
use Rattle.mc_det.specs.code.Points.{insts_in, ChangesBelow}
use Rattle.mc_det.specs.code.Walks.{bounds_in}
use Rattle.mc_det.proofs.Walking.{changes_below, named_changes, ready_after, insts_after_node, both_ok}
use Rattle.mc_det.proofs.walk.Walk.enter.Goals as goal

pub enter-requires : goal.enter-requires
enter-requires c =
    let B = bounds_in c.args.procs.now (length c.args.types.now) in
    let p = c.args.self.now.point in
    subst (ChangesBelow (length p)) (sym c.as_slice.ensures.items)
    (changes_below B (length p) c.args.goal.now.changes c.requires.ready.many (named_changes B c.args.goal.now c.requires.named))

pub returns-clause-ready : goal.returns-clause-ready
returns-clause-ready c =
    let p = c.args.self.now.point in
    both_ok c.enter.result
    (λ e i. ready_after c.args.procs.now c.args.types.now p c.enter.new.self c.args.goal.now.changes c.requires.ready (named_changes (bounds_in c.args.procs.now (length c.args.types.now)) c.args.goal.now c.requires.named) e (i ∙ ap (λ (cs : List (ℕ × ℕ)). λ x. change_at x cs (insts_in p x)) c.as_slice.ensures.items))
    c.enter.ensures.count c.enter.ensures.insts

pub returns-clause-insts : goal.returns-clause-insts
returns-clause-insts c =
    let p = c.args.self.now.point in
    on_ok_weaker c.enter.result
    (λ i. i ∙ ap (λ (cs : List (ℕ × ℕ)). λ x. change_at x cs (insts_in p x)) c.as_slice.ensures.items ∙ sym (insts_after_node c.args.goal.now (insts_in p)))
    c.enter.ensures.insts
