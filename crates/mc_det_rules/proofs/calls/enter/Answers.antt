use Rattle.std.proofs.Common.{ℕ, List, length, refl, sym, ap, ◌∙◌, subst}
use Rattle.std.proofs.lemmas.Result.{on_ok_weaker}
use Rattle.mc_accepted.specs.Ordered.{change_at}
use Rattle.mc_det.specs.code.Points.{insts_in, ChangesBelow}
use Rattle.mc_det.specs.code.Walks.{bounds_in}
use Rattle.mc_det.proofs.Walking.{changes_below, named_changes, insts_after_node}
use Rattle.mc_det_rules.proofs.calls.enter.Goals as goal

pub enter-requires : goal.enter-requires
enter-requires c =
    let n = length c.args.point.now in
    let B = bounds_in c.args.procs.now n in
    subst (ChangesBelow n) (sym c.as_slice.ensures.items)
    (changes_below B n c.args.goal.now.changes refl (named_changes B c.args.goal.now c.requires.named))

pub returns-clause-insts : goal.returns-clause-insts
returns-clause-insts c =
    let p = c.args.point.now in
    on_ok_weaker c.enter.result
    (λ i. i ∙ ap (λ (cs : List (ℕ × ℕ)). λ x. change_at x cs (insts_in p x)) c.as_slice.ensures.items ∙ sym (insts_after_node c.args.goal.now (insts_in p)))
    c.enter.ensures.insts
