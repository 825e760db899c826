use Rattle.std.proofs.Common.{ℕ, List, length, sym, ap, ◌∙◌, subst}
use Rattle.std.proofs.lemmas.Result.{on_ok_weaker}
use Rattle.mc_accepted.specs.Ordered.{change_at}
use Rattle.mc_det.specs.code.Points.{insts_in, ChangesBelow}
use Rattle.mc_det.specs.code.Walks.{bounds_in}
use Rattle.mc_det.proofs.Walking.{changes_below, ready_after, both_ok}
use Rattle.mc_det.proofs.prune.Pruning.enter.Goals as goal

pub enter-requires : goal.enter-requires
enter-requires c =
    let p = c.args.self.now.point in
    subst (ChangesBelow (length p)) (sym c.as_slice.ensures.items)
    (changes_below (bounds_in c.args.procs.now (length c.args.types.now)) (length p) c.args.changes.now c.requires.ready.many c.requires.named)

pub returns-clause-ready : goal.returns-clause-ready
returns-clause-ready c =
    let p = c.args.self.now.point in
    both_ok c.enter.result
    (λ e i. ready_after c.args.procs.now c.args.types.now p c.enter.new.self c.args.changes.now c.requires.ready c.requires.named e (i ∙ ap (λ (cs : List (ℕ × ℕ)). λ x. change_at x cs (insts_in p x)) c.as_slice.ensures.items))
    c.enter.ensures.count c.enter.ensures.insts

pub returns-clause-insts : goal.returns-clause-insts
returns-clause-insts c =
    on_ok_weaker c.enter.result
    (λ i. i ∙ ap (λ (cs : List (ℕ × ℕ)). λ x. change_at x cs (insts_in c.args.self.now.point x)) c.as_slice.ensures.items)
    c.enter.ensures.insts
