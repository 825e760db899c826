use Rattle.std.proofs.Common.{◌&&◌, ℕ, List, length, refl, sym, ap, ◌∙◌}
use Rattle.std.specs.List.{list_any}
use Rattle.mc_model.specs.Stream.{is_bound}
use Rattle.mc_accepted.specs.Ordered.{change_at, binds_one}
use Rattle.mc_det.specs.declared.prune.Pruning.{Pruning}
use Rattle.mc_det.specs.code.Points.{insts_in}
use Rattle.mc_det.specs.code.Prunes.{is_free_outside}
use Rattle.mc_det.specs.code.Walks.{bounds_in}
use Rattle.mc_det.proofs.BoundOutside.{any_given, bound_outside}
use Rattle.mc_det.proofs.Walking.{changes_below, named_changes, insts_after_node}
use Rattle.mc_det.proofs.prune.Pruning.binds_outside.Goals as goal

pub returns : goal.returns
returns c Q h =
    let a : Pruning = c.args.self.now in
    let g = c.args.goal.now in
    let B = bounds_in c.args.procs.now (length c.args.types.now) in
    c.one_given.ensures
    ∙ ap (λ (cs : List (ℕ × ℕ)). list_any (λ (e : ℕ × ℕ). is_free_outside a.point a.outside e && is_bound (change_at e.0 cs (insts_in a.point e.0))) cs) c.as_slice.ensures.items
    ∙ any_given (λ x. is_bound (change_at x g.changes (insts_in a.point x))) (is_free_outside a.point a.outside) g.changes
    ∙ bound_outside Q a.outside a.point (λ x. change_at x g.changes (insts_in a.point x)) h g.changes
    (changes_below B (length a.outside) g.changes c.requires.count (named_changes B g c.requires.named))
    (λ x. refl)
    ∙ ap (binds_one Q (insts_in a.point)) (sym (insts_after_node g (insts_in a.point)))
