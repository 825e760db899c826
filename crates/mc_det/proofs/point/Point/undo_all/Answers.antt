use Rattle.std.proofs.Common.{List, ℕ, ap, sym, ◌∙◌}
use Rattle.mc_det.specs.code.Points.{undone}
use Rattle.mc_det.proofs.Entering.{undone_more}
use Rattle.mc_det.proofs.point.Point.undo_all.Goals as goal

pub loop-change-preserved : goal.loop-change-preserved
loop-change-preserved c =
    ap (undone c.last_of.new.changes.items) c.put.ensures
    ∙ sym (undone_more c.last_of.new.changes.items c.in-Some.change.0 c.in-Some.change.1 c.loop-change.self)
    ∙ ap (λ (l : List (ℕ × ℕ)). undone l c.loop-change.self) (sym c.in-Some.ensures)
    ∙ c.loop-change.invariant
