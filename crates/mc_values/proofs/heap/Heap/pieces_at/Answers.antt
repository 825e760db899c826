use Rattle.std.proofs.Common.{◌++◌, ◌∙◌, ap, sym}
use Rattle.mc_program.specs.Values.{state}
use Rattle.mc_values.specs.Heap.{value_at}
use Rattle.mc_values.specs.code.Cells.{named_of, plain_of, refs_before, written_before}
use Rattle.mc_values.specs.declared.cell.State.{State}
use Rattle.mc_values.proofs.WalkLaws.{piece_put, before_live}
use Rattle.mc_values.proofs.heap.Heap.pieces_at.Goals as goal

pub loop-state-preserved-in-Io : goal.loop-state-preserved-in-Io
loop-state-preserved-in-Io c =
    let h = c.args.self.now in
    let before = c.deref-in-Io.result.now.before in
    let taken = c.in-Io.found.value.taken in
    record {
      live = before_live h c.loop-state.state before c.in-Some.at c.cell.result.now c.in-Some.is c.loop-state.invariant.live c.cell.ensures.below (ap named_of c.in-Io.is ∙ ap (λ (s : State). refs_before s.before) (sym c.deref-in-Io.ensures));
      pieces = piece_put h c.loop-state.pieces.items c.push.new.self.items _ c.loop-state.state before c.in-Some.at taken c.cell.result.now _ (c.in_ok-push-in-Io.ensures {u = tt}).items c.in-Some.is c.cell.ensures.value
          (ap (plain_of (value_at h)) c.in-Io.is
          ∙ ap (λ (s : State). state (written_before (value_at h) s.before ++ c.in-Io.found.value.added) taken) (sym c.deref-in-Io.ensures)
          ∙ ap (λ (s : State). state (written_before (value_at h) before ++ s.added) taken) (sym c.deref.ensures))
          c.loop-state.invariant.pieces;
    }
