use Rattle.mc_values.proofs.WalkLaws.{piece_taken}
use Rattle.mc_values.proofs.heap.Heap.written_at.Goals as goal

pub loop-piece-preserved : goal.loop-piece-preserved
loop-piece-preserved c =
    piece_taken c.loop-piece.pieces.items c.pop.new.self.items c.in-Some.piece c.loop-piece.text c.extend.new.self c.bytes.result.now _ (c.in-Some.ensures {u = tt}).items (c.in_ok-extend.ensures {u = tt}).ok c.bytes.ensures.items c.loop-piece.invariant
