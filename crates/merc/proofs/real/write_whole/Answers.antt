use Rattle.std.proofs.Common.{ℕ, arith, length-drop}
use Rattle.merc.proofs.Written.{Appends-more, Appends-kept, take-rest}
use Rattle.merc.proofs.real.write_whole.Goals as goal
use Rattle.merc.proofs.real.write_whole.Goals.{in-Ok, in-Err+else-ne}

pub loop-preserved : goal.loop-preserved
loop-preserved g c =
    elim c.match-write.branch [
      | in-Ok w ↦
          let whole = take-rest c.args.piece.now c.loop.done in
          let bytes = rw whole at w.in-Ok.ensures.bytes in
          let bound = rw whole at w.in-Ok.ensures.bound in
          rw w.done-is (omega (arith, length-drop {A = ℕ}), Appends-more _ _ _ _ _ _ c.loop.invariant.1 bytes)
      | in-Err+else-ne w ↦ rw w.done-is (c.loop.invariant.0, Appends-kept _ _ _ _ c.loop.invariant.1 w.in-Err.ensures.bytes)
    ]
