use Rattle.std.proofs.Common.{◌≡◌, ◌<◌, ℕ, length, vec_len}
use Rattle.mc_program.specs.Programs.{TypeTerm}
use Rattle.mc_insts.specs.code.Lists.{Extends}
use Rattle.mc_insts.specs.code.TypeRows.{terms, term_at}
use Rattle.mc_insts.specs.code.Frames.{rebuilt, FramesFit}
use Rattle.mc_insts.proofs.intern.climb.Given as goal

abbrev pub invariant-loop-frame : goal.invariant-loop-frame
invariant-loop-frame l = record {
  there : l.row < length (terms l.types);
  fit : FramesFit (length (terms l.types)) l.frames.items;
  extends : Extends (terms l.fn.types) (terms l.types);
  same : (σ : ℕ → TypeTerm) → rebuilt (terms l.types) σ l.frames.items (term_at (terms l.types) l.row) ≡ rebuilt (terms l.fn.types) σ l.fn.frames.items (term_at (terms l.fn.types) l.r);
}

abbrev pub decreases-loop-frame : goal.decreases-loop-frame
decreases-loop-frame l = vec_len l.frames
