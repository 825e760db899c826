use Rattle.std.proofs.Common.{◌≡◌, ◌++◌, length, drop, vec_len}
use Rattle.mc_procs.specs.Procedures.{with_procs}
use Rattle.mc_det.specs.code.Marks.{AllStand}
use Rattle.mc_det.proofs.procedures.replace_all.Given as goal

abbrev pub invariant-loop-p : goal.invariant-loop-p
invariant-loop-p l =
    record {
      others : l.procs ≡ with_procs l.fn.procs l.procs.added;
      count : length l.procs.added ≡ length l.fn.procs.added;
      number : l.k ≡ length l.left.items;
      stand : AllStand l.fn.procs l.left.items;
      whole : l.left.items ++ drop (length l.left.items) l.procs.added ≡ l.fn.marked.items;
    }

abbrev pub decreases-loop-p : goal.decreases-loop-p
decreases-loop-p l = vec_len l.left
