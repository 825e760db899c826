use Rattle.std.proofs.Common.{◌≡◌, drop}
use Rattle.mc_typecheck.specs.code.Marking.{topmost, all_unmarked}
use Rattle.mc_typecheck.proofs.marks.Marks.unmark_topmost.Given as goal

abbrev pub invariant-loop-k : goal.invariant-loop-k
invariant-loop-k l =
    (all_unmarked (drop l.k l.self.stack.items) l.self.flags.items ≡ all_unmarked (topmost l.count l.fn.self.stack.items) l.fn.self.flags.items)
    × (l.self.stack.items ≡ l.fn.self.stack.items)
