use Rattle.std.proofs.Common.{◌≡◌, ◌<◌, ℕ}
use Rattle.mc_inst_table.specs.declared.heads.Head.TheVariants as H
use Rattle.mc_inst_table.specs.code.Ends.{bodies_of, end_of, head_at}
use Rattle.mc_inst_table.proofs.heads.are_settled.Given as goal

abbrev pub invariant-loop-k : goal.invariant-loop-k
invariant-loop-k l =
    (d : ℕ) → d < l.k → head_at l.heads d ≡ H.Unknown → end_of (head_at l.heads) (bodies_of l.bodies d) ≡ H.Unknown
