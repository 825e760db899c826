use Rattle.std.proofs.Common.{◌≡◌, ◌<◌, ℕ, length}
use Rattle.mc_inst_table.specs.declared.heads.Head.TheVariants as H
use Rattle.mc_inst_table.specs.code.Ends.{head_at}
use Rattle.mc_inst_table.proofs.heads.all_unknown.Given as goal

abbrev pub invariant-loop-k : goal.invariant-loop-k
invariant-loop-k l =
    (length l.heads.items ≡ l.k)
    × ((d : ℕ) → d < l.k → head_at l.heads.items d ≡ H.Unknown)
