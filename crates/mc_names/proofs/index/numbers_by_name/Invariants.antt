use Rattle.std.proofs.Common.{◌≡◌, ◌++◌, ℕ, List, drop}
use Rattle.mc_names.specs.code.Index.{listed, numbers_called}
use Rattle.mc_names.proofs.index.numbers_by_name.Given as goal

abbrev pub invariant-loop-number : goal.invariant-loop-number
invariant-loop-number l = (w : List ℕ) → listed l.index w ++ numbers_called w l.number (drop l.number l.names) ≡ numbers_called w 0 l.names
