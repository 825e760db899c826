use Rattle.std.proofs.Common.{◌≡◌, ℕ, ◌-◌, ◌≤◌, min, length, drop}
use Rattle.mc_tokens.specs.Spots.{Exact}
use Rattle.mc_tokens.specs.Contents.{contents}
use Rattle.mc_tokens.specs.code.Walks.{quote_walk}
use Rattle.mc_tokens.proofs.quoting.exact.Given as goal

-- v is the value of the digits so far
abbrev pub invariant-loop-i : goal.invariant-loop-i
invariant-loop-i l = record {
  walk : (v : ℕ) × (l.value ≡ min v 1114112)
      × ((q start : ℕ) → quote_walk q start (Exact l.at l.more 0) l.from (drop l.from l.text) ≡ quote_walk q start (Exact l.at l.left v) l.i (drop l.i l.text))
      × ((q : ℕ) → contents q (Exact 0 l.more 0) 0 (drop l.from l.text) ≡ contents q (Exact 0 l.left v) 0 (drop l.i l.text));
  above : l.from ≤ l.i;
  bound : l.i ≤ length l.text;
}

abbrev pub decreases-loop-i : goal.decreases-loop-i
decreases-loop-i l = length l.text - l.i
