use Rattle.std.proofs.Common.{◌≡◌, ℕ, ◌-◌, ◌≤◌, min, false, length, drop}
use Rattle.mc_tokens.specs.Spots.{Digits}
use Rattle.mc_tokens.specs.Contents.{contents}
use Rattle.mc_tokens.specs.code.Walks.{quote_walk}
use Rattle.mc_tokens.proofs.quoting.numeral.Given as goal

-- v is the value of the digits so far
abbrev pub invariant-loop-i : goal.invariant-loop-i
invariant-loop-i l = record {
  walk : (v : ℕ) × (l.value ≡ min v 1114112)
      × ((q start : ℕ) → quote_walk q start (Digits l.at l.base 0 false) l.from (drop l.from l.text) ≡ quote_walk q start (Digits l.at l.base v l.some) l.i (drop l.i l.text))
      × ((q : ℕ) → contents q (Digits 0 l.base 0 false) 0 (drop l.from l.text) ≡ contents q (Digits 0 l.base v l.some) 0 (drop l.i l.text));
  above : l.from ≤ l.i;
  bound : l.i ≤ length l.text;
}

abbrev pub decreases-loop-i : goal.decreases-loop-i
decreases-loop-i l = length l.text - l.i
