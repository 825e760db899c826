use Rattle.std.proofs.Common.{◌≡◌, ℕ, ◌-◌, ◌≤◌, length, drop}
use Rattle.mc_tokens.specs.Spots.{Block, layout}
use Rattle.mc_tokens.proofs.comments.block_rest.Given as goal

abbrev pub invariant-loop-i : goal.invariant-loop-i
invariant-loop-i l = record {
  walk : (start : ℕ) → layout (Block start) l.from (drop l.from l.text) ≡ layout (Block start) l.i (drop l.i l.text);
  above : l.from ≤ l.i;
  bound : l.i ≤ length l.text;
}

abbrev pub decreases-loop-i : goal.decreases-loop-i
decreases-loop-i l = length l.text - l.i
