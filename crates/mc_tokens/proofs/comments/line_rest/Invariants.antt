use Rattle.std.proofs.Common.{◌≡◌, ◌-◌, ◌≤◌, length, drop}
use Rattle.mc_tokens.specs.Spots.{Line, layout}
use Rattle.mc_tokens.proofs.comments.line_rest.Given as goal

abbrev pub invariant-loop-i : goal.invariant-loop-i
invariant-loop-i l = record {
  walk : layout Line l.from (drop l.from l.text) ≡ layout Line l.i (drop l.i l.text);
  above : l.from ≤ l.i;
  bound : l.i ≤ length l.text;
}

abbrev pub decreases-loop-i : goal.decreases-loop-i
decreases-loop-i l = length l.text - l.i
