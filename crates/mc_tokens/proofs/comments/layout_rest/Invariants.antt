use Rattle.std.proofs.Common.{◌≡◌, ◌-◌, ◌≤◌, length, drop}
use Rattle.mc_tokens.specs.Spots.{Between, layout}
use Rattle.mc_tokens.specs.code.Seen.{OpenComment}
use Rattle.mc_tokens.proofs.comments.layout_rest.Given as goal

abbrev pub invariant-loop-i : goal.invariant-loop-i
invariant-loop-i l = record {
  walk : layout Between l.from (drop l.from l.text) ≡ layout Between l.i (drop l.i l.text);
  above : l.from ≤ l.i;
  bound : l.i ≤ length l.text;
  known : OpenComment l.text l.known;
}

abbrev pub decreases-loop-i : goal.decreases-loop-i
decreases-loop-i l = length l.text - l.i
