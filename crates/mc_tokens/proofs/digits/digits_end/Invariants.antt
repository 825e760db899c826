use Rattle.std.proofs.Common.{◌≡◌, ◌+◌, ◌-◌, ◌≤◌, length, drop}
use Rattle.std.specs.List.{prefix_len}
use Rattle.mc_tokens.specs.Classes.{is_digit_of}
use Rattle.mc_tokens.proofs.digits.digits_end.Given as goal

abbrev pub invariant-loop-i : goal.invariant-loop-i
invariant-loop-i l = record {
  run : l.from + prefix_len (is_digit_of l.base) (drop l.from l.text) ≡ l.i + prefix_len (is_digit_of l.base) (drop l.i l.text);
  above : l.from ≤ l.i;
  bound : l.i ≤ length l.text;
}

abbrev pub decreases-loop-i : goal.decreases-loop-i
decreases-loop-i l = length l.text - l.i
