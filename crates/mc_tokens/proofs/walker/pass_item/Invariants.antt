use Rattle.std.proofs.Common.{ℕ, ◌-◌, ◌≤◌, length}
use Rattle.mc_tokens.specs.Items.{Passes}
use Rattle.mc_tokens.specs.code.Seen.{Holds}
use Rattle.mc_tokens.proofs.walker.pass_item.Given as goal

abbrev pub invariant-loop-token : goal.invariant-loop-token
invariant-loop-token l = record {
  above : l.at ≤ l.place;
  bound : l.place ≤ length l.text;
  seen : Holds l.text l.seen;
  passes : (last : ℕ) → Passes l.text l.place l.before last → Passes l.text l.at l.fn.after last;
}

abbrev pub decreases-loop-token : goal.decreases-loop-token
decreases-loop-token l = length l.text - l.place
