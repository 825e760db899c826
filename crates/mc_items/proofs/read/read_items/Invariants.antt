use Rattle.std.proofs.Common.{◌≡◌, ◌-◌, ◌≤◌, length, map}
use Rattle.mc_terms.specs.Lines.{line_at}
use Rattle.mc_decl_syntax.specs.Entries.{plain_entry}
use Rattle.mc_items.proofs.Done.{Done}
use Rattle.mc_items.proofs.read.read_items.Given as goal

abbrev pub invariant-items : goal.invariant-items
invariant-items l = record {
  same : l.walk ≡ l.text;
  within : l.from.at ≤ length l.text;
  line : l.from.line ≡ line_at l.text l.from.at;
  done : Done l.file l.text l.from.at (map plain_entry l.found.entries.items) l.found.broken.items;
}

abbrev pub decreases-items : goal.decreases-items
decreases-items l = length l.text - l.from.at
