use Rattle.std.proofs.Common.{◌≡◌, ◌≤◌, length}
use Rattle.mc_terms.specs.Lines.{line_at}
use Rattle.bench_reading.proofs.terms.terms_of.Given as goal

abbrev pub invariant-items : goal.invariant-items
invariant-items l = record {
  same : l.walk ≡ l.text;
  within : l.from.at ≤ length l.text;
  line : l.from.line ≡ line_at l.text l.from.at;
}
