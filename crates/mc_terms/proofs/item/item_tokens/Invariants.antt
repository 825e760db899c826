use Rattle.std.proofs.Common.{◌≡◌, ◌-◌, ◌<◌, length}
use Rattle.mc_terms.specs.Lines.{line_at}
use Rattle.mc_terms.proofs.Items.{IsNext}
use Rattle.mc_terms.proofs.item.item_tokens.Given as goal

abbrev pub invariant-item : goal.invariant-item
invariant-item l = record {
  same : l.walk ≡ l.initial.walk;
  begins : l.place.at ≡ l.token.start;
  line : l.place.line ≡ line_at l.walk l.place.at;
  behind : l.from.at < l.token.end;
  next : IsNext l.walk l.from.at l.tokens.items l.token;
}

abbrev pub decreases-item : goal.decreases-item
decreases-item l = length l.initial.walk - l.token.start
