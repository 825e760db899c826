use Rattle.std.proofs.Common.{◌≡◌, ◌+◌, length, map}
use Rattle.mc_types.specs.code.Standing.{Stands, choices}
use Rattle.mc_types.proofs.Progress.{Progress, TypesFit}
use Rattle.mc_types.proofs.Tally.{to_meet}
use Rattle.mc_types.proofs.resolves.resolve.Given as goal

abbrev pub invariant-moves : goal.invariant-moves
invariant-moves l = record {
  stands : Stands l.signatures l.steps l.places l.search;
  long : length l.counts.items ≡ length l.steps + 1;
  progress : Progress l.signatures l.steps (choices l.search.path.items) l.search.next l.counts.items l.limit (map (λ v. v.items) l.found.items);
  fit : TypesFit l.signatures l.steps l.vars l.types.items (map (λ v. v.items) l.found.items);
}

abbrev pub decreases-moves : goal.decreases-moves
decreases-moves l = to_meet l.limit l.counts.items
