use Rattle.std.proofs.Common.{◌≡◌}
use Rattle.mc_switch.specs.Kept.{changes_of, Merges, OnlyGrew}
use Rattle.mc_switch.specs.code.Ends.{ChangesSo}
use Rattle.mc_switch.proofs.merging.Merger.changes.Given as goal

abbrev pub invariant-loop-x : goal.invariant-loop-x
invariant-loop-x l = record {
  changes : ChangesSo l.procs l.around l.self.found l.disjuncts (λ M b c es. l.changes.items ≡ changes_of M b c es l.x);
  merges : Merges l.procs l.around.types.now l.fn.self.found l.self.found;
  grew : OnlyGrew l.fn.procs l.procs;
}
