use Rattle.std.proofs.Common.{◌≡◌, ◌++◌, ◌+◌, ◌*◌, length, map, All}
use Rattle.std.specs.Vec.Iter.{into_iter_items, into_iter_len}
use Rattle.mc_model.specs.PlainGoals.{plain_arm}
use Rattle.mc_switch.specs.code.Groups.{plain_groups}
use Rattle.mc_switch.specs.code.Parts.{KeepsGroup, KeepsEnds, AreArmsOf}
use Rattle.mc_switch.specs.Kept.{Merges, OnlyGrew}
use Rattle.mc_switch.proofs.grouping.+grouped.Given as goal

abbrev pub decreases-grouped : goal.decreases-grouped
decreases-grouped l = 4 * l.times

abbrev pub decreases-part : goal.decreases-part
decreases-part l = 4 * l.times + 1

abbrev pub decreases-arm : goal.decreases-arm
decreases-arm l = 4 * l.times + 2

abbrev pub decreases-arms : goal.decreases-arms
decreases-arms l = 4 * l.times + 3

abbrev pub invariant-arms-loop-group : goal.invariant-arms-loop-group
invariant-arms-loop-group l = record {
  all : l.yielded ++ into_iter_items l.group-iterator ≡ into_iter_items l.initial.group-iterator;
  left : into_iter_len l.group-iterator ≡ length (into_iter_items l.group-iterator);
  first : All KeepsGroup (into_iter_items l.group-iterator);
  ends : All (KeepsEnds l.procs l.around) (into_iter_items l.group-iterator);
  merges : Merges l.procs l.around.types.now l.fn.merger.found l.merger.found;
  grew : OnlyGrew l.fn.procs l.procs;
  out : l.out ≡ l.fn.out;
  arms : AreArmsOf l.procs l.merger.found l.around l.fn.out l.times (plain_groups l.yielded) (map plain_arm l.arms.items);
}
