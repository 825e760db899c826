use Rattle.std.proofs.Common.{◌≡◌, ◌++◌, length, All}
use Rattle.std.specs.Vec.Iter.{into_iter_items, into_iter_len}
use Rattle.mc_switch.specs.code.Labels.{KeepsFirst}
use Rattle.mc_switch.specs.code.Groups.{plain_groups, groups_of, AreLabelled}
use Rattle.mc_switch.proofs.groups.split.Given as goal

abbrev pub invariant-loop-disjunct : goal.invariant-loop-disjunct
invariant-loop-disjunct l = record {
  all : l.yielded ++ into_iter_items l.disjunct-iterator ≡ into_iter_items l.initial.disjunct-iterator;
  left : into_iter_len l.disjunct-iterator ≡ length (into_iter_items l.disjunct-iterator);
  first : All KeepsFirst (into_iter_items l.disjunct-iterator);
  labels : AreLabelled l.found.labels.keys l.found.groups.items;
  groups : plain_groups l.found.groups.items ≡ groups_of l.x l.yielded;
}
