use Rattle.std.proofs.Common.{◌≡◌, ◌++◌, length, map, take, All}
use Rattle.std.specs.Vec.Iter.{into_iter_items, into_iter_len}
use Rattle.mc_model.specs.PlainGoals.{plain_node}
use Rattle.mc_switch.specs.code.Grouping.{disjuncts_of, nodes_of}
use Rattle.mc_switch.specs.code.Parts.{AreKept}
use Rattle.mc_switch.specs.code.Labels.{KeepsFirst, plain_opened}
use Rattle.mc_switch.proofs.grouping.all_opened.Given as goal

abbrev pub invariant-loop-goal : goal.invariant-loop-goal
invariant-loop-goal l = record {
  all : l.yielded ++ into_iter_items l.goal-iterator ≡ into_iter_items l.initial.goal-iterator;
  left : into_iter_len l.goal-iterator ≡ length (into_iter_items l.goal-iterator);
  many : length l.disjuncts.items ≡ length l.yielded;
  first : All KeepsFirst l.disjuncts.items;
  disjuncts : map plain_opened l.disjuncts.items ≡ disjuncts_of (map plain_node (take (length l.yielded) l.sources)) (nodes_of l.yielded);
  kept : AreKept l.yielded l.disjuncts.items;
}
