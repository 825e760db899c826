use Rattle.std.proofs.Common.{◌≡◌, ◌++◌, length, map}
use Rattle.std.specs.Vec.Iter.{into_iter_items, into_iter_len}
use Rattle.mc_model.specs.PlainGoals.{plain_node}
use Rattle.mc_switch.specs.code.Grouping.{nodes_of}
use Rattle.mc_switch.proofs.formed.disjunction_of.Given as goal

abbrev pub invariant-loop-goal : goal.invariant-loop-goal
invariant-loop-goal l = record {
  all : l.yielded ++ into_iter_items l.goal-iterator ≡ into_iter_items l.initial.goal-iterator;
  left : into_iter_len l.goal-iterator ≡ length (into_iter_items l.goal-iterator);
  goals : map plain_node l.nodes.items ≡ nodes_of l.yielded;
}
