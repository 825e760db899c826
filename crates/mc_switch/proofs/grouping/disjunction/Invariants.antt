use Rattle.std.proofs.Common.{◌≡◌, ◌++◌, length, map}
use Rattle.std.specs.Vec.Iter.{into_iter_items, into_iter_len}
use Rattle.mc_model.specs.PlainGoals.{plain_node}
use Rattle.mc_switch.specs.declared.disjunct.Opened.{Opened}
use Rattle.mc_switch.proofs.grouping.disjunction.Given as goal

abbrev pub invariant-loop-disjunct : goal.invariant-loop-disjunct
invariant-loop-disjunct l = record {
  all : l.yielded ++ into_iter_items l.disjunct-iterator ≡ into_iter_items l.initial.disjunct-iterator;
  left : into_iter_len l.disjunct-iterator ≡ length (into_iter_items l.disjunct-iterator);
  goals : map plain_node l.goals.items ≡ map (λ (o : Opened). plain_node o.goal) l.yielded;
}
