use Rattle.std.proofs.Common.{◌≡◌, drop}
use Rattle.mc_base.specs.NameSets.{put_all}
use Rattle.mc_clause_syntax.specs.States.{names_of}
use Rattle.mc_state_variables.proofs.names.put_new_names.Given as goal

abbrev pub invariant-loop-name : goal.invariant-loop-name
invariant-loop-name l = record {
  set : put_all l.set (names_of (drop l.name-index l.names)) ≡ put_all l.initial.set (names_of l.names);
  order : names_of l.initial.in_order.items ≡ l.initial.set → names_of l.in_order.items ≡ l.set;
}
