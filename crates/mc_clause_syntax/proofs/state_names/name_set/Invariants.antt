use Rattle.std.proofs.Common.{◌≡◌, [], drop}
use Rattle.mc_base.specs.NameSets.{put_all}
use Rattle.mc_clause_syntax.specs.States.{names_of}
use Rattle.mc_clause_syntax.proofs.state_names.name_set.Given as goal

abbrev pub invariant-loop-name : goal.invariant-loop-name
invariant-loop-name l = put_all l.set (names_of (drop l.name-index l.names)) ≡ put_all [] (names_of l.names)
