use Rattle.std.proofs.Common.{◌≡◌, ◌++◌, drop}
use Rattle.mc_names.specs.Plain.{plain_name_arity}
use Rattle.mc_names.specs.Linked.{plain_names}
use Rattle.mc_names.specs.Candidates.{fitting}
use Rattle.mc_names.proofs.names.Names.put_fitting.Given as goal

abbrev pub invariant-loop-candidate : goal.invariant-loop-candidate
invariant-loop-candidate l =
    l.all.items ++ fitting (plain_names l.self) l.own (plain_name_arity l.id) (drop l.candidate-index l.candidates) ≡ l.fn.all.items ++ fitting (plain_names l.self) l.own (plain_name_arity l.id) l.candidates
