use Rattle.std.proofs.Common.{◌≡◌, ◌++◌, drop}
use Rattle.mc_names.specs.Plain.{plain_name_arity}
use Rattle.mc_names.specs.Linked.{plain_names}
use Rattle.mc_names.specs.Candidates.{fitting_in}
use Rattle.mc_names.proofs.names.Names.put_of_modules.Given as goal

abbrev pub invariant-loop-module : goal.invariant-loop-module
invariant-loop-module l = l.all.items ++ fitting_in (plain_names l.self) l.own (plain_name_arity l.id) (drop l.module-index l.modules) ≡ l.fn.all.items ++ fitting_in (plain_names l.self) l.own (plain_name_arity l.id) l.modules
