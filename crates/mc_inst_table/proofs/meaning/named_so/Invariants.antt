use Rattle.std.proofs.Common.{◌≡◌, ◌++◌, drop}
use Rattle.mc_names.specs.Linked.{plain_names}
use Rattle.mc_names.specs.Candidates.{named_so}
use Rattle.mc_inst_table.proofs.meaning.named_so.Given as goal

abbrev pub invariant-loop-module : goal.invariant-loop-module
invariant-loop-module l =
    l.all.items ++ named_so (plain_names l.names) l.name (drop l.module-index l.modules)
    ≡ named_so (plain_names l.names) l.name l.modules
