use Rattle.std.proofs.Common.{◌≡◌, drop, map, length}
use Rattle.mc_names.specs.Plain.{plain_name_arity}
use Rattle.mc_names.specs.Linked.{plain_named, plain_names}
use Rattle.mc_inst_table.specs.Written.{numbers_among, first_or}
use Rattle.mc_inst_table.proofs.meaning.first_of.Given as goal

abbrev pub invariant-loop-module : goal.invariant-loop-module
invariant-loop-module l =
    let ds = map plain_named l.definitions in
    let among = numbers_among (plain_names l.names) l.own (plain_name_arity l.id) ds in
    first_or (length ds) (among (drop l.module-index l.modules)) ≡ first_or (length ds) (among l.modules)
