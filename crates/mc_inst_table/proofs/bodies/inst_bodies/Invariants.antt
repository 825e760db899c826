use Rattle.std.proofs.Common.{◌≡◌, map, take, Some}
use Rattle.mc_names.specs.Linked.{plain_named, plain_names}
use Rattle.mc_inst_table.specs.Plain.{plain_inst}
use Rattle.mc_inst_table.specs.Rules.{inst_body_of}
use Rattle.mc_inst_table.proofs.bodies.inst_bodies.Given as goal

abbrev pub invariant-loop-named : goal.invariant-loop-named
invariant-loop-named l =
    map plain_inst l.bodies.items
    ≡ map (λ n. inst_body_of (plain_names l.names) (Some (plain_named n)))
    (take l.named-index l.names.insts)
