use Rattle.std.proofs.Common.{◌≡◌, map, take, Some}
use Rattle.std.specs.Option.{option_map}
use Rattle.mc_names.specs.Linked.{plain_named, plain_names}
use Rattle.mc_inst_table.specs.Plain.{plain_mode}
use Rattle.mc_signatures.specs.MeantModes.{mode_body_of}
use Rattle.mc_signatures.proofs.meant.mode_bodies.Given as goal

abbrev pub invariant-loop-named : goal.invariant-loop-named
invariant-loop-named l =
    map (option_map plain_mode) l.bodies.items
    ≡ map (λ n. mode_body_of (plain_names l.names) (Some (plain_named n)))
    (take l.named-index l.names.modes)
