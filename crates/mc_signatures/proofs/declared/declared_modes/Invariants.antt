use Rattle.std.proofs.Common.{◌≡◌, map, take}
use Rattle.mc_decl_syntax.specs.Entries.{plain_files}
use Rattle.mc_names.specs.Linked.{plain_named, plain_names}
use Rattle.mc_signatures.specs.WrittenModes.{plain_written, modes_of}
use Rattle.mc_signatures.proofs.declared.declared_modes.Given as goal

abbrev pub invariant-loop-named : goal.invariant-loop-named
invariant-loop-named l =
    map (map plain_written) l.rows.items
    ≡ map (λ n. modes_of (plain_names l.names) (plain_files l.files) (plain_named n)) (take l.named-index l.names.preds)
