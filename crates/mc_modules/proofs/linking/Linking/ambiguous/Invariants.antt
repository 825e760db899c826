use Rattle.std.proofs.Common.{◌≡◌, map, drop}
use Rattle.mc_names.specs.Plain.{plain_occurrence}
use Rattle.mc_decl_syntax.specs.Entries.{plain_files}
use Rattle.mc_modules.specs.Faults.{ambiguous}
use Rattle.mc_modules.proofs.linking.Linking.ambiguous.Given as goal

abbrev pub invariant-loop-used : goal.invariant-loop-used
invariant-loop-used l =
    ambiguous (plain_files l.self) l.own (map plain_occurrence (drop l.used-index l.uses)) ≡ ambiguous (plain_files l.self) l.own (map plain_occurrence l.uses)
