use Rattle.std.proofs.Common.{◌≡◌, drop}
use Rattle.mc_decl_syntax.specs.Entries.{plain_files}
use Rattle.mc_modules.specs.Faults.{missing}
use Rattle.mc_modules.proofs.linking.Linking.missing.Given as goal

abbrev pub invariant-loop-name : goal.invariant-loop-name
invariant-loop-name l = missing (plain_files l.self) (drop l.name-index l.names) ≡ missing (plain_files l.self) l.names
