use Rattle.std.proofs.Common.{◌≡◌, ◌++◌, drop}
use Rattle.mc_decl_syntax.specs.Entries.{plain_files}
use Rattle.mc_modules.specs.Faults.{faults_from, link_faults}
use Rattle.mc_modules.proofs.linking.Linking.faults.Given as goal

abbrev pub invariant-loop-own : goal.invariant-loop-own
invariant-loop-own l = l.broken.items ++ faults_from (plain_files l.self) l.own (plain_files (drop l.own l.self)) ≡ link_faults (plain_files l.self)
