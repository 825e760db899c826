use Rattle.std.proofs.Common.{◌≡◌, ◌≤◌, length, drop}
use Rattle.mc_modules.specs.Files.{module_names}
use Rattle.mc_decl_syntax.specs.Entries.{plain_files}
use Rattle.mc_names.specs.Numbers.{number_of}
use Rattle.mc_modules.specs.code.Visibilities.{named_behind}
use Rattle.mc_modules.proofs.module_names.ModuleNames.put_from.Given as goal

abbrev pub invariant-loop-k : goal.invariant-loop-k
invariant-loop-k l = record {
  above : l.from ≤ l.k;
  within : l.k ≤ length l.files;
  named : number_of l.self ≡ named_behind l.k (drop l.k (module_names (plain_files l.files))) (number_of l.initial.self);
}

abbrev pub decreases-loop-k : goal.decreases-loop-k
decreases-loop-k l = l.k
