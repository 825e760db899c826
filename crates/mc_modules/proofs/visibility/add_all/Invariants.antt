use Rattle.std.proofs.Common.{◌≡◌, drop}
use Rattle.mc_names.specs.Numbers.{number_of}
use Rattle.mc_modules.specs.code.Visibilities.{with_named}
use Rattle.mc_modules.proofs.visibility.add_all.Given as goal

abbrev pub invariant-loop-path : goal.invariant-loop-path
invariant-loop-path l = with_named (number_of l.names) (drop l.path-index l.paths) l.modules ≡ with_named (number_of l.names) l.paths l.initial.modules
