use Rattle.std.proofs.Common.{◌≡◌, ◌++◌, drop}
use Rattle.mc_decl_syntax.specs.Entries.{plain_files}
use Rattle.mc_modules.specs.code.Visibilities.{visibilities_from}
use Rattle.mc_modules.proofs.visibility.visibilities.Given as goal

abbrev pub invariant-loop-own : goal.invariant-loop-own
invariant-loop-own l =
    l.all.items ++ visibilities_from (plain_files l.files) l.own (plain_files (drop l.own l.files)) ≡ visibilities_from (plain_files l.files) 0 (plain_files l.files)
