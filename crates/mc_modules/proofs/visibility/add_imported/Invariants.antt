use Rattle.std.proofs.Common.{◌≡◌, drop, map}
use Rattle.mc_decl_syntax.specs.Entries.{plain_entry}
use Rattle.mc_names.specs.Numbers.{number_of}
use Rattle.mc_modules.specs.code.Visibilities.{with_named_in, imports}
use Rattle.mc_modules.proofs.visibility.add_imported.Given as goal

abbrev pub invariant-loop-entry : goal.invariant-loop-entry
invariant-loop-entry l =
    with_named_in imports (number_of l.names) (map plain_entry (drop l.entry-index l.file)) l.modules ≡ with_named_in imports (number_of l.names) (map plain_entry l.file) l.initial.modules
