-- Names of the library, as code has them.
use Rattle.mc_program.specs.Programs.{FullName}
use Rattle.mc_self_check.specs.declared.declared.LibraryName.{LibraryName}

abbrev pub plain_library_name : LibraryName → FullName
plain_library_name n =
    record { module_name = n.«module».now; bytes = n.name.now; arity = n.arity }
