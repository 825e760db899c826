-- What builtins are declared as, as code has it.
use Rattle.mc_accepted.specs.BuiltinTypes.{Builtin_name}
use Rattle.mc_declarations.specs.declared.builtins.LibraryName.{LibraryName}

abbrev pub plain_library_name : LibraryName → Builtin_name
plain_library_name n =
    record {
      name = record { module_name = n.«module».now; bytes = n.name.now; arity = n.arity };
      is_function = n.is_func;
    }
