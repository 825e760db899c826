-- Predicates and functions as plain data, without references.
use Rattle.mc_names.specs.Plain.{plain_name_arity}
use Rattle.mc_signatures.specs.WrittenModes.{Callable}
use Rattle.mc_signatures.specs.declared.callable.Callable.{Callable as Named}

abbrev pub plain_callable : Named → Callable
plain_callable c = record { is_function = c.is_function; id = plain_name_arity c.id }
