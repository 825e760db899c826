use Rattle.std.proofs.Common.{◌≡◌, drop}
use Rattle.std.specs.Set.{is_member}
use Rattle.std.specs.Str.{bytes_eq}
use Rattle.mc_type_table.proofs.variables.is_among.Given as goal

abbrev pub invariant-loop-known : goal.invariant-loop-known
invariant-loop-known l =
    is_member bytes_eq (drop l.known-index l.names) l.name ≡ is_member bytes_eq l.names l.name
