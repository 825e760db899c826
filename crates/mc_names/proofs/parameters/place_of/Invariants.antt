use Rattle.std.proofs.Common.{◌≡◌, ◌+◌, drop}
use Rattle.mc_names.specs.Parameters.{place_of}
use Rattle.mc_names.proofs.parameters.place_of.Given as goal

abbrev pub invariant-loop-known : goal.invariant-loop-known
invariant-loop-known l =
    (l.place ≡ l.known-index) × (l.known-index + place_of l.name (drop l.known-index l.names) ≡ place_of l.name l.names)
