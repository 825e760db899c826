use Rattle.std.proofs.Common.{◌≡◌, length}
use Rattle.mc_typecheck.proofs.Naming.{PlacesNamed}
use Rattle.mc_typecheck.proofs.named.name_places.Given as goal

abbrev pub invariant-loop-k : goal.invariant-loop-k
invariant-loop-k l =
    (length l.types.items ≡ length l.fn.types.items)
    × PlacesNamed l.fn.types.items l.types.items l.signature.types.items l.places l.k
