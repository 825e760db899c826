-- The cases that a listing holds.
use Rattle.std.specs.Prelude.{List}
use Rattle.mc_insts.specs.declared.graph.Case.{Case}
use Rattle.mc_insts.specs.declared.merge.Listing.{Listing}
use Rattle.mc_insts.specs.declared.merge.Listing.TheVariants as L

abbrev pub listed : Listing → List Case
listed (L.There cases) = cases.now
listed (L.Made cases) = cases
