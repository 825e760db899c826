-- The modules in which a name is looked up, lent or made.
use Rattle.std.specs.Prelude.{ℕ, List}
use Rattle.mc_names.specs.declared.searched.Searched.{Searched}
use Rattle.mc_names.specs.declared.searched.Searched.TheVariants.{Unqualified, Qualified}

abbrev pub modules_of : Searched → List ℕ
modules_of (Unqualified ms) = ms.now
modules_of (Qualified ms) = ms
