-- Why items or a goal aren't answered, by the rules that are found.
use Rattle.std.specs.Prelude.{◌≡◌, ◌≢◌, List, []}
use Rattle.mc_source.specs.declared.rule.Broken.{Broken}
use Rattle.mc_decl_syntax.specs.declared.entry.ItemsFault.{ItemsFault}
use Rattle.mc_decl_syntax.specs.declared.entry.ItemsFault.TheVariants as I

abbrev pub IsBrokenIn : List Broken → ItemsFault → Type 0
IsBrokenIn found (I.Broken bs) = (bs ≡ found) × (bs ≢ [])
IsBrokenIn found I.Memory = Unit {0}
