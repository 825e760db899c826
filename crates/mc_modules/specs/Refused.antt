-- Why a program isn't linked.
use Rattle.std.specs.Prelude.{◌≡◌, ◌≢◌, List, []}
use Rattle.mc_decl_syntax.specs.declared.entry.ItemsFault.{ItemsFault}
use Rattle.mc_decl_syntax.specs.declared.entry.ItemsFault.TheVariants as I
use Rattle.mc_decl_syntax.specs.Entries.{File}
use Rattle.mc_modules.specs.Faults.{link_faults}

abbrev pub IsRefusedLink : List File → ItemsFault → Type 0
IsRefusedLink files (I.Broken bs) = (bs ≡ link_faults files) × (bs ≢ [])
IsRefusedLink files I.Memory = Unit {0}
