-- What a module name means, and what a module sees, as they are kept.
use Rattle.std.specs.Prelude.{ℕ, List}
use Rattle.mc_modules.specs.declared.visibility.Visibility.{Visibility}
use Rattle.mc_decl_syntax.specs.Entries.{File}
use Rattle.mc_modules.specs.Visible.{unqualified, seen}

-- what a module sees: the modules whose names it may write unqualified, and all
abbrev pub visibility : List File → ℕ → Visibility
visibility files own = record { unqualified = unqualified files own; seen = seen files own }
