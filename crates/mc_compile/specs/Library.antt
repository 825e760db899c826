-- The texts of the library's modules.
use Rattle.std.specs.Prelude.{ℕ, List, map}
use Rattle.mc_compile.specs.declared.library.TheConstants.{LIBRARY}

unfoldable pub library_texts : List (List ℕ)
library_texts = map (λ text. text.now) LIBRARY
