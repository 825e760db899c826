-- Whether modules are linked, as a test. (The Mercury manual: The module system; this project's
-- rules.)
use Rattle.std.specs.Prelude.{◌≡◌, ℕ, ◌+◌, Bool, true, ◌&&◌, List, [], ◌∷◌, ◌++◌, length}
use Rattle.std.specs.Option.{is_none}
use Rattle.mc_defs_uses.specs.Occurrences.{uses}
use Rattle.mc_decl_syntax.specs.Entries.{File}
use Rattle.mc_modules.specs.Visible.{library_size, file_at, module_of}
use Rattle.mc_modules.specs.Faults.{is_number, invisible}
use Rattle.mc_modules.specs.Linked.{name_of}
use Rattle.laws_sources.specs.WellWritten.{LibraryIsLinked}

module _ (files : List File) where
  -- whether each name that an item of a module uses means something there
  abbrev pub are_known : (own : ℕ) → File → Bool
  are_known own [] = true
  are_known own (e ∷ es) = is_none (invisible files own (uses e.0)) && are_known own es

  -- whether the module of a number is the one that its name means, and knows the names that it uses
  abbrev pub is_linked : (own : ℕ) → Bool
  is_linked own =
      is_number (module_of files (name_of (file_at files own))) own
      && are_known own (file_at files own)

  -- the same of as many modules as these, from one on
  abbrev pub are_linked : (from : ℕ) → List File → Bool
  are_linked k [] = true
  are_linked k (f ∷ fs) = is_linked k && are_linked (k + 1) fs

-- The library's modules are linked, behind given files or by themselves, where they pass the test.
abbrev pub LinkedByTest : Type 0
LinkedByTest =
    (given library : List File)
    → length library ≡ library_size
    → are_linked (given ++ library) (length given) library ≡ true
    → LibraryIsLinked (given ++ library)
