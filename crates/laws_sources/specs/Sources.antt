-- What sources declare is well written. (The Mercury manual: Types; The module system; this
-- project's rules.)
use Rattle.std.specs.Prelude.{◌≡◌, ℕ, List, [], ◌++◌, length, Option}
use Rattle.mc_term_data.specs.Plain.{PlainTerm}
use Rattle.mc_modules.specs.Visible.{library_size}
use Rattle.mc_modules.specs.Linked.{linked}
use Rattle.mc_declarations.specs.Proper.{AreWellWritten}
use Rattle.mc_compile.specs.Reading.{Reading, FilesRead, items_from}
use Rattle.mc_compile.specs.Linking.{linking_rules_of}
use Rattle.laws_sources.specs.WellWritten.{AllHaveForm, LibraryIsLinked}

-- What texts read as has the form of its declarations.
abbrev pub ReadFilesHaveForm : Type 0
ReadFilesHaveForm =
    (texts : List (List ℕ)) (readings : List Reading) (before k : ℕ)
    → FilesRead before texts readings → AllHaveForm (items_from k readings)

-- What given files and the library declare is well written, where they break no rule of linking and
-- the library's modules are linked by themselves.
abbrev pub SourcesAreWellWritten : Type 0
SourcesAreWellWritten =
    (texts library : List (List ℕ)) (readings modules : List Reading) (m n j k : ℕ)
    (goal : Option PlainTerm)
    → FilesRead m texts readings → FilesRead n library modules → length library ≡ library_size
    → LibraryIsLinked (items_from k modules)
    → linking_rules_of (items_from j readings) (items_from k modules) goal ≡ []
    → AreWellWritten (linked (items_from j readings ++ items_from k modules))
