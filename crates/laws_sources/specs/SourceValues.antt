-- The numbers and texts of the sources that are compiled, and of the library's modules behind them,
-- are values. (This project's rules: the phases that read and link.)
use Rattle.std.specs.Prelude.{ℕ, List, Ok}
use Rattle.mc_program.specs.Programs.{Source}
use Rattle.mc_compile.specs.Sources.{Sources}
use Rattle.mc_compile.specs.Reading.{Reading, FilesRead, items_from, PlainRead, Reads}
use Rattle.mc_compile.specs.Linking.{PlainNamed, Links}
use Rattle.mc_compile.specs.Checking.{items_of}
use Rattle.laws_types.specs.JudgedPrograms.{EachHasValues}
use Rattle.laws_sources.specs.ReadValues.{FilesAreOfValues, GoalIsOfValues}

-- files that are read one after another, as their items are numbered from a file on
abbrev pub FilesReadAreOfValues : Type 0
FilesReadAreOfValues =
    (P : Source) (bytes_before file : ℕ) (texts : List (List ℕ)) (readings : List Reading)
    → FilesRead bytes_before texts readings → FilesAreOfValues P (items_from file readings)

-- what the phase that reads answers
abbrev pub ReadAreOfValues : Type 0
ReadAreOfValues =
    (P : Source) (sources : Sources) (read : PlainRead)
    → Reads sources (Ok read) → FilesAreOfValues P read.files × GoalIsOfValues P read.goal

-- What is typed of sources that are read and linked has values: the clauses of the given files and
-- of the library's modules, and the query.
abbrev pub NamedItemsHaveValues : Type 0
NamedItemsHaveValues =
    (sources : Sources) (read : PlainRead) (named : PlainNamed)
    → Reads sources (Ok read) → Links read (Ok named) → EachHasValues (items_of named)
