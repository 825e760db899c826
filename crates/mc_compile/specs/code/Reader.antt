-- What is read of one file after another, and of the library.
use Rattle.std.specs.Prelude.{◌≡◌, ◌≢◌, ℕ, ◌+◌, List, [], ◌∷◌, ◌++◌, Option}
use Rattle.mc_term_data.specs.declared.term.Term.{Term}
use Rattle.mc_source.specs.declared.rule.Broken.{Broken}
use Rattle.mc_decl_syntax.specs.declared.entry.Entry.{Entry}
use Rattle.mc_decl_syntax.specs.Entries.{plain_files}
use Rattle.mc_compile.specs.declared.given.CompileFault.{CompileFault}
use Rattle.mc_compile.specs.declared.given.CompileFault.TheVariants as C
use Rattle.mc_compile.specs.declared.reader.Reader.{Reader}
use Rattle.mc_compile.specs.Reading.{Reading, FileReads, QueryReads, counted, rules_of, items_of, items_from}
use Rattle.mc_compile.specs.Linking.{IsLibrary, library_behind}

-- rules that are broken, and why sources aren't compiled
abbrev pub IsRejected : List Broken → CompileFault → Type 0
IsRejected broken (C.Rejected bs) = (bs ≡ broken) × (bs ≢ [])
IsRejected broken C.Memory = Unit {0}

-- One more file is read. Its items are put behind the others where it breaks no rule.
pub record IsOneMore (text : List ℕ) (old new : Reader) : Type 0 where
  pub reading : Reading
  pub reads : FileReads old.bytes text reading
  pub number : new.number ≡ old.number + 1
  pub bytes : new.bytes ≡ old.bytes + counted text
  pub broken : new.broken.items ≡ old.broken.items ++ rules_of old.number reading
  pub files :
      rules_of old.number reading ≡ []
      → plain_files new.files.items
      ≡ plain_files old.files.items ++ items_of old.number reading ∷ []

-- The query is read, behind the files.
pub record IsQueryRead (query : Option (List ℕ)) (goal : Option Term) (old new : Reader) : Type 0 where
  pub rules : List Broken
  pub reads : QueryReads old.number query goal rules
  pub broken : new.broken.items ≡ old.broken.items ++ rules
  pub files : new.files.items ≡ old.files.items

-- Files are read that are the library's modules, numbered from one on.
pub record IsLibraryRead (library : List (List ℕ)) (first : ℕ) (files : List (List Entry)) : Type 0 where
  pub modules : List Reading
  pub is_library : IsLibrary library modules
  pub items : plain_files files ≡ items_from first modules

-- All files are the given ones, and behind them the library's modules.
pub record IsWithLibrary (library : List (List ℕ)) (given : List (List Entry)) (all : List (List Entry)) : Type 0 where
  pub modules : List Reading
  pub is_library : IsLibrary library modules
  pub items : plain_files all ≡ plain_files given ++ library_behind (plain_files given) modules
