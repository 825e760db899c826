-- The phase that links: the library's modules behind the given files, what names mean, and the
-- rules of linking that are broken (this project's rules; the Mercury manual: The module system).
use Rattle.std.specs.Prelude.{◌≡◌, ℕ, ◌+◌, List, [], ◌++◌, length, take, Option, Some, None, Result}
use Rattle.mc_term_data.specs.Plain.{PlainTerm}
use Rattle.mc_source.specs.declared.rule.Broken.{Broken}
use Rattle.mc_source.specs.Rules.{broken_at}
use Rattle.mc_decl_syntax.specs.declared.entry.Entry.{Entry}
use Rattle.mc_state_variables.specs.Numbered.{line_of}
use Rattle.mc_decl_syntax.specs.Entries.{File, plain_files}
use Rattle.mc_modules.specs.Faults.{link_faults, goal_fault}
use Rattle.mc_names.specs.Linked.{Linked, plain_names}
use Rattle.mc_modules.specs.Linked.{linked}
use Rattle.mc_names.specs.declared.names.Names.{Names}
use Rattle.mc_compile.specs.declared.named.Named.{Named}
use Rattle.mc_compile.specs.Phases.{Refusal, unless_broken}
use Rattle.mc_compile.specs.Library.{library_texts}
use Rattle.mc_compile.specs.Reading.{Reading, FilesRead, PlainRead, plain_goal, rules_from, items_from}

-- What the library's modules read as, which break no rule.
pub record IsLibrary (library : List (List ℕ)) (modules : List Reading) : Type 0 where
  pub read : FilesRead 0 library modules
  pub whole : rules_from 0 modules ≡ []

-- the library's modules, which are numbered after the files and the query
abbrev pub library_behind : (given : List File) → List Reading → List File
library_behind given modules = items_from (length given + 1) modules

-- the rule of linking that the goal of a query breaks, where there is one
abbrev pub goal_rules_in : List File → (number : ℕ) → Option PlainTerm → List Broken
goal_rules_in files k None = []
goal_rules_in files k (Some goal) =
    broken_at (record { file = k; line = line_of goal }) (goal_fault files goal)

-- the rules of linking that files break, the library's last, and then the query's
abbrev pub rules_in : List File → (number : ℕ) → Option PlainTerm → List Broken
rules_in files k goal = link_faults files ++ goal_rules_in files k goal

-- the same of given files and the library's modules behind them; the query's number follows the
-- given files'
abbrev pub linking_rules_of : (files library : List File) → Option PlainTerm → List Broken
linking_rules_of files library goal = rules_in (files ++ library) (length files) goal

-- Files that were linked: those that were given, all of them with the library's behind, and their
-- names.
pub record LinkedFiles : Type 0 where
  pub given : List File
  pub all : List File
  pub names : Linked

-- given files with the library's behind, and their names
abbrev pub with_library : (given library : List File) → LinkedFiles
with_library given library =
    record { given = given; all = given ++ library; names = linked (given ++ library) }

-- linked files, of which the first are given
abbrev pub linked_files : List (List Entry) → (given : ℕ) → Names → LinkedFiles
linked_files files n names =
    record {
      given = plain_files (take n files);
      all = plain_files files;
      names = plain_names names;
    }

-- the given files and all with the library's behind, with their names, and the goal
pub record PlainNamed : Type 0 where
  pub files : LinkedFiles
  pub goal : Option PlainTerm

abbrev pub plain_named : Named → PlainNamed
plain_named named =
    record {
      files = linked_files named.files named.given named.names;
      goal = plain_goal named.goal;
    }

-- what is read, once it is linked with these modules behind it
abbrev pub linked_with : PlainRead → (library : List File) → PlainNamed
linked_with read library =
    record {
      files = with_library read.files library;
      goal = read.goal;
    }

-- The phase that links: what names mean, unless a rule of linking is broken.
pub record Links (read : PlainRead) (result : Result PlainNamed Refusal) : Type 0 where
  pub modules : List Reading
  pub is_library : IsLibrary library_texts modules
  pub is :
      result
      ≡ unless_broken (linking_rules_of read.files (library_behind read.files modules) read.goal)
      (linked_with read (library_behind read.files modules))
