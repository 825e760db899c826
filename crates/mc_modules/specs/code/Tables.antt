-- What one pass over the items of a file keeps of them, and what is known of all files.
use Rattle.std.specs.Prelude.{◌≡◌, ◌<◌, ◌^◌, ℕ, length, List, [], ◌∷◌, map, if◌then◌else◌}
use Rattle.mc_decl_syntax.specs.declared.entry.Entry.{Entry}
use Rattle.mc_defs_uses.specs.Sets.{put_all}
use Rattle.mc_names.specs.Definitions.{definitions}
use Rattle.mc_defs_uses.specs.Clauses.{clause_of, mode_of}
use Rattle.mc_modules.specs.declared.item_in_file.ItemInFile.{ItemInFile}
use Rattle.mc_modules.specs.declared.table.Table.{Table}
use Rattle.mc_modules.specs.declared.visibility.Visibility.{Visibility}
use Rattle.mc_decl_syntax.specs.Entries.{File, plain_files}
use Rattle.mc_modules.specs.Files.{PlainItemInFile, items_in_file, is_shown, as_list}
use Rattle.mc_modules.specs.Visible.{module_of}
use Rattle.mc_names.specs.Numbers.{number_of}
use Rattle.mc_modules.specs.Kept.{plain_item_in_file, table}
use Rattle.mc_modules.specs.code.Visibilities.{visibilities_from}

-- the sets with one more item
abbrev pub with_item : Table → PlainItemInFile → Table
with_item t s =
    record {
      definitions = put_all t.definitions (definitions s.item);
      shown = put_all t.shown (if is_shown s.section then definitions s.item else []);
      clauses = put_all t.clauses (as_list (clause_of s.item));
      modes = put_all t.modes (as_list (mode_of s.item));
    }

abbrev pub with_items : Table → List PlainItemInFile → Table
with_items t [] = t
with_items t (s ∷ ss) = with_items (with_item t s) ss

-- the items of each file, and their sets
abbrev pub all_items : List File → List (List PlainItemInFile)
all_items fs = map items_in_file fs

abbrev pub tables : List (List PlainItemInFile) → List Table
tables fs = map table fs

-- What is kept is that of these files.
pub record IsKept
    (files : List (List Entry))
    (names : List (List ℕ × ℕ))
    (visibilities : List Visibility)
    (items : List (List ItemInFile))
    (sets : List Table)
    : Type 0 where
  pub few : length files < 2 ^ 32
  pub named : number_of names ≡ module_of (plain_files files)
  pub with_visibility : visibilities ≡ visibilities_from (plain_files files) 0 (plain_files files)
  pub listed : map (map plain_item_in_file) items ≡ all_items (plain_files files)
  pub tabled : sets ≡ tables (all_items (plain_files files))
