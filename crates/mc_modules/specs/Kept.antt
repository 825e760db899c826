-- What is kept of each file: its items as they stand, and the sets of what they declare, show, and
-- are of.
use Rattle.std.specs.Prelude.{List, []}
use Rattle.mc_decl_syntax.specs.Plain.{plain_item}
use Rattle.mc_defs_uses.specs.Sets.{put_all}
use Rattle.mc_modules.specs.declared.item_in_file.ItemInFile.{ItemInFile}
use Rattle.mc_modules.specs.declared.table.Table.{Table}
use Rattle.mc_modules.specs.Files.{PlainItemInFile, definitions_of, shown_of, clauses_of, modes_of}

-- an item as it stands, without references
abbrev pub plain_item_in_file : ItemInFile → PlainItemInFile
plain_item_in_file s =
    record {
      item = plain_item s.entry.now.decl;
      at = s.entry.now.at;
      section = s.section;
      is_first = s.is_first;
      is_last = s.is_last;
    }

-- the sets of what items declare, what their interfaces show, and what their clauses and further
-- modes are of
abbrev pub table : List PlainItemInFile → Table
table ss =
    record {
      definitions = put_all [] (definitions_of ss);
      shown = put_all [] (shown_of ss);
      clauses = put_all [] (clauses_of ss);
      modes = put_all [] (modes_of ss);
    }
