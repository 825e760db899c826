-- Items with their places, and files of them, as plain data.
use Rattle.std.specs.Prelude.{List, map}
use Rattle.mc_source.specs.declared.place.Place.{Place}
use Rattle.mc_decl_syntax.specs.declared.entry.Entry.{Entry}
use Rattle.mc_decl_syntax.specs.Plain.{PlainDecl, plain_item}

-- an entry as plain data
abbrev pub plain_entry : Entry → PlainDecl × Place
plain_entry e = (plain_item e.decl, e.at)

-- a file: its items, each with its place
abbrev pub File : Type 0
File = List (PlainDecl × Place)

-- files as they were read
abbrev pub plain_files : List (List Entry) → List File
plain_files fs = map (map plain_entry) fs
