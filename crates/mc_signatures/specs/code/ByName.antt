-- The items of a file by the names of what they declare a mode of.
use Rattle.std.specs.Prelude.{◌≡◌, ℕ, List, [], ◌∷◌, ◌++◌, map, Option, Some, None, slice_index_or, if◌then◌else◌}
use Rattle.std.specs.Borrow.{Bor}
use Rattle.std.specs.Str.{bytes_eq}
use Rattle.mc_source.specs.declared.place.Place.{Place}
use Rattle.mc_decl_syntax.specs.Plain.{PlainDecl}
use Rattle.mc_decl_syntax.specs.declared.entry.Entry.{Entry}
use Rattle.mc_decl_syntax.specs.Entries.{plain_entry, File}
use Rattle.mc_names.specs.code.Index.{Index, listed}
use Rattle.mc_signatures.specs.WrittenModes.{Callable, callable}
use Rattle.mc_signatures.specs.declared.by_name.ItemsByName.{ItemsByName}

-- an item as plain data, by a reference to it
abbrev pub entry_behind : Bor Entry → PlainDecl × Place
entry_behind e = plain_entry e.now

-- the items that are kept, by their names
abbrev pub items_kept : ItemsByName → Index (PlainDecl × Place)
items_kept i = map (λ e. (e.0.now, map entry_behind e.1.items)) i.named.entries

-- an item, if this is of a name
abbrev pub if_named : List ℕ → Option Callable → PlainDecl × Place → File
if_named w None e = []
if_named w (Some x) e = if bytes_eq w x.id.name then e ∷ [] else []

-- the items of a name, in order
abbrev pub of_name : List ℕ → File → File
of_name w [] = []
of_name w (e ∷ es) = if_named w (callable e.0) e ++ of_name w es

-- Each file's index lists just its items of a name.
abbrev pub AreIndices : List ItemsByName → List File → Type 0
AreIndices indices files =
    (j : ℕ) (w : List ℕ)
    → listed (slice_index_or (map items_kept indices) j []) w ≡ of_name w (slice_index_or files j [])
