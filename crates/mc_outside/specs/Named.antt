-- Files in a list, by name.
use Rattle.std.specs.Prelude.{ℕ, List, [], ◌∷◌, map, All, ◌≢◌, string_bytes, Option, Some, None}
use Rattle.std.specs.Borrow.{Bor}
use Rattle.std.specs.declared.vec.Vec.{Vec}
use Rattle.std.specs.declared.string.String.{String}
use Rattle.std.specs.declared.alloc.Global.{Global}
use Rattle.std.specs.FinMap as finmap
use Rattle.mc_outside.specs.Meaning.{Held}

-- a file with its name
abbrev pub File : Type 0
File = String Global × Vec ℕ Global

-- the bytes of each file by its name; of two files of one name the first counts
abbrev pub by_name : List File → Held
by_name files = finmap.from_entries (map (λ file. (string_bytes file.0, file.1.items)) files)

-- no two files have one name
abbrev pub HaveDistinctNames : List File → Type 0
HaveDistinctNames [] = Unit {0}
HaveDistinctNames (file ∷ files) =
    All (λ other. string_bytes file.0 ≢ string_bytes other.0) files × HaveDistinctNames files

-- the bytes of a file that was found
abbrev pub found_bytes : Option (Bor (Vec ℕ Global)) → Option (List ℕ)
found_bytes None = None
found_bytes (Some bytes) = Some bytes.now.items
