-- What a module sees (the Mercury manual: The module system).
use Rattle.std.specs.Prelude.{ℕ, ◌+◌, ◌-◌, Bool, true, false, not, nat_eq, nat_le, ◌&&◌, List, [], ◌∷◌, ◌++◌, length, Option, Some, None, codes, drop, slice_index_or, if◌then◌else◌}
use Rattle.std.specs.Option.{is_some}
use Rattle.std.specs.Str.{bytes_eq}
use Rattle.std.specs.Set.{is_member}
use Rattle.mc_decl_syntax.specs.Plain.{Path, PlainDecl, Imports, UseOnly}
use Rattle.mc_names.specs.declared.definition.Kind.{Kind}
use Rattle.mc_names.specs.declared.definition.Kind.TheVariants as K
use Rattle.mc_names.specs.Plain.{PlainNameArity, id, is_name_arity, PlainOccurrence, joined}
use Rattle.mc_decl_syntax.specs.Entries.{File}
use Rattle.mc_modules.specs.Files.{PlainItemInFile, items_in_file, module_names, definitions_of, shown_of, has}
use Rattle.mc_names.specs.Characters.{character}

-- the library's modules are the last nine files
abbrev pub library_size : ℕ
library_size = 9

-- whether a module of this number is one of the library's
abbrev pub is_library : List File → ℕ → Bool
is_library files k = nat_le (length files) (k + library_size)

abbrev pub has_name : List ℕ → Option (List ℕ) → Bool
has_name w None = false
has_name w (Some v) = bytes_eq w v

-- the number of the first module of a name among these, the first of which has the number k
abbrev pub first_named : ℕ → List ℕ → List (Option (List ℕ)) → Option ℕ
first_named k w [] = None
first_named k w (n ∷ ns) = if has_name w n then Some k else first_named (k + 1) w ns

abbrev pub or_first : Option ℕ → Option ℕ → Option ℕ
or_first None other = other
or_first (Some k) other = Some k

-- The module that a name means: the library's where it has one, else the first given one.
abbrev pub module_of : List File → List ℕ → Option ℕ
module_of files w =
    or_first
    (first_named (length files - library_size) w
    (drop (length files - library_size) (module_names files)))
    (first_named 0 w (module_names files))

-- the modules that names mean, each once, behind those before
abbrev pub with_module : Option ℕ → List ℕ → List ℕ
with_module None ks = ks
with_module (Some k) ks = if is_member nat_eq ks k then ks else ks ++ k ∷ []

abbrev pub with_modules : List File → List Path → List ℕ → List ℕ
with_modules files [] ks = ks
with_modules files (w ∷ ws) ks = with_modules files ws (with_module (module_of files (joined w)) ks)

-- the modules that an item imports, or only uses, behind those before
abbrev pub imported_by : List File → PlainDecl → List ℕ → List ℕ
imported_by files (Imports ws) ks = with_modules files ws ks
imported_by files i ks = ks

abbrev pub used_by : List File → PlainDecl → List ℕ → List ℕ
used_by files (UseOnly ws) ks = with_modules files ws ks
used_by files i ks = ks

-- the modules that items import, in the order in which they do so first
abbrev pub imported : List File → List PlainItemInFile → List ℕ → List ℕ
imported files [] ks = ks
imported files (s ∷ ss) ks = imported files ss (imported_by files s.item ks)

abbrev pub only_used : List File → List PlainItemInFile → List ℕ → List ℕ
only_used files [] ks = ks
only_used files (s ∷ ss) ks = only_used files ss (used_by files s.item ks)

abbrev pub file_at : List File → ℕ → File
file_at files k = slice_index_or files k []

-- The modules whose names a module may write unqualified: its own first, then those that it
-- imports, in the order of first import.
abbrev pub unqualified : List File → ℕ → List ℕ
unqualified files k = imported files (items_in_file (file_at files k)) (k ∷ [])

-- the modules that a module sees
abbrev pub seen : List File → ℕ → List ℕ
seen files k = only_used files (items_in_file (file_at files k)) (unqualified files k)

-- types, insts and modes that every module sees
abbrev pub builtin_names : Kind → List PlainNameArity
builtin_names K.DefinedType = id (codes "int") 0 ∷ id (codes "char") 0 ∷ id (codes "string") 0 ∷ []
builtin_names K.Inst =
    id (codes "free") 0 ∷ id (codes "ground") 0 ∷ id (codes "unique") 0 ∷ id (codes "dead") 0
    ∷ id (codes "clobbered") 0 ∷ []
builtin_names K.Mode =
    id (codes "in") 0 ∷ id (codes "out") 0 ∷ id (codes "di") 0 ∷ id (codes "uo") 0
    ∷ id (codes "in") 1 ∷ id (codes "out") 1 ∷ []
builtin_names _ = []

abbrev pub is_builtin : Kind → PlainNameArity → Bool
is_builtin k x = is_member is_name_arity (builtin_names k) x

-- whether a module has a definition, for itself or for another
abbrev pub has_definition : List File → (own : ℕ) → Kind → PlainNameArity → ℕ → Bool
has_definition files own k x j =
    has k x
    (if nat_eq own j then definitions_of (items_in_file (file_at files j))
    else shown_of (items_in_file (file_at files j)))

abbrev pub how_many : List File → (own : ℕ) → Kind → PlainNameArity → List ℕ → ℕ
how_many files own k x [] = 0
how_many files own k x (j ∷ js) =
    (if has_definition files own k x j then 1 else 0) + how_many files own k x js

-- those of these modules that a qualifier means
abbrev pub among : Option ℕ → List ℕ → List ℕ
among None ks = []
among (Some k) ks = if is_member nat_eq ks k then k ∷ [] else []

abbrev pub is_qualified : Path → Bool
is_qualified [] = false
is_qualified _ = true

-- the modules in which a name with these qualifiers is looked up that a module uses
abbrev pub searched : List File → (own : ℕ) → (qualifiers : Path) → List ℕ
searched files own [] = unqualified files own
searched files own (w ∷ ws) = among (module_of files (joined (w ∷ ws))) (seen files own)

-- how many meanings a name has that a module uses, as a definition of a kind
abbrev pub meanings_as : List File → (own : ℕ) → Kind → PlainOccurrence → ℕ
meanings_as files own k u =
    (if not (is_qualified u.qualifiers) && is_builtin k u.id then 1 else 0)
    + how_many files own k u.id (searched files own u.qualifiers)

-- How many meanings a name has: a term's name is a constructor, a function or a character.
abbrev pub meanings_of : List File → (own : ℕ) → Kind → PlainOccurrence → ℕ
meanings_of files own K.Symbol u =
    meanings_as files own K.Symbol u
    + (meanings_as files own K.Func u + (if is_some (character u.qualifiers u.id) then 1 else 0))
meanings_of files own k u = meanings_as files own k u

abbrev pub meanings : List File → (own : ℕ) → PlainOccurrence → ℕ
meanings files own u = meanings_of files own u.kind u
