-- The files that are linked, where the items of a file stand, and what they declare (the Mercury
-- manual: The module system).
use Rattle.std.specs.Prelude.{ℕ, Bool, true, false, ◌||◌, List, [], ◌∷◌, ◌++◌, Option, Some, None, if◌then◌else◌}
use Rattle.std.specs.Set.{is_member}
use Rattle.mc_source.specs.declared.place.Place.{Place}
use Rattle.mc_decl_syntax.specs.Plain.{PlainDecl, ModuleStart, Interface, Implementation}
use Rattle.mc_names.specs.declared.definition.Kind.{Kind}
use Rattle.mc_names.specs.declared.definition.Kind.TheVariants as K
use Rattle.mc_names.specs.Plain.{PlainNameArity, PlainDefinition, definition, is_definition, joined}
use Rattle.mc_names.specs.Definitions.{definitions}
use Rattle.mc_defs_uses.specs.Clauses.{clause_of, mode_of}
use Rattle.mc_decl_syntax.specs.Entries.{File}
use Rattle.mc_modules.specs.declared.section.Section.{Section}
use Rattle.mc_modules.specs.declared.section.Section.TheVariants as S

-- the section behind an item
abbrev pub section_after : Section → PlainDecl → Section
section_after s Interface = S.Interface
section_after s Implementation = S.Implementation
section_after s i = s

-- an item with its place, the section in which it stands, and whether it is the file's first or
-- last
pub record PlainItemInFile : Type 0 where
  pub item : PlainDecl
  pub at : Place
  pub section : Section
  pub is_first : Bool
  pub is_last : Bool

abbrev pub is_empty : File → Bool
is_empty [] = true
is_empty _ = false

abbrev pub items_in_file_from : (is_first : Bool) → Section → File → List PlainItemInFile
items_in_file_from is_first s [] = []
items_in_file_from is_first s (e ∷ es) =
    record { item = e.0; at = e.1; section = s; is_first = is_first; is_last = is_empty es }
    ∷ items_in_file_from false (section_after s e.0) es

-- the items of a file, each as it stands there
abbrev pub items_in_file : File → List PlainItemInFile
items_in_file es = items_in_file_from true S.Nowhere es

-- the name of the module that a file is
abbrev pub module_name : File → Option (List ℕ)
module_name ((ModuleStart w, at) ∷ es) = Some (joined w)
module_name _ = None

-- the names of the modules that the files are; a file that is none has no name
abbrev pub module_names : List File → List (Option (List ℕ))
module_names [] = []
module_names (f ∷ fs) = module_name f ∷ module_names fs

-- what items declare and define, in order
abbrev pub definitions_of : List PlainItemInFile → List PlainDefinition
definitions_of [] = []
definitions_of (s ∷ ss) = definitions s.item ++ definitions_of ss

abbrev pub is_shown : Section → Bool
is_shown S.Interface = true
is_shown _ = false

-- what the items of interfaces declare and define, in order
abbrev pub shown_of : List PlainItemInFile → List PlainDefinition
shown_of [] = []
shown_of (s ∷ ss) = (if is_shown s.section then definitions s.item else []) ++ shown_of ss

abbrev pub as_list : Option PlainDefinition → List PlainDefinition
as_list None = []
as_list (Some t) = t ∷ []

-- what clauses are of, and what further modes are of, in order
abbrev pub clauses_of : List PlainItemInFile → List PlainDefinition
clauses_of [] = []
clauses_of (s ∷ ss) = as_list (clause_of s.item) ++ clauses_of ss

abbrev pub modes_of : List PlainItemInFile → List PlainDefinition
modes_of [] = []
modes_of (s ∷ ss) = as_list (mode_of s.item) ++ modes_of ss

-- Whether definitions have one that a name of a kind may mean. An abstract type is a type.
abbrev pub has : Kind → PlainNameArity → List PlainDefinition → Bool
has K.DefinedType x ts =
    is_member is_definition ts (definition K.DefinedType x)
    || is_member is_definition ts (definition K.AbstractType x)
has k x ts = is_member is_definition ts (definition k x)
