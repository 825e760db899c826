-- What files declare that are read and linked is well written. (The Mercury manual: Types; The
-- module system; this project's rules.)
use Rattle.std.specs.Prelude.{◌≡◌, ℕ, ◌<◌, true, false, List, [], ◌∷◌, ◌++◌, length, Some, None, codes}
use Rattle.std.specs.Option.{is_some}
use Rattle.mc_term_data.specs.Shapes.{operands}
use Rattle.mc_decl_syntax.specs.Plain.{PlainDecl, UnionType, SameType, Pred, Func}
use Rattle.mc_decl_syntax.specs.Terms.{parameters}
use Rattle.mc_decl_syntax.specs.Types.{is_type, are_constructors}
use Rattle.mc_decl_syntax.specs.Declarations.{is_pred, is_func}
use Rattle.mc_defs_uses.specs.Occurrences.{uses}
use Rattle.mc_items.specs.Verdicts.{PlainVerdict}
use Rattle.mc_items.specs.Files.{Items, kept_in}
use Rattle.mc_decl_syntax.specs.Entries.{File}
use Rattle.mc_modules.specs.Visible.{is_library, library_size, file_at, module_of}
use Rattle.mc_modules.specs.Faults.{invisible, link_faults}
use Rattle.mc_modules.specs.Linked.{linked, name_of}
use Rattle.mc_declarations.specs.Proper.{AreWellWritten}

-- FORMS

-- the form of what defines a type or declares a predicate or function
abbrev pub HasForm : PlainDecl → Type 0
HasForm (UnionType h ts) = (is_some (parameters h) ≡ true) × (are_constructors ts ≡ true)
HasForm (SameType h t) = (is_some (parameters h) ≡ true) × (is_type t ≡ true)
HasForm (Pred t d) = is_pred t (is_some d) ≡ true
HasForm (Func t d) = is_func (operands (codes "=") t) (is_some d) ≡ true
HasForm i = Unit {0}

-- the same of each item of a file, and of each file
abbrev pub HaveForm : File → Type 0
HaveForm [] = Unit {0}
HaveForm (e ∷ es) = HasForm e.0 × HaveForm es

abbrev pub AllHaveForm : List File → Type 0
AllHaveForm [] = Unit {0}
AllHaveForm (f ∷ fs) = HaveForm f × AllHaveForm fs

-- The items that are read of a text have their form.
abbrev pub ItemsHaveForm : Type 0
ItemsHaveForm =
    (file from : ℕ) (text : List ℕ) (vs : List (PlainVerdict × ℕ))
    → Items text from vs → HaveForm (kept_in file vs)

-- NAMES

module _ (files : List File) where
  -- each name that an item of a module uses means something there
  abbrev pub AreKnown : (own : ℕ) → File → Type 0
  AreKnown own [] = Unit {0}
  AreKnown own (e ∷ es) = (invisible files own (uses e.0) ≡ None) × AreKnown own es

  -- The module of a number is the one that its name means, and each name that its items use means
  -- something there.
  pub record IsLinked (own : ℕ) : Type 0 where
    pub named : module_of files (name_of (file_at files own)) ≡ Some own
    pub known : AreKnown own (file_at files own)

  -- each module of the library is so, of which linking lists no broken rule
  abbrev pub LibraryIsLinked : Type 0
  LibraryIsLinked = (own : ℕ) → own < length files → is_library files own ≡ true → IsLinked own

-- Each given module is so, where no rule of linking is broken.
abbrev pub GivenAreLinked : Type 0
GivenAreLinked =
    (files : List File) (own : ℕ)
    → link_faults files ≡ [] → own < length files → is_library files own ≡ false
    → IsLinked files own

-- What files have that have their form and break no rule of linking is well written, where the
-- library's modules are linked.
abbrev pub WellWritten : Type 0
WellWritten =
    (files : List File)
    → AllHaveForm files → link_faults files ≡ [] → LibraryIsLinked files
    → AreWellWritten (linked files)

-- THE LIBRARY

-- The library's modules are linked behind any given files, where they are linked by themselves.
abbrev pub LibraryStaysLinked : Type 0
LibraryStaysLinked =
    (given library : List File)
    → length library ≡ library_size → LibraryIsLinked library → LibraryIsLinked (given ++ library)

-- Linking lists no rule that the library breaks, and there are files that break none and are not
-- well written.
abbrev pub LibraryMatters : Type 0
LibraryMatters =
    ((files : List File)
    → AllHaveForm files → link_faults files ≡ [] → AreWellWritten (linked files))
    → ⊥
