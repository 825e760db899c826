-- The names of a program (the Mercury manual: The module system).
use Rattle.std.specs.Prelude.{ℕ, ◌+◌, Bool, true, false, nat_eq, ◌||◌, List, [], ◌∷◌, ◌++◌, length, take, slice_index_or, Option, Some, None, if◌then◌else◌}
use Rattle.std.specs.Set.{is_member}
use Rattle.mc_term_data.specs.Plain.{PlainTerm, PlainTerms, at, no_term, more_terms, App}
use Rattle.mc_source.specs.declared.name.Name.{Name}
use Rattle.mc_decl_syntax.specs.Plain.{PlainDecl, AbstractType, UnionType, SameType, SameInst, BoundInst, ModeDef, Pred, Func}
use Rattle.mc_names.specs.declared.definition.Kind.{Kind}
use Rattle.mc_names.specs.declared.definition.Kind.TheVariants as K
use Rattle.mc_names.specs.Plain.{PlainNameArity, PlainDefinition, definition, is_definition}
use Rattle.mc_names.specs.Definitions.{head_name, symbol_name, definitions}
use Rattle.mc_source.specs.declared.name.Candidate.{Candidate}
use Rattle.mc_source.specs.declared.name.Candidate.TheVariants as C
use Rattle.mc_names.specs.declared.names.Scope.{Scope}
use Rattle.mc_decl_syntax.specs.Entries.{File}
use Rattle.mc_modules.specs.Files.{PlainItemInFile, items_in_file, module_name, definitions_of, shown_of, is_shown, has}
use Rattle.mc_modules.specs.Visible.{unqualified, seen, file_at}
use Rattle.mc_names.specs.Linked.{Defined, Linked}

-- a file's name; a file that is no module has none
abbrev pub name_or_none : Option (List ℕ) → List ℕ
name_or_none None = []
name_or_none (Some w) = w

abbrev pub name_in : (home : List ℕ) → PlainNameArity → Name
name_in m x = record { «module» = m; name = x.name; arity = x.arity }

abbrev pub defined :
    (home : List ℕ) → PlainItemInFile → (exported : Bool) → PlainDecl → PlainNameArity → Defined
defined m s e i x =
    record {
      name = name_in m x;
      item = i;
      at = s.at;
      exported = e;
      shown = is_shown s.section;
    }

-- A type, at its definition, or where it has none at its declaration. Others see it where an
-- interface declares or defines it, and what it is defined as where an interface defines it.
abbrev pub types_by :
    (home : List ℕ) → (all : List PlainItemInFile) → PlainItemInFile → PlainDecl → List Defined
types_by m all s (AbstractType h) =
    if is_member is_definition (definitions_of all) (definition K.DefinedType (head_name h)) then []
    else defined m s (has K.DefinedType (head_name h) (shown_of all)) s.item (head_name h) ∷ []
types_by m all s (UnionType h ts) =
    defined m s (has K.DefinedType (head_name h) (shown_of all)) s.item (head_name h) ∷ []
types_by m all s (SameType h t) =
    defined m s (has K.DefinedType (head_name h) (shown_of all)) s.item (head_name h) ∷ []
types_by m all s i = []

-- the head of a type without its parameters
abbrev pub bare_head : PlainTerm → PlainTerm
bare_head (at (App w ts) l) = at (App w no_term) l
bare_head t = t

-- the constructors of a union, each as a union of it alone
abbrev pub constructors :
    (home : List ℕ) → PlainItemInFile → (head : PlainTerm) → PlainTerms → List Defined
constructors m s h no_term = []
constructors m s h (more_terms t ts) =
    defined m s (is_shown s.section) (UnionType (bare_head h) (more_terms t no_term))
    (symbol_name t)
    ∷ constructors m s h ts

abbrev pub symbols_by : (home : List ℕ) → PlainItemInFile → PlainDecl → List Defined
symbols_by m s (UnionType h ts) = constructors m s h ts
symbols_by m s i = []

-- those of an item's definitions that are of a kind, each with the whole item
abbrev pub of_kind :
    (home : List ℕ) → PlainItemInFile → (wanted : Bool) → List PlainDefinition → List Defined
of_kind m s wanted [] = []
of_kind m s wanted (t ∷ ts) =
    if wanted then defined m s (is_shown s.section) s.item t.id ∷ [] else []

abbrev pub is_pred : PlainDecl → Bool
is_pred (Pred t d) = true
is_pred (Func t d) = true
is_pred i = false

abbrev pub is_inst : PlainDecl → Bool
is_inst (SameInst h t) = true
is_inst (BoundInst h ts) = true
is_inst i = false

abbrev pub is_mode : PlainDecl → Bool
is_mode (ModeDef h t) = true
is_mode i = false

-- what a file has of each sort, in order
abbrev pub types_in : (home : List ℕ) → (all rest : List PlainItemInFile) → List Defined
types_in m all [] = []
types_in m all (s ∷ ss) = types_by m all s s.item ++ types_in m all ss

abbrev pub symbols_in : (home : List ℕ) → List PlainItemInFile → List Defined
symbols_in m [] = []
symbols_in m (s ∷ ss) = symbols_by m s s.item ++ symbols_in m ss

abbrev pub sorted_in :
    (is_sort : PlainDecl → Bool) → (home : List ℕ) → List PlainItemInFile → List Defined
sorted_in is_sort m [] = []
sorted_in is_sort m (s ∷ ss) =
    of_kind m s (is_sort s.item) (definitions s.item) ++ sorted_in is_sort m ss

abbrev pub name_of : File → List ℕ
name_of f = name_or_none (module_name f)

abbrev pub types_of : File → List Defined
types_of f = types_in (name_of f) (items_in_file f) (items_in_file f)

abbrev pub symbols_of : File → List Defined
symbols_of f = symbols_in (name_of f) (items_in_file f)

abbrev pub preds_of : File → List Defined
preds_of f = sorted_in is_pred (name_of f) (items_in_file f)

abbrev pub insts_of : File → List Defined
insts_of f = sorted_in is_inst (name_of f) (items_in_file f)

abbrev pub modes_defined : File → List Defined
modes_defined f = sorted_in is_mode (name_of f) (items_in_file f)

-- what each of some files has
abbrev pub each : (File → List Defined) → List File → List (List Defined)
each of [] = []
each of (f ∷ fs) = of f ∷ each of fs

abbrev pub flat : List (List Defined) → List Defined
flat [] = []
flat (ds ∷ dss) = ds ++ flat dss

-- The numbers of definitions from one on that another module sees, or that the module has for
-- itself.
abbrev pub numbers : (own : Bool) → (from : ℕ) → List Defined → List ℕ
numbers own n [] = []
numbers own n (d ∷ ds) =
    if own || d.exported then n ∷ numbers own (n + 1) ds else numbers own (n + 1) ds

-- how many definitions the files before this one have
abbrev pub before : (file : ℕ) → List (List Defined) → ℕ
before k dss = length (flat (take k dss))

abbrev pub has_of : (file : ℕ) → List (List Defined) → List Defined
has_of k dss = slice_index_or dss k []

-- the numbers of what a module sees among what each file has, in the order of the modules that it
-- sees
abbrev pub visible : (own : ℕ) → List ℕ → List (List Defined) → List ℕ
visible own [] dss = []
visible own (j ∷ js) dss =
    numbers (nat_eq own j) (before j dss) (has_of j dss) ++ visible own js dss

abbrev pub scope : List File → (own : ℕ) → Scope
scope files own =
    record {
      «module» = name_of (file_at files own);
      types = visible own (seen files own) (each types_of files);
      symbols = visible own (seen files own) (each symbols_of files);
      preds = visible own (seen files own) (each preds_of files);
      insts = visible own (seen files own) (each insts_of files);
      modes = visible own (seen files own) (each modes_defined files);
      unqualified = unqualified files own;
      seen = seen files own;
    }

abbrev pub scopes_from : List File → (own : ℕ) → List File → List Scope
scopes_from files own [] = []
scopes_from files own (f ∷ fs) = scope files own ∷ scopes_from files (own + 1) fs

-- what a definition is by its number, where constructors go on from `c`, and functions and
-- predicates from `p`
abbrev pub as_numbered : Kind → (c p : ℕ) → List Candidate
as_numbered K.Symbol c p = C.Con c ∷ []
as_numbered K.Func c p = C.Func p ∷ []
as_numbered K.Pred c p = C.Pred p ∷ []
as_numbered _ c p = []

-- the numbers behind it
abbrev pub next_con : Kind → ℕ → ℕ
next_con K.Symbol c = c + 1
next_con _ c = c

abbrev pub next_pred : Kind → ℕ → ℕ
next_pred K.Func p = p + 1
next_pred K.Pred p = p + 1
next_pred _ p = p

-- Constructors, functions and predicates in the order of their declarations, each by its number:
-- constructors are numbered from `c` on, functions and predicates from `p` on.
abbrev pub numbered : (c p : ℕ) → List PlainDefinition → List Candidate
numbered c p [] = []
numbered c p (t ∷ ts) =
    as_numbered t.kind c p ++ numbered (next_con t.kind c) (next_pred t.kind p) ts

-- what each module has that a name in a term or a goal may mean
abbrev pub declared_from : List File → (own : ℕ) → List File → List (List Candidate)
declared_from files own [] = []
declared_from files own (f ∷ fs) =
    numbered (before own (each symbols_of files)) (before own (each preds_of files))
    (definitions_of (items_in_file f))
    ∷ declared_from files (own + 1) fs

abbrev pub linked : List File → Linked
linked files =
    record {
      types = flat (each types_of files);
      symbols = flat (each symbols_of files);
      preds = flat (each preds_of files);
      insts = flat (each insts_of files);
      modes = flat (each modes_defined files);
      scopes = scopes_from files 0 files;
      declared = declared_from files 0 files;
    }
