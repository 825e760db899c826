-- Files and the rules that they break, computed by the definition: for each rule of the phase a
-- file that breaks it, and one beside it that doesn't.
use Rattle.std.specs.Prelude.{◌≡◌, ◌≢◌, ℕ, ◌+◌, List, [], ◌∷◌, ◌++◌, codes, Some, None}
use Rattle.mc_term_data.specs.Plain.{PlainTerm, PlainTerms, at, no_term, more_terms, App}
use Rattle.mc_source.specs.Determinism.{inferred, det}
use Rattle.mc_source.specs.declared.rule.Broken.{Broken}
use Rattle.mc_source.specs.declared.rule.Rule.{Rule}
use Rattle.mc_source.specs.declared.rule.Rule.TheVariants as R
use Rattle.mc_decl_syntax.specs.Plain.{PlainDecl, ModuleStart, ModuleEnd, Interface, Implementation, Imports, UseOnly, AbstractType, UnionType, SameType, Pred, Clause}
use Rattle.mc_decl_syntax.specs.Entries.{File}
use Rattle.mc_names.specs.Plain.{id, shown}
use Rattle.mc_modules.specs.Faults.{link_faults}

-- items on the lines of a file from one on
abbrev pub on_lines : (file line : ℕ) → List PlainDecl → File
on_lines file line [] = []
on_lines file line (i ∷ is) = (i, record { file = file; line = line }) ∷ on_lines file (line + 1) is

abbrev pub file : (number : ℕ) → List PlainDecl → File
file number is = on_lines number 1 is

-- a module of the library, with an interface
abbrev pub library_module : List ℕ → File
library_module w = on_lines 9 1 (ModuleStart (w ∷ []) ∷ Interface ∷ [])

abbrev pub library : List File
library =
    library_module (codes "list") ∷ library_module (codes "bool") ∷ library_module (codes "maybe")
    ∷ library_module (codes "pair") ∷ library_module (codes "int")
    ∷ library_module (codes "string") ∷ library_module (codes "char") ∷ library_module (codes "io")
    ∷ library_module (codes "require") ∷ []

-- the faults of one file, and of two
abbrev pub alone : List PlainDecl → List Broken
alone is = link_faults (file 0 is ∷ library)

abbrev pub beside : List PlainDecl → List PlainDecl → List Broken
beside is js = link_faults (file 0 is ∷ file 1 js ∷ library)

abbrev pub one : Rule → (file line : ℕ) → List ℕ → List Broken
one r f l w = record { rule = r; at = record { file = f; line = l }; what = w } ∷ []

-- a name without arguments, or over some
abbrev pub atom : List ℕ → PlainTerm
atom w = at (App (w ∷ []) no_term) 1

abbrev pub over : List ℕ → PlainTerms → PlainTerm
over w ts = at (App (w ∷ []) ts) 1

abbrev pub just : PlainTerm → PlainTerms
just t = more_terms t no_term

abbrev pub two : PlainTerm → PlainTerm → PlainTerms
two t u = more_terms t (more_terms u no_term)

abbrev pub start : PlainDecl
start = ModuleStart (codes "a" ∷ [])

-- `:- pred p is det.` and its clause `p.`
abbrev pub declared : PlainDecl
declared = Pred (atom (codes "p")) (Some (inferred det))

abbrev pub clause : PlainDecl
clause = Clause (atom (codes "p"))

-- a file without items; a clause before any section; `:- end_module` of another name, and of its
-- own
abbrev pub Structure : Type 0
Structure =
    (link_faults ([] ∷ library) ≡ one R.N1 0 1 (codes "module structure"))
    × (alone (start ∷ clause ∷ []) ≡ one R.N1 0 2 (codes "module structure"))
    × (alone (start ∷ Interface ∷ ModuleEnd (codes "b" ∷ []) ∷ [])
    ≡ one R.N1 0 3 (codes "module structure"))
    × (alone (start ∷ Interface ∷ ModuleEnd (codes "a" ∷ []) ∷ []) ≡ [])
    × (alone (start ∷ Interface ∷ declared ∷ clause ∷ []) ≢ [])

-- a module that is given twice, or that has a library module's name; an import of a module that
-- isn't there; modules that import each other and themselves
abbrev pub Modules : Type 0
Modules =
    (beside (start ∷ Interface ∷ []) (start ∷ Interface ∷ [])
    ≡ one R.N2 1 1 (codes "module a is given twice"))
    × (alone (ModuleStart (codes "list" ∷ []) ∷ Interface ∷ [])
    ≡ one R.N2 0 1 (codes "module list is given twice"))
    × (alone (start ∷ Interface ∷ Imports ((codes "nowhere" ∷ []) ∷ []) ∷ [])
    ≡ one R.N3 0 3 (codes "module nowhere is not found"))
    × (beside (start ∷ Interface ∷ Imports ((codes "b" ∷ []) ∷ (codes "a" ∷ []) ∷ []) ∷ [])
    (ModuleStart (codes "b" ∷ []) ∷ Interface ∷ UseOnly ((codes "a" ∷ []) ∷ []) ∷ [])
    ≡ [])

-- a type `t` over one constructor of a type `u`
abbrev pub uses_u : PlainDecl
uses_u = UnionType (atom (codes "t")) (just (over (codes "c") (just (atom (codes "u")))))

abbrev pub defines_u : PlainDecl
defines_u = UnionType (atom (codes "u")) (just (atom (codes "d")))

-- a name that nothing visible has; that an imported module's interface has; that it has and doesn't
-- show; that a module has which is only used
abbrev pub Names : Type 0
Names =
    (alone (start ∷ Interface ∷ uses_u ∷ [])
    ≡ one R.N4 0 3 (shown (id (codes "u") 0) ++ codes " is not visible"))
    × (beside (start ∷ Interface ∷ Imports ((codes "b" ∷ []) ∷ []) ∷ uses_u ∷ [])
    (ModuleStart (codes "b" ∷ []) ∷ Interface ∷ defines_u ∷ [])
    ≡ [])
    × (beside (start ∷ Interface ∷ Imports ((codes "b" ∷ []) ∷ []) ∷ uses_u ∷ [])
    (ModuleStart (codes "b" ∷ []) ∷ Implementation ∷ defines_u ∷ [])
    ≡ one R.N4 0 4 (shown (id (codes "u") 0) ++ codes " is not visible"))
    × (beside (start ∷ Interface ∷ UseOnly ((codes "b" ∷ []) ∷ []) ∷ uses_u ∷ [])
    (ModuleStart (codes "b" ∷ []) ∷ Interface ∷ defines_u ∷ [])
    ≡ one R.N4 0 4 (shown (id (codes "u") 0) ++ codes " is not visible"))

-- a type that is defined twice, a constructor that stands twice in one union; an abstract type and
-- its definition; an abstract type alone; an own type `int`
abbrev pub Definitions : Type 0
Definitions =
    (alone (start ∷ Interface ∷ defines_u ∷ defines_u ∷ [])
    ≡ one R.N5 0 4 (shown (id (codes "u") 0) ++ codes " is defined twice"))
    × (alone
    (start ∷ Interface
    ∷ UnionType (atom (codes "u")) (two (atom (codes "d")) (atom (codes "d"))) ∷ [])
    ≡ one R.N5 0 3 (shown (id (codes "d") 0) ++ codes " is defined twice"))
    × (alone (start ∷ Interface ∷ AbstractType (atom (codes "u")) ∷ Implementation ∷ defines_u ∷ [])
    ≡ [])
    × (alone (start ∷ Interface ∷ AbstractType (atom (codes "u")) ∷ [])
    ≡ one R.N6 0 3 (shown (id (codes "u") 0) ++ codes " has no definition"))
    × (alone
    (start ∷ Interface ∷ UnionType (atom (codes "int")) (just (atom (codes "d")))
    ∷ SameType (atom (codes "t")) (atom (codes "int")) ∷ [])
    ≡ one R.N8 0 4 (shown (id (codes "int") 0) ++ codes " has two meanings"))

-- a clause of what isn't declared; a declaration without clauses; one without modes; one with both
abbrev pub Predicates : Type 0
Predicates =
    (alone (start ∷ Implementation ∷ clause ∷ [])
    ≡ one R.N7 0 3 (shown (id (codes "p") 0) ++ codes " is not declared"))
    × (alone (start ∷ Interface ∷ declared ∷ [])
    ≡ one R.N6 0 3 (shown (id (codes "p") 0) ++ codes " has no definition"))
    × (alone (start ∷ Interface ∷ Pred (atom (codes "p")) None ∷ Implementation ∷ clause ∷ [])
    ≡ one R.M5 0 3 (shown (id (codes "p") 0) ++ codes " has no mode"))
    × (alone (start ∷ Interface ∷ declared ∷ Implementation ∷ clause ∷ []) ≡ [])
