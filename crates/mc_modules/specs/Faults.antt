-- The rules of the phase that links, item by item (the Mercury manual: The module system; this
-- project's rules and texts).
use Rattle.std.specs.Prelude.{ℕ, ◌+◌, Bool, true, false, not, nat_eq, nat_lt, ◌&&◌, ◌||◌, List, [], ◌∷◌, ◌++◌, Option, Some, None, codes, if◌then◌else◌}
use Rattle.std.specs.Option.{option_or, option_map}
use Rattle.std.specs.Str.{bytes_eq}
use Rattle.std.specs.Set.{is_member}
use Rattle.mc_term_data.specs.Plain.{PlainTerm}
use Rattle.mc_source.specs.declared.rule.Broken.{Broken}
use Rattle.mc_source.specs.declared.rule.Rule.TheVariants as R
use Rattle.mc_source.specs.Rules.{Fault, broken_at, first_rules}
use Rattle.mc_decl_syntax.specs.Plain.{Path, PlainDecl, ModuleStart, ModuleEnd, Interface, Implementation, Imports, UseOnly, Clause}
use Rattle.mc_names.specs.declared.definition.Kind.{Kind}
use Rattle.mc_names.specs.declared.definition.Kind.TheVariants as K
use Rattle.mc_names.specs.Plain.{PlainNameArity, PlainDefinition, definition, is_definition, PlainOccurrence, joined, shown}
use Rattle.mc_names.specs.Definitions.{definitions}
use Rattle.mc_defs_uses.specs.Occurrences.{uses, goals_in}
use Rattle.mc_defs_uses.specs.Twice.{twice_in}
use Rattle.mc_defs_uses.specs.Clauses.{clause_of, mode_of, without_mode}
use Rattle.mc_modules.specs.declared.section.Section.{Section}
use Rattle.mc_modules.specs.declared.section.Section.TheVariants as S
use Rattle.mc_decl_syntax.specs.Entries.{File}
use Rattle.mc_modules.specs.Files.{PlainItemInFile, items_in_file, module_name, definitions_of, clauses_of, modes_of}
use Rattle.mc_modules.specs.Visible.{is_library, file_at, module_of, meanings, is_qualified}

abbrev pub is_nowhere : Section → Bool
is_nowhere S.Nowhere = true
is_nowhere _ = false

abbrev pub is_implementation : Section → Bool
is_implementation S.Implementation = true
is_implementation _ = false

abbrev pub is_module_of : Option (List ℕ) → Path → Bool
is_module_of None w = false
is_module_of (Some v) w = bytes_eq v (joined w)

-- Whether an item stands where it must not: a module begins with its name and may end with it;
-- items stand in sections, and clauses not in an interface.
abbrev pub is_misplaced : Option (List ℕ) → PlainItemInFile → PlainDecl → Bool
is_misplaced m s (ModuleStart w) = not s.is_first
is_misplaced m s (ModuleEnd w) =
    s.is_first || (is_nowhere s.section || (not s.is_last || not (is_module_of m w)))
is_misplaced m s Interface = s.is_first
is_misplaced m s Implementation = s.is_first
is_misplaced m s (Clause t) = s.is_first || not (is_implementation s.section)
is_misplaced m s i = s.is_first || is_nowhere s.section

abbrev pub structure_fault : Option (List ℕ) → PlainItemInFile → Option Fault
structure_fault m s =
    if is_misplaced m s s.item then Some (R.N1, codes "module structure") else None

abbrev pub is_number : Option ℕ → ℕ → Bool
is_number None k = false
is_number (Some j) k = nat_eq j k

-- a module whose name means another one: one before it, or one of the library's
abbrev pub twice_given : List File → (own : ℕ) → PlainDecl → Option Fault
twice_given files own (ModuleStart w) =
    if is_number (module_of files (joined w)) own then None
    else Some (R.N2, codes "module " ++ (joined w ++ codes " is given twice"))
twice_given files own i = None

abbrev pub not_found : Path → Option ℕ → Option Fault
not_found w None = Some (R.N3, codes "module " ++ (joined w ++ codes " is not found"))
not_found w (Some k) = None

-- the first of these modules that no file is
abbrev pub missing : List File → List Path → Option Fault
missing files [] = None
missing files (w ∷ ws) = option_or (not_found w (module_of files (joined w))) (missing files ws)

abbrev pub import_fault : List File → PlainDecl → Option Fault
import_fault files (Imports ws) = missing files ws
import_fault files (UseOnly ws) = missing files ws
import_fault files i = None

-- the first name that nothing visible has
abbrev pub invisible : List File → (own : ℕ) → List PlainOccurrence → Option Fault
invisible files own [] = None
invisible files own (u ∷ us) =
    if nat_eq (meanings files own u) 0 then Some (R.N4, shown u.id ++ codes " is not visible")
    else invisible files own us

-- a definition that the items before declare or define too
abbrev pub again : (before : List PlainDefinition) → List PlainDefinition → Option PlainNameArity
again before [] = None
again before (t ∷ ts) = if is_member is_definition before t then Some t.id else None

abbrev pub double_fault : (before : List PlainDefinition) → PlainDecl → Option Fault
double_fault before i =
    option_map (λ x. (R.N5, shown x ++ codes " is defined twice"))
    (option_or (again before (definitions i)) (twice_in i))

-- whether a definition of a file lacks what is to stand there too: the definition of an abstract
-- type, the clauses of a predicate or a function
abbrev pub is_undefined : (all : List PlainItemInFile) → Kind → PlainNameArity → Bool
is_undefined all K.AbstractType x =
    not (is_member is_definition (definitions_of all) (definition K.DefinedType x))
is_undefined all K.Pred x = not (is_member is_definition (clauses_of all) (definition K.Pred x))
is_undefined all K.Func x = not (is_member is_definition (clauses_of all) (definition K.Func x))
is_undefined all _ x = false

-- the first definition that an item declares, where it lacks its definition
abbrev pub undefined_fault : (all : List PlainItemInFile) → List PlainDefinition → Option Fault
undefined_fault all [] = None
undefined_fault all (t ∷ ts) =
    if is_undefined all t.kind t.id then Some (R.N6, shown t.id ++ codes " has no definition")
    else None

-- a clause or a mode of what isn't declared
abbrev pub undeclared : (all : List PlainItemInFile) → Option PlainDefinition → Option Fault
undeclared all None = None
undeclared all (Some t) =
    if is_member is_definition (definitions_of all) t then None
    else Some (R.N7, shown t.id ++ codes " is not declared")

-- a type, an inst or a mode
abbrev pub is_single : Kind → Bool
is_single K.DefinedType = true
is_single K.Inst = true
is_single K.Mode = true
is_single _ = false

-- the first unqualified name of a type, an inst or a mode that has two meanings
abbrev pub ambiguous : List File → (own : ℕ) → List PlainOccurrence → Option Fault
ambiguous files own [] = None
ambiguous files own (u ∷ us) =
    if is_single u.kind && (not (is_qualified u.qualifiers) && nat_lt 1 (meanings files own u))
    then Some (R.N8, shown u.id ++ codes " has two meanings")
    else ambiguous files own us

-- a predicate that is declared without a mode, and has no further one
abbrev pub mode_fault : (all : List PlainItemInFile) → Option PlainNameArity → Option Fault
mode_fault all None = None
mode_fault all (Some x) =
    if is_member is_definition (modes_of all) (definition K.Pred x) then None
    else Some (R.M5, shown x ++ codes " has no mode")

-- The first rule that an item of a file breaks, behind those that declare or define `before`, and
-- among all of them.
abbrev pub fault :
    List File → (own : ℕ) → (all : List PlainItemInFile) → (before : List PlainDefinition)
    → PlainItemInFile → Option Fault
fault files own all before s =
    option_or (structure_fault (module_name (file_at files own)) s)
    (option_or (twice_given files own s.item)
    (option_or (import_fault files s.item)
    (option_or (invisible files own (uses s.item))
    (option_or (double_fault before s.item)
    (option_or (undefined_fault all (definitions s.item))
    (option_or (undeclared all (option_or (clause_of s.item) (mode_of s.item)))
    (option_or (ambiguous files own (uses s.item))
    (mode_fault all (without_mode s.item)))))))))

-- items, each with what the items before it declare and define
abbrev pub with_before :
    (before : List PlainDefinition)
    → List PlainItemInFile → List (List PlainDefinition × PlainItemInFile)
with_before before [] = []
with_before before (s ∷ ss) = (before, s) ∷ with_before (before ++ definitions s.item) ss

-- the faulty items of a file, each with the first rule that it breaks; a file without items is
-- faulty on its first line
abbrev pub faults_of : List File → (own : ℕ) → File → List Broken
faults_of files own [] =
    broken_at (record { file = own; line = 1 }) (Some (R.N1, codes "module structure"))
faults_of files own (e ∷ es) =
    first_rules (λ b. b.1.at) (λ b. fault files own (items_in_file (e ∷ es)) b.0 b.1)
    (with_before [] (items_in_file (e ∷ es)))

abbrev pub faults_from : List File → (own : ℕ) → List File → List Broken
faults_from files own [] = []
faults_from files own (f ∷ fs) =
    if is_library files own then [] else faults_of files own f ++ faults_from files (own + 1) fs

-- the rules that the given files break, in their order; the library's breaks none
abbrev pub link_faults : List File → List Broken
link_faults files = faults_from files 0 files

-- the first rule that the goal of a query breaks, which sees what the first file sees
abbrev pub goal_fault : List File → PlainTerm → Option Fault
goal_fault files goal = invisible files 0 (goals_in goal)
