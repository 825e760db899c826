-- What a name in a term or a goal, and that of a type, may mean (the Mercury manual: Overload
-- resolution; the order is this project's).
use Rattle.std.specs.Prelude.{ℕ, Bool, false, nat_eq, ◌&&◌, ◌||◌, List, [], ◌∷◌, ◌++◌, Option, Some, None, slice_get, slice_index_or, if◌then◌else◌}
use Rattle.std.specs.Str.{bytes_eq}
use Rattle.mc_decl_syntax.specs.Plain.{Path}
use Rattle.mc_names.specs.Plain.{PlainNameArity, is_name_arity, id, joined}
use Rattle.mc_source.specs.declared.name.Candidate.{Candidate}
use Rattle.mc_source.specs.declared.name.Candidate.TheVariants as C
use Rattle.mc_names.specs.declared.names.Scope.{Scope}
use Rattle.mc_names.specs.Characters.{character}
use Rattle.mc_names.specs.Linked.{Defined, Linked}
use Rattle.mc_names.specs.Numbers.{numbers_where}

-- what a candidate is the number of; a character has none
abbrev pub defined_by : Linked → Candidate → Option Defined
defined_by l (C.Con k) = slice_get l.symbols k
defined_by l (C.Func k) = slice_get l.preds k
defined_by l (C.Pred k) = slice_get l.preds k
defined_by l (C.Char c) = None

-- whether this has the name, and the module sees it
abbrev pub fits : (own : Bool) → PlainNameArity → Option Defined → Bool
fits own x None = false
fits own x (Some d) = (own || d.exported) && is_name_arity (id d.name.name d.name.arity) x

-- those that fit, in order
abbrev pub fitting : Linked → (own : Bool) → PlainNameArity → List Candidate → List Candidate
fitting l own x [] = []
fitting l own x (c ∷ cs) =
    if fits own x (defined_by l c) then c ∷ fitting l own x cs else fitting l own x cs

abbrev pub fitting_in : Linked → (own : ℕ) → PlainNameArity → List ℕ → List Candidate
fitting_in l own x [] = []
fitting_in l own x (j ∷ js) =
    fitting l (nat_eq own j) x (slice_index_or l.declared j []) ++ fitting_in l own x js

abbrev pub is_module : List ℕ → Option Scope → Bool
is_module w None = false
is_module w (Some s) = bytes_eq s.«module» w

-- those of these modules that have a name
abbrev pub named_so : Linked → List ℕ → List ℕ → List ℕ
named_so l w [] = []
named_so l w (j ∷ js) =
    if is_module w (slice_get l.scopes j) then j ∷ named_so l w js else named_so l w js

-- the modules in which a name with these qualifiers is looked up
abbrev pub looked_in : Linked → Option Scope → (qualifiers : Path) → List ℕ
looked_in l None qs = []
looked_in l (Some s) [] = s.unqualified
looked_in l (Some s) (w ∷ ws) = named_so l (joined (w ∷ ws)) s.seen

abbrev pub as_character : Option ℕ → List Candidate
as_character None = []
as_character (Some c) = C.Char c ∷ []

-- The candidates for a name in a module: those of the module itself first, then those of the
-- modules that it imports, in the order of first import; in a module in the order of declaration;
-- last the character.
abbrev pub candidates : Linked → (own : ℕ) → (qualifiers : Path) → PlainNameArity → List Candidate
candidates l own qs x =
    fitting_in l own x (looked_in l (slice_get l.scopes own) qs) ++ as_character (character qs x)

-- whether a type stands in the module of this number and has the name, and the module of the number
-- `own` sees it
abbrev pub type_fits : Linked → (own : ℕ) → PlainNameArity → ℕ → Defined → Bool
type_fits l own x j d =
    is_module d.name.module (slice_get l.scopes j) && fits (nat_eq own j) x (Some d)

-- the types of these modules that fit
abbrev pub type_numbers : Linked → (own : ℕ) → PlainNameArity → List ℕ → List ℕ
type_numbers l own x [] = []
type_numbers l own x (j ∷ js) =
    numbers_where (type_fits l own x j) 0 l.types ++ type_numbers l own x js

-- The types that a name may mean in a module, by their numbers, in the same order. The built-in
-- types are not among them.
abbrev pub type_candidates : Linked → (own : ℕ) → (qualifiers : Path) → PlainNameArity → List ℕ
type_candidates l own qs x = type_numbers l own x (looked_in l (slice_get l.scopes own) qs)
