-- What a step of a walk over an item adds.
use Rattle.std.specs.Prelude.{Bool, false, ◌≡◌, List, [], ◌∷◌, ◌++◌, if◌then◌else◌}
use Rattle.std.specs.List.{list_any}
use Rattle.std.specs.Set.{is_member}
use Rattle.mc_term_data.specs.Plain.{PlainTerms, no_term, more_terms}
use Rattle.mc_decl_syntax.specs.Plain.{Path}
use Rattle.mc_names.specs.declared.definition.Kind.TheVariants as K
use Rattle.mc_names.specs.Plain.{PlainNameArity, PlainDefinition, PlainOccurrence, is_kind, is_name_arity, used}
use Rattle.mc_defs_uses.specs.Occurrences.{terms_in}

-- terms that a name stands before, each
abbrev pub behind : Path → PlainTerms → List PlainOccurrence
behind w no_term = []
behind w (more_terms t ts) = used K.Symbol w 2 ++ (terms_in t ++ behind w ts)

-- the names with one more put in
abbrev pub with_name_arity : List PlainNameArity → PlainNameArity → List PlainNameArity
with_name_arity xs x = if is_member is_name_arity xs x then xs else xs ++ x ∷ []

-- where a set says that it has no abstract type, none is among its definitions
abbrev pub TellsAbstractTypes : Bool → List PlainDefinition → Type 0
TellsAbstractTypes has ts =
    has ≡ false → list_any (λ (t : PlainDefinition). is_kind t.kind K.AbstractType) ts ≡ false
