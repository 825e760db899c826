-- Names as plain data, without references.
use Rattle.std.specs.Prelude.{ℕ, Bool, true, false, nat_eq, ◌&&◌, List, [], ◌∷◌, ◌++◌, decimal}
use Rattle.std.specs.Str.{bytes_eq}
use Rattle.mc_decl_syntax.specs.Plain.{Path}
use Rattle.mc_names.specs.declared.definition.Kind.{Kind}
use Rattle.mc_names.specs.declared.definition.Kind.TheVariants as K
use Rattle.mc_names.specs.declared.definition.NameArity.{NameArity}
use Rattle.mc_names.specs.declared.definition.Definition.{Definition}
use Rattle.mc_names.specs.declared.occurrence.Occurrence.{Occurrence}

-- A name without qualifiers, with the number of its arguments, which manuals write `name/arity`; a
-- function's result is no argument.
pub record PlainNameArity : Type 0 where
  pub name : List ℕ
  pub arity : ℕ

abbrev pub id : List ℕ → ℕ → PlainNameArity
id w n = record { name = w; arity = n }

-- whether two names are one: the same name over as many arguments
abbrev pub is_name_arity : PlainNameArity → PlainNameArity → Bool
is_name_arity x y = nat_eq x.arity y.arity && bytes_eq x.name y.name

-- A definition that an item declares or defines: what it is, as a type or a predicate, and its
-- name.
pub record PlainDefinition : Type 0 where
  pub kind : Kind
  pub id : PlainNameArity

abbrev pub definition : Kind → PlainNameArity → PlainDefinition
definition k x = record { kind = k; id = x }

-- whether two kinds are one
abbrev pub is_kind : Kind → Kind → Bool
is_kind K.AbstractType K.AbstractType = true
is_kind K.DefinedType K.DefinedType = true
is_kind K.Inst K.Inst = true
is_kind K.Mode K.Mode = true
is_kind K.Pred K.Pred = true
is_kind K.Func K.Func = true
is_kind K.Symbol K.Symbol = true
is_kind _ _ = false

-- whether two definitions are one; definitions of different kinds never are, even by one name
abbrev pub is_definition : PlainDefinition → PlainDefinition → Bool
is_definition t u = is_kind t.kind u.kind && is_name_arity t.id u.id

-- A use of a name: what it is to mean, the parts before its last, and its last part with the number
-- of its arguments. To mean a `DefinedType` is to mean a type of either kind; a `Symbol` is a
-- constructor, a function or a character.
pub record PlainOccurrence : Type 0 where
  pub kind : Kind
  pub qualifiers : Path
  pub id : PlainNameArity

-- the parts of a name before the last, and the last
abbrev pub qualifiers : Path → Path
qualifiers [] = []
qualifiers (w ∷ []) = []
qualifiers (w ∷ (v ∷ vs)) = w ∷ qualifiers (v ∷ vs)

abbrev pub last_part : Path → List ℕ
last_part [] = []
last_part (w ∷ []) = w
last_part (w ∷ (v ∷ vs)) = last_part (v ∷ vs)

-- a use of a name over so many arguments
abbrev pub used : Kind → Path → ℕ → List PlainOccurrence
used k w n = record { kind = k; qualifiers = qualifiers w; id = id (last_part w) n } ∷ []

-- a name by its parts, with a full stop between them
abbrev pub joined : Path → List ℕ
joined [] = []
joined (w ∷ []) = w
joined (w ∷ (v ∷ vs)) = w ++ (46 ∷ joined (v ∷ vs))

-- `name/arity`
abbrev pub shown : PlainNameArity → List ℕ
shown x = x.name ++ (47 ∷ decimal x.arity)

-- the values that these stand for
abbrev pub plain_name_arity : NameArity → PlainNameArity
plain_name_arity x = record { name = x.name.now; arity = x.arity }

abbrev pub plain_definition : Definition → PlainDefinition
plain_definition t = record { kind = t.kind; id = plain_name_arity t.id }

abbrev pub plain_occurrence : Occurrence → PlainOccurrence
plain_occurrence u =
    record { kind = u.kind; qualifiers = u.qualifiers.now; id = plain_name_arity u.id }
