-- Declarations that are well formed. (Mercury Language Reference Manual: Types; The module system.)
use Rattle.std.specs.Prelude.{◌≡◌, ◌≢◌, ℕ, true, List, [], ◌∷◌, Some, None, slice_get}
use Rattle.mc_term_data.specs.Plain.{PlainTerm, PlainTerms, at, no_term, more_terms, Var, App}
use Rattle.mc_term_data.specs.Names.{count}
use Rattle.mc_program.specs.Programs.{Source}
use Rattle.mc_accepted.specs.ProperTypes.{EachProper}
use Rattle.mc_accepted.specs.Fits.{FitsTypes}
use Rattle.mc_decl_syntax.specs.Plain.{Path, PlainDecl, UnionType, SameType}
use Rattle.mc_decl_syntax.specs.Types.{are_constructors}
use Rattle.mc_names.specs.Plain.{id, qualifiers, last_part}
use Rattle.mc_names.specs.Linked.{Defined, Linked, defining_module}
use Rattle.mc_names.specs.Candidates.{type_candidates}
use Rattle.mc_type_table.specs.Written.{builtin}
use Rattle.mc_type_table.specs.Rules.{union_fields, definitions, type_faults}
use Rattle.mc_type_table.specs.Visibility.{definitions_seen}
use Rattle.mc_declarations.specs.Declarations.{declarations, parameter_counts, type_terms_of}

-- the head of what defines a type is a name over as many terms as the type has parameters
abbrev pub IsHeadOf : Defined → PlainTerm → Type 0
IsHeadOf d (at (App w ts) line) = count ts ≡ d.name.arity
IsHeadOf d t = ⊥

module _ (l : Linked) where
  -- a type's name over so many arguments means a type in the module of a number
  abbrev pub Means : (own : ℕ) → Path → (arity : ℕ) → Type 0
  Means own w n =
      builtin w n ≡ None → type_candidates l own (qualifiers w) (id (last_part w) n) ≢ []

  -- what is written is a type, and so is each name in it
  abbrev mutual
    pub IsMeant : (own : ℕ) → PlainTerm → Type 0
    IsMeant own (at (Var x) line) = Unit {0}
    IsMeant own (at (App w ts) line) = Means own w (count ts) × AreMeant own ts
    IsMeant own t = ⊥

    pub AreMeant : (own : ℕ) → PlainTerms → Type 0
    AreMeant own no_term = Unit {0}
    AreMeant own (more_terms t ts) = IsMeant own t × AreMeant own ts

  abbrev pub EachMeant : (own : ℕ) → List PlainTerm → Type 0
  EachMeant own [] = Unit {0}
  EachMeant own (t ∷ ts) = IsMeant own t × EachMeant own ts

  abbrev pub IsWellWritten : Defined → PlainDecl → Type 0
  IsWellWritten d (UnionType h ts) =
      IsHeadOf d h × (are_constructors ts ≡ true)
      × EachMeant (defining_module l d) (union_fields ts)
  IsWellWritten d (SameType h t) = IsHeadOf d h × IsMeant (defining_module l d) t
  IsWellWritten d i = Unit {0}

  -- What the items of a program have that have their form and break no rule of linking: heads and
  -- constructors have their form, and each name of a type means a type.
  pub record AreWellWritten : Type 0 where
    pub types : (u : ℕ) (d : Defined) → slice_get l.types u ≡ Some d → IsWellWritten d d.item
    pub preds :
        (p : ℕ) (d : Defined)
        → slice_get l.preds p ≡ Some d → AreMeant (defining_module l d) (type_terms_of d.item)

  -- the program's declarations as the module of a number sees them
  abbrev pub declared_for : (own : ℕ) → Source
  declared_for own = declarations l (definitions_seen l own)

-- Where no type breaks a rule, what each module sees of the constructors fits, and the types of
-- predicates and functions are well formed.
abbrev pub DeclarationsFit : Type 0
DeclarationsFit =
    (l : Linked) (own : ℕ)
    → AreWellWritten l → type_faults l ≡ []
    → FitsTypes (declared_for l own) (parameter_counts l)
    × ((p : ℕ) → EachProper (parameter_counts l) ((declared_for l own).preds p).types)

-- so it is of what is declared, whoever sees which definitions
abbrev pub AllDeclarationsFit : Type 0
AllDeclarationsFit =
    (l : Linked)
    → AreWellWritten l → type_faults l ≡ []
    → FitsTypes (declarations l (definitions l)) (parameter_counts l)
    × ((p : ℕ) → EachProper (parameter_counts l) ((declarations l (definitions l)).preds p).types)
