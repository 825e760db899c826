-- What a program declares: its constructors, functions and predicates with their types. (Mercury
-- Language Reference Manual: Types; Predicate and function type declarations.)
use Rattle.std.specs.Prelude.{ℕ, suc, ◌+◌, Bool, true, false, ◌&&◌, List, [], ◌∷◌, ◌++◌, map, length, get_or, Option, Some, None, codes, slice_get, if◌then◌else◌}
use Rattle.std.specs.Option.{option_map, option_or}
use Rattle.mc_term_data.specs.Plain.{PlainTerm, PlainTerms, at, no_term, more_terms, Var, App}
use Rattle.mc_term_data.specs.Names.{count}
use Rattle.mc_term_data.specs.Shapes.{operands}
use Rattle.mc_source.specs.declared.name.Name.{Name}
use Rattle.mc_program.specs.Programs.{TypeTerm, variable_type, union_type, TypeTerms, no_types, type_then, FullName, Constructor, Predicate, Source}
use Rattle.mc_program.specs.PlainPrograms.{plain_name, no_symbol, no_pred}
use Rattle.mc_program.specs.declared.program.TypeDef.{TypeDef}
use Rattle.mc_program.specs.declared.builtin.Builtin.{Builtin}
use Rattle.mc_program.specs.declared.builtin.Builtin.TheVariants as B
use Rattle.mc_model.specs.Worlds.{same_name}
use Rattle.mc_accepted.specs.ProperTypes.{Parameters}
use Rattle.mc_accepted.specs.BuiltinTypes.{Builtin_name, builtin_name}
use Rattle.mc_decl_syntax.specs.Plain.{PlainDecl, UnionType, Pred, Func}
use Rattle.mc_names.specs.Definitions.{symbol_name}
use Rattle.mc_names.specs.Linked.{Defined, Linked, defining_module}
use Rattle.mc_type_table.specs.Written.{named_type, written_type}
use Rattle.mc_names.specs.Parameters.{parameters_of}
use Rattle.mc_type_table.specs.Expanded.{expanded}
use Rattle.mc_type_table.specs.Rules.{constructor_fields}
use Rattle.mc_type_table.specs.Table.{table}
use Rattle.mc_clauses.specs.Variables.{Met, nothing_met, variable_of}
use Rattle.mc_clauses.specs.Unresolved.{arguments_of, and_result}

-- how many parameters a type has
abbrev pub parameter_counts : Linked → Parameters
parameter_counts l u = option_map (λ (d : Defined). d.name.arity) (slice_get l.types u)

-- The type that a declaration of a predicate or function writes: its type variables are numbered as
-- they are met, and each `_` is one of its own.
abbrev mutual
  pub declared_type : Linked → (own : ℕ) → PlainTerm → Met → TypeTerm × Met
  declared_type l own (at (Var x) line) m =
      let r = variable_of [] x m in
      (variable_type r.0, r.1)
  declared_type l own (at (App w ts) line) m =
      let rs = declared_types l own ts m in
      (named_type l own w (count ts) rs.0, rs.1)
  declared_type l own _ m = (union_type (length l.types) no_types, m)

  pub declared_types : Linked → (own : ℕ) → PlainTerms → Met → TypeTerms × Met
  declared_types l own no_term m = (no_types, m)
  declared_types l own (more_terms t ts) m =
      let r = declared_type l own t m in
      let rs = declared_types l own ts r.1 in
      (type_then r.0 rs.0, rs.1)

-- the type of an argument or a result, which may have a mode, `T::M`
abbrev pub without_mode_by : PlainTerm → Option (PlainTerm × PlainTerm) → PlainTerm
without_mode_by t None = t
without_mode_by t (Some p) = p.0

abbrev pub without_mode : PlainTerm → PlainTerm
without_mode t = without_mode_by t (operands (codes "::") t)

abbrev pub without_modes : PlainTerms → PlainTerms
without_modes no_term = no_term
without_modes (more_terms t ts) = more_terms (without_mode t) (without_modes ts)

-- the arguments of a declared function, then its result
abbrev pub with_result : Option (PlainTerm × PlainTerm) → PlainTerms
with_result None = no_term
with_result (Some p) = and_result (without_modes (arguments_of p.0)) (without_mode p.1)

-- the terms that write a predicate's types
abbrev pub type_terms_of : PlainDecl → PlainTerms
type_terms_of (Pred t d) = without_modes (arguments_of t)
type_terms_of (Func t d) = with_result (operands (codes "=") t)
type_terms_of i = no_term

abbrev pub listed_types : TypeTerms → List TypeTerm
listed_types no_types = []
listed_types (type_then t ts) = t ∷ listed_types ts

abbrev pub is_function : PlainDecl → Bool
is_function (Func t d) = true
is_function i = false

-- BUILTINS by their names.
unfoldable pub builtins : List Builtin
builtins =
    B.IntPlus ∷ B.IntMinus ∷ B.IntTimes ∷ B.IntQuotient ∷ B.IntDiv ∷ B.IntMod ∷ B.IntRem
    ∷ B.IntNegate ∷ B.IntLess ∷ B.IntGreater ∷ B.IntAtMost ∷ B.IntAtLeast ∷ B.StringJoin
    ∷ B.StringLength ∷ B.StringCodePoints ∷ B.IntToString ∷ B.CharToString ∷ B.ToCharList
    ∷ B.StringToInt ∷ B.CharToInt ∷ B.CharFromInt ∷ B.CharIsDigit ∷ B.WriteString ∷ B.WriteChar
    ∷ B.WriteInt ∷ B.Write ∷ B.Nl ∷ B.ReadLine ∷ B.Error
    ∷ []

abbrev pub same_kind : Bool → Bool → Bool
same_kind true b = b
same_kind false true = false
same_kind false false = true

abbrev pub is_builtin : FullName → (function : Bool) → Builtin_name → Bool
is_builtin n f b = same_name n b.name && same_kind f b.is_function

abbrev pub builtin_among : List Builtin → FullName → (function : Bool) → Option Builtin
builtin_among [] n f = None
builtin_among (b ∷ bs) n f =
    if is_builtin n f (builtin_name b) then Some b else builtin_among bs n f

-- a program, where types stand without the equivalences that D tells
module _ (l : Linked) (D : ℕ → Option TypeTerm) where
  -- a constructor of the type of a number, which the module of the number `own` defines with these
  -- parameters
  abbrev pub constructor_of :
      (module_name : List ℕ) → (u own : ℕ) → (parameters : List (List ℕ)) → PlainTerm → Constructor
  constructor_of w u own vs t =
      record {
        name =
            record {
              module_name = w;
              bytes = (symbol_name t).name;
              arity = (symbol_name t).arity;
            };
        of_type = u;
        args = map (λ f. expanded l D (written_type l own vs f)) (constructor_fields t);
      }

  abbrev pub constructors_in :
      (module_name : List ℕ)
      → (u own : ℕ) → (parameters : List (List ℕ)) → PlainTerms → List Constructor
  constructors_in w u own vs no_term = []
  constructors_in w u own vs (more_terms t ts) =
      constructor_of w u own vs t ∷ constructors_in w u own vs ts

  abbrev pub constructors_by : (u : ℕ) → Defined → PlainDecl → List Constructor
  constructors_by u d (UnionType h ts) =
      constructors_in d.name.«module» u (defining_module l d) (parameters_of h) ts
  constructors_by u d i = []

  -- those of types that are numbered from u on
  abbrev pub constructors_from : (u : ℕ) → List Defined → List Constructor
  constructors_from u [] = []
  constructors_from u (d ∷ ds) = constructors_by u d d.item ++ constructors_from (suc u) ds

  abbrev pub predicate_of : Defined → Predicate
  predicate_of d =
      record {
        name = plain_name d.name;
        types =
            map (expanded l D)
            (listed_types
            (declared_types l (defining_module l d) (type_terms_of d.item) nothing_met).0);
        clauses = [];
        builtin = builtin_among builtins (plain_name d.name) (is_function d.item);
      }

  -- THE DECLARATIONS of a program, whose predicates have no clauses yet.
  abbrev pub declarations : Source
  declarations =
      record {
        symbols = λ k. get_or (constructors_from 0 l.types) k no_symbol;
        symbols_of = λ u. get_or (map (λ (t : TypeDef). t.symbols) (table l)) u [];
        preds = λ k. get_or (map predicate_of l.preds) k no_pred;
      }
