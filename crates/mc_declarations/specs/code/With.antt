-- What a program declares, where each type that is defined stands by its definition.
use Rattle.std.specs.Prelude.{ℕ, suc, List, [], ◌∷◌, ◌++◌, map, Option}
use Rattle.mc_term_data.specs.Plain.{PlainTerm, PlainTerms, no_term, more_terms}
use Rattle.mc_program.specs.Programs.{TypeTerm, Constructor, Predicate}
use Rattle.mc_program.specs.PlainPrograms.{plain_name}
use Rattle.mc_decl_syntax.specs.Plain.{PlainDecl, UnionType}
use Rattle.mc_names.specs.Definitions.{symbol_name}
use Rattle.mc_names.specs.Linked.{Defined, Linked, defining_module}
use Rattle.mc_type_table.specs.Written.{written_type}
use Rattle.mc_names.specs.Parameters.{parameters_of}
use Rattle.mc_type_table.specs.Expanded.{replaced}
use Rattle.mc_type_table.specs.Rules.{constructor_fields}
use Rattle.mc_clauses.specs.Variables.{nothing_met}
use Rattle.mc_declarations.specs.Declarations.{declared_types, listed_types, type_terms_of, is_function, builtins, builtin_among}

-- a program, and what its types are defined as
module _ (l : Linked) (H : ℕ → Option TypeTerm) where
  abbrev pub field_with : (own : ℕ) → (parameters : List (List ℕ)) → PlainTerm → TypeTerm
  field_with own vs f = replaced H (written_type l own vs f)

  abbrev pub constructor_with :
      (module_name : List ℕ) → (u own : ℕ) → (parameters : List (List ℕ)) → PlainTerm → Constructor
  constructor_with w u own vs t =
      record {
        name =
            record {
              module_name = w;
              bytes = (symbol_name t).name;
              arity = (symbol_name t).arity;
            };
        of_type = u;
        args = map (field_with own vs) (constructor_fields t);
      }

  abbrev pub constructors_of :
      (module_name : List ℕ) → (u own : ℕ) → (parameters : List (List ℕ)) → PlainTerms → List Constructor
  constructors_of w u own vs no_term = []
  constructors_of w u own vs (more_terms t ts) =
      constructor_with w u own vs t ∷ constructors_of w u own vs ts

  abbrev pub constructors_with : (u : ℕ) → Defined → PlainDecl → List Constructor
  constructors_with u d (UnionType h ts) =
      constructors_of d.name.«module» u (defining_module l d) (parameters_of h) ts
  constructors_with u d i = []

  abbrev pub all_with : (u : ℕ) → List Defined → List Constructor
  all_with u [] = []
  all_with u (d ∷ ds) = constructors_with u d d.item ++ all_with (suc u) ds

  abbrev pub types_with : Defined → List TypeTerm
  types_with d =
      map (replaced H)
      (listed_types (declared_types l (defining_module l d) (type_terms_of d.item) nothing_met).0)

  abbrev pub predicate_with : Defined → Predicate
  predicate_with d =
      record {
        name = plain_name d.name;
        types = types_with d;
        clauses = [];
        builtin = builtin_among builtins (plain_name d.name) (is_function d.item);
      }
