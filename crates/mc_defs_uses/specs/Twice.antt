-- Names that stand twice in one union or in one bound inst (the Mercury manual: Types; Modes).
use Rattle.std.specs.Prelude.{Bool, nat_eq, ◌&&◌, List, [], ◌∷◌, ◌++◌, Option, Some, None, codes, if◌then◌else◌}
use Rattle.std.specs.Option.{option_or}
use Rattle.std.specs.Set.{is_member}
use Rattle.mc_term_data.specs.Plain.{PlainTerm, PlainTerms, at, no_term, more_terms, App, Tailed, Disj}
use Rattle.mc_term_data.specs.Names.{count}
use Rattle.mc_decl_syntax.specs.Plain.{PlainDecl, UnionType, SameInst, BoundInst, ModeDef, Pred, Func, Mode}
use Rattle.mc_term_data.specs.Shapes.{operands, is_the_word}
use Rattle.mc_names.specs.Plain.{PlainNameArity, is_name_arity}
use Rattle.mc_names.specs.Definitions.{symbol_name}

-- the first constructor of a union whose name stands before it too, in the union or among these
-- names
abbrev pub again_among : List PlainNameArity → PlainTerms → Option PlainNameArity
again_among before no_term = None
again_among before (more_terms t ts) =
    if is_member is_name_arity before (symbol_name t) then Some (symbol_name t)
    else again_among (before ++ symbol_name t ∷ []) ts

abbrev mutual
  -- the first symbol of a bound inst in an inst whose name stands before it too, in the same bound
  -- inst
  pub again_in : PlainTerm → Option PlainNameArity
  again_in (at (App w ts) l) = again_over (is_the_word (codes "bound") w && nat_eq (count ts) 1) ts
  again_in _ = None

  pub again_over : (is_bound : Bool) → PlainTerms → Option PlainNameArity
  again_over is_bound no_term = None
  again_over is_bound (more_terms t ts) =
      if is_bound then again_bound t else option_or (again_in t) (again_in_all ts)

  pub again_in_all : PlainTerms → Option PlainNameArity
  again_in_all no_term = None
  again_in_all (more_terms t ts) = option_or (again_in t) (again_in_all ts)

  -- the symbols that `bound` lists, or the only one
  pub again_bound : PlainTerm → Option PlainNameArity
  again_bound (at (Disj ts) l) = again_symbols [] ts
  again_bound (at (App w ts) l) = again_in_all ts
  again_bound (at (Tailed ts t) l) = option_or (again_in_all ts) (again_in t)
  again_bound _ = None

  -- symbols, behind those of these names
  pub again_symbols : (before : List PlainNameArity) → PlainTerms → Option PlainNameArity
  again_symbols before no_term = None
  again_symbols before (more_terms t ts) =
      if is_member is_name_arity before (symbol_name t) then Some (symbol_name t)
      else option_or (again_bound t) (again_symbols (before ++ symbol_name t ∷ []) ts)

-- the insts of a mode that an argument or a result has
abbrev pub again_in_mode : Option (PlainTerm × PlainTerm) → Option PlainNameArity
again_in_mode None = None
again_in_mode (Some p) = again_in p.1

abbrev pub again_in_parameters : PlainTerms → Option PlainNameArity
again_in_parameters no_term = None
again_in_parameters (more_terms t ts) =
    option_or (again_in_mode (operands (codes "::") t)) (again_in_parameters ts)

abbrev pub again_in_signature : PlainTerm → Option PlainNameArity
again_in_signature (at (App w ts) l) = again_in_parameters ts
again_in_signature _ = None

abbrev pub again_in_func : Option (PlainTerm × PlainTerm) → Option PlainNameArity
again_in_func None = None
again_in_func (Some p) =
    option_or (again_in_signature p.0) (again_in_mode (operands (codes "::") p.1))

abbrev pub again_in_modes : PlainTerm → Option (PlainTerm × PlainTerm) → Option PlainNameArity
again_in_modes t None = again_in t
again_in_modes t (Some p) = option_or (again_in p.0) (again_in p.1)

-- the first name in the text of an item that stands twice in one union or one bound inst
abbrev pub twice_in : PlainDecl → Option PlainNameArity
twice_in (UnionType h ts) = again_among [] ts
twice_in (SameInst h t) = again_in t
twice_in (BoundInst h ts) = again_symbols [] ts
twice_in (ModeDef h t) = again_in t
twice_in (Pred t d) = again_in_signature t
twice_in (Func t d) = again_in_func (operands (codes "=") t)
twice_in (Mode t d) = again_in_modes t (operands (codes "=") t)
twice_in i = None
