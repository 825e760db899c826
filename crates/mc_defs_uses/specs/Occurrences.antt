-- The names that an item uses, in the order of its text (the Mercury manual: Types; Modes; Clauses;
-- Goals).
use Rattle.std.specs.Prelude.{ℕ, Bool, true, false, nat_eq, ◌&&◌, List, [], ◌∷◌, ◌++◌, Option, Some, None, codes, if◌then◌else◌}
use Rattle.std.specs.Option.{is_some}
use Rattle.mc_term_data.specs.Plain.{PlainTerm, PlainTerms, at, no_term, more_terms, App, Items, Tailed, Conj, Disj}
use Rattle.mc_term_data.specs.Names.{count}
use Rattle.mc_operators.specs.Table.{infix_row}
use Rattle.mc_clause_syntax.specs.declared.goal_form.Parts.{Parts}
use Rattle.mc_clause_syntax.specs.declared.goal_form.Parts.TheVariants.{Nothing, Goals, Quantified, Sides, Arguments}
use Rattle.mc_clause_syntax.specs.GoalForms.{goal_form, parts}
use Rattle.mc_clause_syntax.specs.StateVariables.{is_state}
use Rattle.mc_clause_syntax.specs.Limits.{argument_count}
use Rattle.mc_term_data.specs.Shapes.{operands, is_the_word}
use Rattle.mc_decl_syntax.specs.Plain.{Path, PlainDecl, UnionType, SameType, SameInst, BoundInst, ModeDef, Pred, Func, Mode, Clause}
use Rattle.mc_names.specs.declared.definition.Kind.TheVariants as K
use Rattle.mc_names.specs.Plain.{PlainOccurrence, used}
use Rattle.mc_names.specs.Definitions.{comma, semicolon, cell_path, nil_path}

-- An infix operator stands between its operands, and every other name before its arguments.
abbrev pub is_infix : Path → Bool
is_infix (w ∷ []) = is_some (infix_row w)
is_infix _ = false

abbrev pub in_order :
    (between_parts : Bool)
    → List PlainOccurrence → (first others : List PlainOccurrence) → List PlainOccurrence
in_order true name first others = first ++ (name ++ others)
in_order false name first others = name ++ (first ++ others)

abbrev mutual
  -- the types in a type
  pub types_in : PlainTerm → List PlainOccurrence
  types_in (at (App w ts) l) = types_over w (nat_eq (count ts) 2 && is_infix w) (count ts) ts
  types_in _ = []

  pub types_over : Path → Bool → ℕ → PlainTerms → List PlainOccurrence
  types_over w between_parts n no_term = used K.DefinedType w n
  types_over w between_parts n (more_terms t ts) =
      in_order between_parts (used K.DefinedType w n) (types_in t) (all_types ts)

  pub all_types : PlainTerms → List PlainOccurrence
  all_types no_term = []
  all_types (more_terms t ts) = types_in t ++ all_types ts

abbrev mutual
  -- the insts in an inst; the symbols that `bound` lists aren't looked up
  pub insts_in : PlainTerm → List PlainOccurrence
  insts_in (at (App w ts) l) =
      insts_over w (is_the_word (codes "bound") w && nat_eq (count ts) 1)
      (nat_eq (count ts) 2 && is_infix w) (count ts) ts
  insts_in _ = []

  pub insts_over : Path → (is_bound between_parts : Bool) → ℕ → PlainTerms → List PlainOccurrence
  insts_over w is_bound between_parts n no_term = used K.Inst w n
  insts_over w is_bound between_parts n (more_terms t ts) =
      if is_bound then symbols_in t
      else in_order between_parts (used K.Inst w n) (insts_in t) (all_insts ts)

  pub all_insts : PlainTerms → List PlainOccurrence
  all_insts no_term = []
  all_insts (more_terms t ts) = insts_in t ++ all_insts ts

  pub symbols_in : PlainTerm → List PlainOccurrence
  symbols_in (at (App w ts) l) = all_insts ts
  symbols_in (at (Disj ts) l) = all_symbols ts
  symbols_in (at (Tailed ts t) l) = all_insts ts ++ insts_in t
  symbols_in _ = []

  pub all_symbols : PlainTerms → List PlainOccurrence
  all_symbols no_term = []
  all_symbols (more_terms t ts) = symbols_in t ++ all_symbols ts

-- the modes and insts in a mode, `I >> J` or a name over insts
abbrev pub modes_in : PlainTerm → List PlainOccurrence
modes_in (at (App w ts) l) =
    (if is_the_word (codes ">>") w && nat_eq (count ts) 2 then [] else used K.Mode w (count ts))
    ++ all_insts ts
modes_in _ = []

abbrev pub all_modes : PlainTerms → List PlainOccurrence
all_modes no_term = []
all_modes (more_terms t ts) = modes_in t ++ all_modes ts

-- an argument or a result: a type, and a mode where it has one
abbrev pub parameter_by : PlainTerm → Option (PlainTerm × PlainTerm) → List PlainOccurrence
parameter_by t None = types_in t
parameter_by t (Some p) = types_in p.0 ++ modes_in p.1

abbrev pub parameter_in : PlainTerm → List PlainOccurrence
parameter_in t = parameter_by t (operands (codes "::") t)

abbrev pub all_parameters : PlainTerms → List PlainOccurrence
all_parameters no_term = []
all_parameters (more_terms t ts) = parameter_in t ++ all_parameters ts

abbrev pub parameters_of : PlainTerm → List PlainOccurrence
parameters_of (at (App w ts) l) = all_parameters ts
parameters_of _ = []

abbrev pub func_by : Option (PlainTerm × PlainTerm) → List PlainOccurrence
func_by None = []
func_by (Some p) = parameters_of p.0 ++ parameter_in p.1

abbrev pub modes_of : PlainTerm → List PlainOccurrence
modes_of (at (App w ts) l) = all_modes ts
modes_of _ = []

abbrev pub further_by : PlainTerm → Option (PlainTerm × PlainTerm) → List PlainOccurrence
further_by t None = modes_of t
further_by t (Some p) = modes_of p.0 ++ modes_in p.1

-- an argument of a constructor, with the name of a field or without
abbrev pub field_by : PlainTerm → Option (PlainTerm × PlainTerm) → List PlainOccurrence
field_by t None = types_in t
field_by t (Some p) = types_in p.1

abbrev pub all_fields : PlainTerms → List PlainOccurrence
all_fields no_term = []
all_fields (more_terms t ts) = field_by t (operands (codes "::") t) ++ all_fields ts

abbrev pub constructor_in : PlainTerm → List PlainOccurrence
constructor_in (at (App w ts) l) = all_fields ts
constructor_in (at (Tailed ts t) l) = all_fields ts ++ field_by t (operands (codes "::") t)
constructor_in _ = []

abbrev pub all_constructors : PlainTerms → List PlainOccurrence
all_constructors no_term = []
all_constructors (more_terms t ts) = constructor_in t ++ all_constructors ts

abbrev mutual
  -- The constructors, functions and characters in a term. A state variable is none; a list is `[|]`
  -- over each element and what follows, and `[]` at its end.
  pub terms_in : PlainTerm → List PlainOccurrence
  terms_in (at (App w ts) l) =
      if is_state w ts then []
      else terms_over w (nat_eq (count ts) 2 && is_infix w) (argument_count true ts) ts
  terms_in (at (Items ts) l) = elements_in ts
  terms_in (at (Tailed ts t) l) = cells_in ts ++ terms_in t
  terms_in (at (Conj ts) l) = between comma ts
  terms_in (at (Disj ts) l) = between semicolon ts
  terms_in _ = []

  pub terms_over : Path → Bool → ℕ → PlainTerms → List PlainOccurrence
  terms_over w between_parts n no_term = used K.Symbol w n
  terms_over w between_parts n (more_terms t ts) =
      in_order between_parts (used K.Symbol w n) (terms_in t) (all_terms ts)

  pub all_terms : PlainTerms → List PlainOccurrence
  all_terms no_term = []
  all_terms (more_terms t ts) = terms_in t ++ all_terms ts

  pub cells_in : PlainTerms → List PlainOccurrence
  cells_in no_term = []
  cells_in (more_terms t ts) = used K.Symbol cell_path 2 ++ (terms_in t ++ cells_in ts)

  pub elements_in : PlainTerms → List PlainOccurrence
  elements_in no_term = used K.Symbol nil_path 0
  elements_in (more_terms t ts) = used K.Symbol cell_path 2 ++ (terms_in t ++ elements_in ts)

  pub between : Path → PlainTerms → List PlainOccurrence
  between w no_term = []
  between w (more_terms t no_term) = terms_in t
  between w (more_terms t (more_terms u us)) =
      terms_in t ++ (used K.Symbol w 2 ++ between w (more_terms u us))

-- the arguments of a call with its name
abbrev pub call_by :
    (between_parts : Bool) → List PlainOccurrence → PlainTerms → List PlainOccurrence
call_by between_parts name no_term = name
call_by between_parts name (more_terms t ts) =
    in_order between_parts name (terms_in t) (all_terms ts)

abbrev mutual
  -- the predicates in a goal, and what its terms use
  pub goals_in : PlainTerm → List PlainOccurrence
  goals_in (at (Conj ts) l) = all_goals ts
  goals_in (at (Disj ts) l) = all_goals ts
  goals_in (at (App w ts) l) = goal_by w (parts (goal_form w (count ts))) ts
  goals_in _ = []

  pub goal_by : Path → Parts → PlainTerms → List PlainOccurrence
  goal_by w Nothing ts = []
  goal_by w Sides ts = all_terms ts
  goal_by w Arguments ts =
      call_by (nat_eq (count ts) 2 && is_infix w) (used K.Pred w (argument_count true ts)) ts
  goal_by w (Goals a b) no_term = []
  goal_by w (Goals a b) (more_terms t ts) = goals_in t ++ all_goals ts
  goal_by w Quantified no_term = []
  goal_by w Quantified (more_terms t ts) = all_goals ts

  pub all_goals : PlainTerms → List PlainOccurrence
  all_goals no_term = []
  all_goals (more_terms t ts) = goals_in t ++ all_goals ts

-- the terms in a head; its own name is looked up as a declaration is
abbrev pub arguments_of : PlainTerm → List PlainOccurrence
arguments_of (at (App w ts) l) = all_terms ts
arguments_of _ = []

abbrev pub head_by : PlainTerm → Option (PlainTerm × PlainTerm) → List PlainOccurrence
head_by t None = arguments_of t
head_by t (Some p) = arguments_of p.0 ++ terms_in p.1

abbrev pub head_in : PlainTerm → List PlainOccurrence
head_in t = head_by t (operands (codes "=") t)

abbrev pub clause_by : PlainTerm → Option (PlainTerm × PlainTerm) → List PlainOccurrence
clause_by t None = head_in t
clause_by t (Some p) = head_in p.0 ++ goals_in p.1

-- the names that an item uses
abbrev pub uses : PlainDecl → List PlainOccurrence
uses (UnionType h ts) = all_constructors ts
uses (SameType h t) = types_in t
uses (SameInst h t) = insts_in t
uses (BoundInst h ts) = all_symbols ts
uses (ModeDef h t) = modes_in t
uses (Pred t d) = parameters_of t
uses (Func t d) = func_by (operands (codes "=") t)
uses (Mode t d) = further_by t (operands (codes "=") t)
uses (Clause t) = clause_by t (operands (codes ":-") t)
uses _ = []
