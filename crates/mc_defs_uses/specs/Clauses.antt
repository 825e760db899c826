-- What clauses and further modes are of, and which predicates are declared without a mode (the
-- Mercury manual: Clauses; Different clauses for different modes; Modes).
use Rattle.std.specs.Prelude.{Bool, true, false, not, ◌&&◌, ◌||◌, [], ◌∷◌, Option, Some, None, codes, if◌then◌else◌}
use Rattle.std.specs.Option.{is_some}
use Rattle.mc_term_data.specs.Plain.{PlainTerm, at, App}
use Rattle.mc_clause_syntax.specs.Limits.{argument_count}
use Rattle.mc_term_data.specs.Shapes.{operands, has_none}
use Rattle.mc_decl_syntax.specs.Plain.{PlainDecl, Pred, Mode, Clause}
use Rattle.mc_decl_syntax.specs.Declarations.{are_moded}
use Rattle.mc_names.specs.declared.definition.Kind.TheVariants as K
use Rattle.mc_names.specs.Plain.{PlainNameArity, id, PlainDefinition, definition}
use Rattle.mc_names.specs.Definitions.{head_name}

-- a name over the arguments of a clause's head, where both versions of a state variable are two
abbrev pub clause_head : PlainTerm → PlainNameArity
clause_head (at (App (w ∷ []) ts) l) = id w (argument_count true ts)
clause_head _ = id [] 0

-- the predicate or function that a head is of
abbrev pub of_head : PlainTerm → Option (PlainTerm × PlainTerm) → PlainDefinition
of_head t None = definition K.Pred (clause_head t)
of_head t (Some p) = definition K.Func (clause_head p.0)

abbrev pub of_rule : PlainTerm → Option (PlainTerm × PlainTerm) → PlainDefinition
of_rule t None = of_head t (operands (codes "=") t)
of_rule t (Some p) = of_head p.0 (operands (codes "=") p.0)

-- the predicate or function that a clause is of
abbrev pub clause_of : PlainDecl → Option PlainDefinition
clause_of (Clause t) = Some (of_rule t (operands (codes ":-") t))
clause_of i = None

abbrev pub of_mode : PlainTerm → Option (PlainTerm × PlainTerm) → PlainDefinition
of_mode t None = definition K.Pred (head_name t)
of_mode t (Some p) = definition K.Func (head_name p.0)

-- the predicate or function that a further mode is of
abbrev pub mode_of : PlainDecl → Option PlainDefinition
mode_of (Mode t d) = Some (of_mode t (operands (codes "=") t))
mode_of i = None

-- whether the declaration of a predicate is a mode of it too
abbrev pub is_mode_too : PlainTerm → (has_determinism : Bool) → Bool
is_mode_too (at (App w ts) l) has_determinism =
    are_moded ts && (not (has_none ts) || has_determinism)
is_mode_too _ has_determinism = false

-- the predicate that an item declares without a mode
abbrev pub without_mode : PlainDecl → Option PlainNameArity
without_mode (Pred t d) = if is_mode_too t (is_some d) then None else Some (head_name t)
without_mode i = None
