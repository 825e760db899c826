-- What a written inst and a written mode mean in a module (the Mercury manual: Modes; The module
-- system).
use Rattle.std.specs.Prelude.{ℕ, ◌+◌, Bool, List, [], ◌∷◌, ◌++◌, length, Option, Some, None, codes, slice_get, if◌then◌else◌}
use Rattle.mc_term_data.specs.Plain.{PlainTerm, PlainTerms, at, no_term, more_terms, Var, App, Tailed, Disj}
use Rattle.mc_term_data.specs.Names.{count, Row, row, found}
use Rattle.mc_term_data.specs.Shapes.{is_the_word, operands}
use Rattle.mc_decl_syntax.specs.Plain.{Path}
use Rattle.mc_names.specs.Plain.{PlainNameArity, id, qualifiers, last_part}
use Rattle.mc_names.specs.Definitions.{symbol_name}
use Rattle.mc_names.specs.Linked.{Defined, Linked}
use Rattle.mc_names.specs.Numbers.{numbers_where}
use Rattle.mc_names.specs.Candidates.{looked_in, type_fits}
use Rattle.mc_names.specs.Parameters.{place_of}
use Rattle.mc_accepted.specs.InstRules.{Functor, InstTerm, parameter, inst_node, defined, bound_over, InstTerms, no_insts, inst_then}

-- the builtin insts, by their nodes
unfoldable pub builtin_insts : List (Row ℕ)
builtin_insts =
    row (codes "free") 0 0
    ∷ row (codes "ground") 0 1
    ∷ row (codes "unique") 0 2
    ∷ row (codes "dead") 0 3
    ∷ row (codes "clobbered") 0 3
    ∷ []

-- what a name without qualifiers means among rows
abbrev pub builtin : {A : Type 0} → List (Row A) → Path → (arity : ℕ) → Option A
builtin rows (w ∷ []) n = found rows w n
builtin rows _ n = None

-- the definitions among these that a name may mean in a module, by their numbers, in the order of
-- the modules that it sees
abbrev pub numbers_among : Linked → (own : ℕ) → PlainNameArity → List Defined → List ℕ → List ℕ
numbers_among l own x ds [] = []
numbers_among l own x ds (j ∷ js) =
    numbers_where (type_fits l own x j) 0 ds ++ numbers_among l own x ds js

abbrev pub first_or : (otherwise : ℕ) → List ℕ → ℕ
first_or n [] = n
first_or n (k ∷ ks) = k

-- The first of them. Where there is none, which linking refuses, it is a number that none has.
abbrev pub meaning : Linked → (own : ℕ) → List Defined → Path → (arity : ℕ) → ℕ
meaning l own ds w n =
    first_or (length ds)
    (numbers_among l own (id (last_part w) n) ds (looked_in l (slice_get l.scopes own) (qualifiers w)))

-- one inst behind others
abbrev pub append_insts : InstTerms → InstTerms → InstTerms
append_insts no_insts js = js
append_insts (inst_then i is) js = inst_then i (append_insts is js)

abbrev pub builtin_or_defined : Option ℕ → (definition : ℕ) → InstTerms → InstTerm
builtin_or_defined (Some node) d is = inst_node node
builtin_or_defined None d is = defined d is

-- an inst's name over these
abbrev pub named_inst : Linked → (own : ℕ) → Path → (arity : ℕ) → InstTerms → InstTerm
named_inst l own w n is =
    builtin_or_defined (builtin builtin_insts w n) (meaning l own l.insts w n) is

-- the constructors that terms name
abbrev pub functor : PlainNameArity → Functor
functor x = record { name = x.name; arity = x.arity }

abbrev pub functors : PlainTerms → List Functor
functors no_term = []
functors (more_terms t ts) = functor (symbol_name t) ∷ functors ts

-- those that `bound` lists
abbrev pub listed_functors : PlainTerm → List Functor
listed_functors (at (Disj ts) line) = functors ts
listed_functors t = functor (symbol_name t) ∷ []

-- The inst that a term writes in the module of a number: a variable by its place among these names,
-- what `bound` lists, a name by what it means there. (A term of another form is no inst: the items'
-- form refuses it.)
abbrev mutual
  pub written_inst : Linked → (own : ℕ) → (variables : List (List ℕ)) → PlainTerm → InstTerm
  written_inst l own vs (at (Var x) line) = parameter (place_of x vs)
  written_inst l own vs (at (App w ts) line) =
      inst_over l own vs w (is_the_word (codes "bound") w) ts
  written_inst l own vs _ = defined (length l.insts) no_insts

  -- a name over terms: the one is what `bound` lists, where that is the name
  pub inst_over :
      Linked → (own : ℕ) → (variables : List (List ℕ)) → Path → (is_bound : Bool) → PlainTerms
      → InstTerm
  inst_over l own vs w is_bound no_term = named_inst l own w 0 no_insts
  inst_over l own vs w is_bound (more_terms t no_term) =
      if is_bound then bound_over (listed_functors t) (listed_insts l own vs t)
      else named_inst l own w 1 (inst_then (written_inst l own vs t) no_insts)
  inst_over l own vs w is_bound (more_terms t (more_terms u ts)) =
      named_inst l own w (2 + count ts)
      (inst_then (written_inst l own vs t)
      (inst_then (written_inst l own vs u) (written_insts l own vs ts)))

  pub written_insts : Linked → (own : ℕ) → (variables : List (List ℕ)) → PlainTerms → InstTerms
  written_insts l own vs no_term = no_insts
  written_insts l own vs (more_terms t ts) =
      inst_then (written_inst l own vs t) (written_insts l own vs ts)

  -- the insts of the arguments of all constructors that `bound` lists
  pub listed_insts : Linked → (own : ℕ) → (variables : List (List ℕ)) → PlainTerm → InstTerms
  listed_insts l own vs (at (Disj ts) line) = all_listed l own vs ts
  listed_insts l own vs (at (App w ts) line) = written_insts l own vs ts
  listed_insts l own vs (at (Tailed ts t) line) =
      append_insts (written_insts l own vs ts) (inst_then (written_inst l own vs t) no_insts)
  listed_insts l own vs _ = no_insts

  pub all_listed : Linked → (own : ℕ) → (variables : List (List ℕ)) → PlainTerms → InstTerms
  all_listed l own vs no_term = no_insts
  all_listed l own vs (more_terms t ts) =
      append_insts (listed_insts l own vs t) (all_listed l own vs ts)

-- A mode: from one inst to another, or a definition over insts.
pub data ModeTerm : Type 0 where
  from_to : (first last : InstTerm) → ModeTerm
  defined_mode : (definition : ℕ) → InstTerms → ModeTerm

-- the builtin modes
unfoldable pub builtin_modes : List (Row ModeTerm)
builtin_modes =
    row (codes "in") 0 (from_to (inst_node 1) (inst_node 1))
    ∷ row (codes "out") 0 (from_to (inst_node 0) (inst_node 1))
    ∷ row (codes "di") 0 (from_to (inst_node 2) (inst_node 3))
    ∷ row (codes "uo") 0 (from_to (inst_node 0) (inst_node 2))
    ∷ []

-- `in(I)` and `out(I)`
abbrev pub over_one : Path → InstTerms → Option ModeTerm
over_one w (inst_then i no_insts) =
    if is_the_word (codes "in") w then Some (from_to i i)
    else if is_the_word (codes "out") w then Some (from_to (inst_node 0) i) else None
over_one w is = None

abbrev pub mode_or : Option ModeTerm → (otherwise : ModeTerm) → ModeTerm
mode_or None m = m
mode_or (Some m) otherwise = m

-- a name over insts that is no builtin one
abbrev pub user_mode : Linked → (own : ℕ) → (variables : List (List ℕ)) → Path → PlainTerms → ModeTerm
user_mode l own vs w ts =
    mode_or (over_one w (written_insts l own vs ts))
    (defined_mode (meaning l own l.modes w (count ts)) (written_insts l own vs ts))

abbrev pub mode_over : Linked → (own : ℕ) → (variables : List (List ℕ)) → Path → PlainTerms → ModeTerm
mode_over l own vs w ts = mode_or (builtin builtin_modes w (count ts)) (user_mode l own vs w ts)

abbrev pub named_mode :
    Linked → (own : ℕ) → (variables : List (List ℕ)) → PlainTerm → Option (PlainTerm × PlainTerm)
    → ModeTerm
named_mode l own vs t (Some p) = from_to (written_inst l own vs p.0) (written_inst l own vs p.1)
named_mode l own vs (at (App w ts) line) None = mode_over l own vs w ts
named_mode l own vs _ None = defined_mode (length l.modes) no_insts

-- the mode that a term writes: `I >> J`, or a name over insts
abbrev pub written_mode : Linked → (own : ℕ) → (variables : List (List ℕ)) → PlainTerm → ModeTerm
written_mode l own vs t = named_mode l own vs t (operands (codes ">>") t)

-- the insts that are written in a mode
abbrev pub insts_of_mode : ModeTerm → InstTerms
insts_of_mode (from_to i j) = inst_then i (inst_then j no_insts)
insts_of_mode (defined_mode d is) = is
