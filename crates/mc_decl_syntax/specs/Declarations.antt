-- The forms of declarations (the Mercury manual: Declarations; The module system; Pragmas).
use Rattle.std.specs.Prelude.{ℕ, Bool, true, false, not, ◌&&◌, ◌||◌, List, [], ◌∷◌, Option, Some, None, codes, if◌then◌else◌}
use Rattle.std.specs.Option.{is_some, option_map, option_or}
use Rattle.mc_term_data.specs.Plain.{PlainTerm, PlainTerms, at, no_term, more_terms, App}
use Rattle.mc_term_data.specs.Names.{Row, row, found, count}
use Rattle.mc_source.specs.declared.det.Det.{Det}
use Rattle.mc_decl_syntax.specs.declared.keyword.Keyword.{Keyword}
use Rattle.mc_decl_syntax.specs.declared.keyword.Keyword.TheVariants as K
use Rattle.mc_decl_syntax.specs.Plain.{PlainDecl, ModuleStart, ModuleEnd, Interface, Implementation, Imports, UseOnly, Pred, Func, Mode, Pragma}
use Rattle.mc_term_data.specs.Shapes.{word, is_word, is_the_word, has_none, operands}
use Rattle.mc_decl_syntax.specs.Terms.{path, only, conjuncts, paths, declared_as}
use Rattle.mc_decl_syntax.specs.Types.{is_type, type_item}
use Rattle.mc_decl_syntax.specs.Insts.{is_mode, are_modes, inst_item, mode_definition}

unfoldable pub section_words : List (Row Keyword)
section_words =
    row (codes "interface") 0 K.Interface ∷ row (codes "implementation") 0 K.Implementation ∷ []

unfoldable pub module_words : List (Row Keyword)
module_words =
    row (codes "module") 1 K.Module
    ∷ row (codes "end_module") 1 K.EndModule
    ∷ row (codes "import_module") 1 K.ImportModule
    ∷ row (codes "use_module") 1 K.UseModule
    ∷ []

unfoldable pub declaring_words : List (Row Keyword)
declaring_words =
    row (codes "type") 1 K.TypeWord
    ∷ row (codes "inst") 1 K.Inst
    ∷ row (codes "mode") 1 K.Mode
    ∷ row (codes "pred") 1 K.Pred
    ∷ row (codes "func") 1 K.Func
    ∷ row (codes "pragma") 1 K.Pragma
    ∷ []

-- the words that declarations begin with
abbrev pub keyword_over : List ℕ → ℕ → Option Keyword
keyword_over w n =
    option_or (found section_words w n)
    (option_or (found module_words w n) (found declaring_words w n))

abbrev pub moded_as : Option (PlainTerm × PlainTerm) → Bool
moded_as None = false
moded_as (Some p) = is_type p.0 && is_mode [] p.1

-- an argument or a result with its mode, `T :: M`
abbrev pub is_moded : PlainTerm → Bool
is_moded t = moded_as (operands (codes "::") t)

abbrev pub plain_as : PlainTerm → Option (PlainTerm × PlainTerm) → Bool
plain_as t None = is_type t
plain_as t (Some p) = false

-- an argument or a result without a mode
abbrev pub is_plain : PlainTerm → Bool
is_plain t = plain_as t (operands (codes "::") t)

abbrev pub are_moded : PlainTerms → Bool
are_moded no_term = true
are_moded (more_terms t ts) = is_moded t && are_moded ts

abbrev pub are_plain : PlainTerms → Bool
are_plain no_term = true
are_plain (more_terms t ts) = is_plain t && are_plain ts

-- All arguments of a predicate have a mode, or none has, and then no determinism stands behind it
-- (`d`: whether one does).
abbrev pub is_pred : PlainTerm → Bool → Bool
is_pred (at (App w ts) l) d = is_word w && (are_moded ts || not d && are_plain ts)
is_pred _ d = false

-- the same of a function's arguments and its result
abbrev pub is_func_over : PlainTerm → PlainTerm → Bool → Bool
is_func_over (at (App w ts) l) r d =
    is_word w && (are_moded ts && is_moded r || not d && are_plain ts && is_plain r)
is_func_over _ r d = false

abbrev pub is_func : Option (PlainTerm × PlainTerm) → Bool → Bool
is_func None d = false
is_func (Some p) d = is_func_over p.0 p.1 d

abbrev pub has_modes : PlainTerm → Bool
has_modes (at (App w ts) l) = is_word w && are_modes ts
has_modes _ = false

-- a further mode, of a predicate or of a function
abbrev pub is_further : PlainTerm → Option (PlainTerm × PlainTerm) → Bool
is_further t None = has_modes t
is_further t (Some p) = has_modes p.0 && is_mode [] p.1

abbrev pub pred_item : Option (PlainTerm × Option Det) → Option PlainDecl
pred_item None = None
pred_item (Some p) = if is_pred p.0 (is_some p.1) then Some (Pred p.0 p.1) else None

abbrev pub func_item : Option (PlainTerm × Option Det) → Option PlainDecl
func_item None = None
func_item (Some p) =
    if is_func (operands (codes "=") p.0) (is_some p.1) then Some (Func p.0 p.1) else None

abbrev pub further_mode : Option (PlainTerm × Option Det) → Option PlainDecl
further_mode None = None
further_mode (Some p) =
    if is_further p.0 (operands (codes "=") p.0) then Some (Mode p.0 p.1) else None

abbrev pub definition_or : PlainTerm → Option (PlainTerm × PlainTerm) → Option PlainDecl
definition_or t (Some p) = mode_definition p
definition_or t None = further_mode (declared_as t)

-- what stands behind the word `mode`
abbrev pub mode_item : PlainTerm → Option PlainDecl
mode_item t = definition_or t (operands (codes "==") t)

-- a pragma without effect: `inline(..)` or `no_inline(..)`
abbrev pub is_pragma : PlainTerm → Bool
is_pragma (at (App w ts) l) =
    (is_the_word (codes "inline") w || is_the_word (codes "no_inline") w) && not (has_none ts)
is_pragma _ = false

abbrev pub keyword_of : Option (List ℕ) → ℕ → Option Keyword
keyword_of None n = None
keyword_of (Some w) n = keyword_over w n

-- the word that a name over its parts is
abbrev pub keyword : PlainTerm → Option Keyword
keyword (at (App w ts) l) = keyword_of (word w) (count ts)
keyword _ = None

-- what a word declares, by its part where it has one
abbrev pub declared : Option Keyword → Option PlainTerm → Option PlainDecl
declared (Some K.Interface) None = Some Interface
declared (Some K.Implementation) None = Some Implementation
declared (Some K.Module) (Some t) = option_map ModuleStart (path t)
declared (Some K.EndModule) (Some t) = option_map ModuleEnd (path t)
declared (Some K.ImportModule) (Some t) = option_map Imports (paths (conjuncts t))
declared (Some K.UseModule) (Some t) = option_map UseOnly (paths (conjuncts t))
declared (Some K.TypeWord) (Some t) = type_item t
declared (Some K.Inst) (Some t) = inst_item t
declared (Some K.Mode) (Some t) = mode_item t
declared (Some K.Pred) (Some t) = pred_item (declared_as t)
declared (Some K.Func) (Some t) = func_item (declared_as t)
declared (Some K.Pragma) (Some t) = if is_pragma t then Some Pragma else None
declared _ t = None

-- what a declaration declares, by the term behind `:-`; none where it has no form
abbrev pub declaration : PlainTerm → Option PlainDecl
declaration t = declared (keyword t) (only t)
