-- The forms of insts and modes and of their definitions (the Mercury manual: Modes).
use Rattle.std.specs.Prelude.{ℕ, Bool, true, false, ◌&&◌, List, [], Option, Some, None, codes, if◌then◌else◌}
use Rattle.std.specs.Str.{bytes_eq}
use Rattle.std.specs.Set.{is_member}
use Rattle.mc_term_data.specs.Plain.{PlainTerm, PlainTerms, at, no_term, more_terms, Var, App, Items, Tailed, Disj}
use Rattle.mc_decl_syntax.specs.Plain.{PlainDecl, SameInst, BoundInst, ModeDef}
use Rattle.mc_term_data.specs.Shapes.{is_the_word, has_none, has_one, operands}
use Rattle.mc_decl_syntax.specs.Terms.{alternatives, parameters}

abbrev mutual
  -- an inst: one of these parameters, what `bound` lists, or a name over insts
  pub is_inst : List (List ℕ) → PlainTerm → Bool
  is_inst ps (at (Var x) l) = is_member bytes_eq ps x
  is_inst ps (at (App w ts) l) = is_inst_over ps (is_the_word (codes "bound") w) ts
  is_inst ps _ = false

  -- an inst over these terms: the one is what `bound` lists, where that is the name, and else each
  -- is an inst
  pub is_inst_over : List (List ℕ) → Bool → PlainTerms → Bool
  is_inst_over ps is_bound no_term = true
  is_inst_over ps is_bound (more_terms t no_term) =
      if is_bound then are_bound ps t else is_inst ps t
  is_inst_over ps is_bound (more_terms t (more_terms u ts)) =
      is_inst ps t && (is_inst ps u && are_insts ps ts)

  pub are_insts : List (List ℕ) → PlainTerms → Bool
  are_insts ps no_term = true
  are_insts ps (more_terms t ts) = is_inst ps t && are_insts ps ts

  -- the symbols that a bound inst lists
  pub are_bound : List (List ℕ) → PlainTerm → Bool
  are_bound ps (at (Disj ts) l) = are_symbols ps ts
  are_bound ps (at (App w ts) l) = are_insts ps ts
  are_bound ps (at (Items ts) l) = has_none ts
  are_bound ps (at (Tailed ts t) l) = has_one ts && are_insts ps ts && is_inst ps t
  are_bound ps _ = false

  -- a symbol of a bound inst: a name over insts, `[]`, or `[I | J]`
  pub is_symbol : List (List ℕ) → PlainTerm → Bool
  is_symbol ps (at (App w ts) l) = are_insts ps ts
  is_symbol ps (at (Items ts) l) = has_none ts
  is_symbol ps (at (Tailed ts t) l) = has_one ts && are_insts ps ts && is_inst ps t
  is_symbol ps _ = false

  pub are_symbols : List (List ℕ) → PlainTerms → Bool
  are_symbols ps no_term = true
  are_symbols ps (more_terms t ts) = is_symbol ps t && are_symbols ps ts

-- a mode: `I >> J`, or a name over insts
abbrev pub is_mode : List (List ℕ) → PlainTerm → Bool
is_mode ps (at (App w ts) l) = are_insts ps ts
is_mode ps _ = false

abbrev pub are_modes : PlainTerms → Bool
are_modes no_term = true
are_modes (more_terms t ts) = is_mode [] t && are_modes ts

-- the right side of a definition over these parameters, where the head has any: an inst, symbols, a
-- mode
abbrev pub is_inst_body : Option (List (List ℕ)) → PlainTerm → Bool
is_inst_body None t = false
is_inst_body (Some ps) t = is_inst ps t

abbrev pub is_bound_body : Option (List (List ℕ)) → PlainTerm → Bool
is_bound_body None t = false
is_bound_body (Some ps) t = are_symbols ps (alternatives t)

abbrev pub is_mode_body : Option (List (List ℕ)) → PlainTerm → Bool
is_mode_body None t = false
is_mode_body (Some ps) t = is_mode ps t

abbrev pub bound_inst : PlainTerm × PlainTerm → Option PlainDecl
bound_inst p =
    if is_bound_body (parameters p.0) p.1 then Some (BoundInst p.0 (alternatives p.1)) else None

abbrev pub same_inst : PlainTerm × PlainTerm → Option PlainDecl
same_inst p = if is_inst_body (parameters p.0) p.1 then Some (SameInst p.0 p.1) else None

abbrev pub same_or_none : Option (PlainTerm × PlainTerm) → Option PlainDecl
same_or_none (Some p) = same_inst p
same_or_none None = None

abbrev pub bound_or : PlainTerm → Option (PlainTerm × PlainTerm) → Option PlainDecl
bound_or t (Some p) = bound_inst p
bound_or t None = same_or_none (operands (codes "==") t)

-- what stands behind the word `inst`
abbrev pub inst_item : PlainTerm → Option PlainDecl
inst_item t = bound_or t (operands (codes "--->") t)

-- the definition of a mode, by the two sides of `==`
abbrev pub mode_definition : PlainTerm × PlainTerm → Option PlainDecl
mode_definition p = if is_mode_body (parameters p.0) p.1 then Some (ModeDef p.0 p.1) else None
