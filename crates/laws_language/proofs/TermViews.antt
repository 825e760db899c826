-- The plain views of types and of terms have inverses, as that of values has.
use Rattle.std.proofs.Common.{◌≡◌, List, [], ◌∷◌, map, refl, sym, ap, ap₂, ◌∙◌, subst}
use Rattle.mc_program.specs.Values.{Val, int, char, str, con, state, plain_value}
use Rattle.mc_program.proofs.Views.{plain_value-injective}
use Rattle.mc_program.specs.Programs.{TypeTerm, int_type, char_type, string_type, state_type, variable_type, union_type, TypeTerms, no_types, type_then, Expression, variable, constant, made, applied, Expressions, no_expressions, expression_then, expressions}
use Rattle.mc_program.specs.PlainPrograms.{type_terms, plain_type, plain_type_step, plain_expression, plain_expression_step}
use Rattle.laws_language.specs.Laws.{PlainIsExact, PlainTypesAreExact, PlainTermsAreExact}
use Rattle.mc_program.specs.declared.ty.Ty.{Ty}
use Rattle.mc_program.specs.declared.ty.Ty.TheOpen as T
use Rattle.mc_program.specs.declared.ty.Ty.TheViews.{roll-Ty}
use Rattle.mc_program.specs.declared.ty.Ty.TheFolds.{ind-Ty, fold-roll-Ty, map-Ty}
use Rattle.mc_program.specs.declared.expr.Expr.{Expr}
use Rattle.mc_program.specs.declared.expr.Expr.TheOpen as E
use Rattle.mc_program.specs.declared.expr.Expr.TheViews.{roll-Expr}
use Rattle.mc_program.specs.declared.expr.Expr.TheFolds.{ind-Expr, fold-roll-Expr, map-Expr}

pub plain_is_exact : PlainIsExact
plain_is_exact v w = (plain_value-injective v w, (λ e. ap plain_value e))

-- the type of which the data is the view
abbrev mutual
  held_type : TypeTerm → Ty
  held_type int_type = roll-Ty T.Int
  held_type char_type = roll-Ty T.Char
  held_type string_type = roll-Ty T.Str
  held_type state_type = roll-Ty T.Io
  held_type (variable_type v) = roll-Ty (T.Var v)
  held_type (union_type u ts) = roll-Ty (T.Union u (held_types ts))

  held_types : TypeTerms → List Ty
  held_types no_types = []
  held_types (type_then t ts) = held_type t ∷ held_types ts

abbrev IsHeldType : Ty → Type 0
IsHeldType t = held_type (plain_type t) ≡ t

all_types_are_held : (ts : List ((t : Ty) × IsHeldType t)) → held_types (type_terms (map plain_type (map (λ e. e.0) ts))) ≡ map (λ e. e.0) ts
all_types_are_held [] = refl
all_types_are_held (t ∷ ts) = ap₂ (λ x xs. x ∷ xs) t.1 (all_types_are_held ts)

type_layer_is_held : (y : T.Ty-F ((t : Ty) × IsHeldType t)) → let x = map-Ty ((t : Ty) × IsHeldType t) Ty (λ e. e.0) y in held_type (plain_type_step (map-Ty Ty TypeTerm plain_type x)) ≡ roll-Ty x
type_layer_is_held T.Int = refl
type_layer_is_held T.Char = refl
type_layer_is_held T.Str = refl
type_layer_is_held T.Io = refl
type_layer_is_held (T.Var v) = refl
type_layer_is_held (T.Union u args) = ap (λ xs. roll-Ty (T.Union u xs)) (all_types_are_held args)

type_is_held : (t : Ty) → IsHeldType t
type_is_held = ind-Ty IsHeldType (λ x y is.
    ap held_type (fold-roll-Ty TypeTerm plain_type_step x) ∙ subst (λ (z : T.Ty-F Ty). held_type (plain_type_step (map-Ty Ty TypeTerm plain_type z)) ≡ roll-Ty z) is (type_layer_is_held y))

pub plain_types_are_exact : PlainTypesAreExact
plain_types_are_exact a b = ((λ e. sym (type_is_held a) ∙ ap held_type e ∙ type_is_held b), (λ e. ap plain_type e))

-- The term of which the data is the view. No term holds a constructor's value, or a state, as a constant.
abbrev held_constant : Val → Expr
held_constant (int n) = roll-Expr (E.Int n)
held_constant (char c) = roll-Expr (E.Char c)
held_constant (str t) = roll-Expr (E.Str t)
held_constant (con s vs) = roll-Expr (E.Var 0)
held_constant (state t k) = roll-Expr (E.Var 0)

abbrev mutual
  held_term : Expression → Expr
  held_term (variable v) = roll-Expr (E.Var v)
  held_term (constant c) = held_constant c
  held_term (made s ts) = roll-Expr (E.Con s (held_terms ts))
  held_term (applied f ts) = roll-Expr (E.Apply f (held_terms ts))

  held_terms : Expressions → List Expr
  held_terms no_expressions = []
  held_terms (expression_then t ts) = held_term t ∷ held_terms ts

abbrev IsHeldTerm : Expr → Type 0
IsHeldTerm e = held_term (plain_expression e) ≡ e

all_terms_are_held : (es : List ((e : Expr) × IsHeldTerm e)) → held_terms (expressions (map plain_expression (map (λ e. e.0) es))) ≡ map (λ e. e.0) es
all_terms_are_held [] = refl
all_terms_are_held (e ∷ es) = ap₂ (λ x xs. x ∷ xs) e.1 (all_terms_are_held es)

term_layer_is_held : (y : E.Expr-F ((e : Expr) × IsHeldTerm e)) → let x = map-Expr ((e : Expr) × IsHeldTerm e) Expr (λ e. e.0) y in held_term (plain_expression_step (map-Expr Expr Expression plain_expression x)) ≡ roll-Expr x
term_layer_is_held (E.Var v) = refl
term_layer_is_held (E.Int n) = refl
term_layer_is_held (E.Char c) = refl
term_layer_is_held (E.Str t) = refl
term_layer_is_held (E.Con s args) = ap (λ xs. roll-Expr (E.Con s xs)) (all_terms_are_held args)
term_layer_is_held (E.Apply f args) = ap (λ xs. roll-Expr (E.Apply f xs)) (all_terms_are_held args)

term_is_held : (e : Expr) → IsHeldTerm e
term_is_held = ind-Expr IsHeldTerm (λ x y is.
    ap held_term (fold-roll-Expr Expression plain_expression_step x) ∙ subst (λ (z : E.Expr-F Expr). held_term (plain_expression_step (map-Expr Expr Expression plain_expression z)) ≡ roll-Expr z) is (term_layer_is_held y))

pub plain_terms_are_exact : PlainTermsAreExact
plain_terms_are_exact a b = ((λ e. sym (term_is_held a) ∙ ap held_term e ∙ term_is_held b), (λ e. ap plain_expression e))
