-- Whether two types are the same, and that types with one plain view are one type.
use Rattle.std.proofs.Common.{◌≡◌, ℕ, Bool, true, false, nat_eq, ◌&&◌, List, [], ◌∷◌, map, refl, sym, ap, ap₂, ◌∙◌, subst}
use Rattle.std.proofs.lemmas.Bool.{eqb-true, eq-eqb}
use Rattle.mc_program.specs.Programs.{TypeTerm, int_type, char_type, string_type, state_type, variable_type, union_type, TypeTerms, no_types, type_then}
use Rattle.mc_program.specs.PlainPrograms.{plain_type, plain_type_step, type_terms}
use Rattle.mc_program.specs.declared.ty.Ty.{Ty}
use Rattle.mc_program.specs.declared.ty.Ty.TheOpen as T
use Rattle.mc_program.specs.declared.ty.Ty.TheViews.{roll-Ty}
use Rattle.mc_program.specs.declared.ty.Ty.TheFolds.{ind-Ty, fold-roll-Ty, map-Ty}

abbrev mutual
  pub same_type : TypeTerm → TypeTerm → Bool
  same_type int_type int_type = true
  same_type char_type char_type = true
  same_type string_type string_type = true
  same_type state_type state_type = true
  same_type (variable_type v) (variable_type w) = nat_eq v w
  same_type (union_type u ts) (union_type v us) = nat_eq u v && same_types ts us
  same_type _ _ = false

  pub same_types : TypeTerms → TypeTerms → Bool
  same_types no_types no_types = true
  same_types (type_then t ts) (type_then u us) = same_type t u && same_types ts us
  same_types _ _ = false

both : (a b : Bool) → a ≡ true → b ≡ true → (a && b) ≡ true
both true b h i = i
both false b h i = cc

mutual
  pub same-refl : (t : TypeTerm) → same_type t t ≡ true
  same-refl int_type = refl
  same-refl char_type = refl
  same-refl string_type = refl
  same-refl state_type = refl
  same-refl (variable_type v) = eq-eqb v v refl
  same-refl (union_type u ts) = both (nat_eq u u) (same_types ts ts) (eq-eqb u u refl) (all-same-refl ts)

  all-same-refl : (ts : TypeTerms) → same_types ts ts ≡ true
  all-same-refl no_types = refl
  all-same-refl (type_then t ts) = both (same_type t t) (same_types ts ts) (same-refl t) (all-same-refl ts)

first : (a b : Bool) → (a && b) ≡ true → a ≡ true
first true b h = refl
first false b h = cc

second : (a b : Bool) → (a && b) ≡ true → b ≡ true
second true b h = h
second false b h = cc

mutual
  pub same-one : (t u : TypeTerm) → same_type t u ≡ true → t ≡ u
  same-one int_type int_type h = refl
  same-one int_type char_type h = cc
  same-one int_type string_type h = cc
  same-one int_type state_type h = cc
  same-one int_type (variable_type w) h = cc
  same-one int_type (union_type v us) h = cc
  same-one char_type int_type h = cc
  same-one char_type char_type h = refl
  same-one char_type string_type h = cc
  same-one char_type state_type h = cc
  same-one char_type (variable_type w) h = cc
  same-one char_type (union_type v us) h = cc
  same-one string_type int_type h = cc
  same-one string_type char_type h = cc
  same-one string_type string_type h = refl
  same-one string_type state_type h = cc
  same-one string_type (variable_type w) h = cc
  same-one string_type (union_type v us) h = cc
  same-one state_type int_type h = cc
  same-one state_type char_type h = cc
  same-one state_type string_type h = cc
  same-one state_type state_type h = refl
  same-one state_type (variable_type w) h = cc
  same-one state_type (union_type v us) h = cc
  same-one (variable_type x) int_type h = cc
  same-one (variable_type x) char_type h = cc
  same-one (variable_type x) string_type h = cc
  same-one (variable_type x) state_type h = cc
  same-one (variable_type x) (variable_type w) h = ap variable_type (eqb-true x w h)
  same-one (variable_type x) (union_type v us) h = cc
  same-one (union_type u ts) int_type h = cc
  same-one (union_type u ts) char_type h = cc
  same-one (union_type u ts) string_type h = cc
  same-one (union_type u ts) state_type h = cc
  same-one (union_type u ts) (variable_type w) h = cc
  same-one (union_type u ts) (union_type v us) h = ap₂ union_type (eqb-true u v (first (nat_eq u v) (same_types ts us) h)) (all-same-one ts us (second (nat_eq u v) (same_types ts us) h))

  all-same-one : (ts us : TypeTerms) → same_types ts us ≡ true → ts ≡ us
  all-same-one no_types no_types h = refl
  all-same-one no_types (type_then u us) h = cc
  all-same-one (type_then t ts) no_types h = cc
  all-same-one (type_then t ts) (type_then u us) h = ap₂ type_then (same-one t u (first (same_type t u) (same_types ts us) h)) (all-same-one ts us (second (same_type t u) (same_types ts us) h))

-- the type of which a term is the view
abbrev mutual
  held : TypeTerm → Ty
  held int_type = roll-Ty T.Int
  held char_type = roll-Ty T.Char
  held string_type = roll-Ty T.Str
  held state_type = roll-Ty T.Io
  held (variable_type v) = roll-Ty (T.Var v)
  held (union_type u ts) = roll-Ty (T.Union u (all_held ts))

  all_held : TypeTerms → List Ty
  all_held no_types = []
  all_held (type_then t ts) = held t ∷ all_held ts

abbrev IsHeld : Ty → Type 0
IsHeld t = held (plain_type t) ≡ t

all_are_held : (ts : List ((t : Ty) × IsHeld t)) → all_held (type_terms (map plain_type (map (λ e. e.0) ts))) ≡ map (λ e. e.0) ts
all_are_held [] = refl
all_are_held (t ∷ ts) = ap₂ (λ x xs. x ∷ xs) t.1 (all_are_held ts)

layer_is_held : (y : T.Ty-F ((t : Ty) × IsHeld t)) → let x = map-Ty ((t : Ty) × IsHeld t) Ty (λ e. e.0) y in held (plain_type_step (map-Ty Ty TypeTerm plain_type x)) ≡ roll-Ty x
layer_is_held T.Int = refl
layer_is_held T.Char = refl
layer_is_held T.Str = refl
layer_is_held T.Io = refl
layer_is_held (T.Var v) = refl
layer_is_held (T.Union u args) = ap (λ xs. roll-Ty (T.Union u xs)) (all_are_held args)

is_held : (t : Ty) → IsHeld t
is_held = ind-Ty IsHeld (λ x y is.
    ap held (fold-roll-Ty TypeTerm plain_type_step x) ∙ subst (λ (z : T.Ty-F Ty). held (plain_type_step (map-Ty Ty TypeTerm plain_type z)) ≡ roll-Ty z) is (layer_is_held y))

pub plain_type-injective : (t u : Ty) → plain_type t ≡ plain_type u → t ≡ u
plain_type-injective t u e = sym (is_held t) ∙ ap held e ∙ is_held u
