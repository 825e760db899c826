-- Types with one plain view are the same.
use Rattle.std.proofs.Common.{◌≡◌, List, [], ◌∷◌, map, refl, sym, ap, ap₂, ◌∙◌, subst}
use Rattle.mc_program.specs.Programs.{TypeTerm, int_type, char_type, string_type, state_type, variable_type, union_type, TypeTerms, no_types, type_then}
use Rattle.mc_program.specs.PlainPrograms.{type_terms, plain_type, plain_type_step}
use Rattle.mc_program.specs.declared.ty.Ty.{Ty, roll-Ty}
use Rattle.mc_program.specs.declared.ty.Ty.TheOpen as T
use Rattle.mc_program.specs.declared.ty.Ty.TheFolds.{map-Ty, fold-roll-Ty, ind-Ty}

abbrev mutual
  held : TypeTerm → Ty
  held int_type = roll-Ty T.Int
  held char_type = roll-Ty T.Char
  held string_type = roll-Ty T.Str
  held state_type = roll-Ty T.Io
  held (variable_type v) = roll-Ty (T.Var v)
  held (union_type u ts) = roll-Ty (T.Union u (all_held ts))

  all_held : TypeTerms → List Ty
  all_held no_types = []
  all_held (type_then t ts) = held t ∷ all_held ts

abbrev IsHeld : Ty → Type 0
IsHeld t = held (plain_type t) ≡ t

parts_held : (l : List ((t : Ty) × IsHeld t)) → all_held (type_terms (map plain_type (map (λ e. e.0) l))) ≡ map (λ e. e.0) l
parts_held [] = refl
parts_held (e ∷ l) = ap₂ (λ t ts. t ∷ ts) e.1 (parts_held l)

layer_held : (y : T.Ty-F ((t : Ty) × IsHeld t)) → IsHeld (roll-Ty (map-Ty ((t : Ty) × IsHeld t) Ty (λ e. e.0) y))
layer_held T.Int = ap held (fold-roll-Ty TypeTerm plain_type_step T.Int)
layer_held T.Char = ap held (fold-roll-Ty TypeTerm plain_type_step T.Char)
layer_held T.Str = ap held (fold-roll-Ty TypeTerm plain_type_step T.Str)
layer_held T.Io = ap held (fold-roll-Ty TypeTerm plain_type_step T.Io)
layer_held (T.Var v) = ap held (fold-roll-Ty TypeTerm plain_type_step (T.Var v))
layer_held (T.Union u l) =
    ap held (fold-roll-Ty TypeTerm plain_type_step (T.Union u (map (λ e. e.0) l)))
    ∙ ap (λ (ts : List Ty). roll-Ty (T.Union u ts)) (parts_held l)

is_held : (t : Ty) → IsHeld t
is_held = ind-Ty IsHeld (λ x y is. subst (λ z. IsHeld (roll-Ty z)) is (layer_held y))

pub same_view : (a b : Ty) → plain_type a ≡ plain_type b → a ≡ b
same_view a b e = sym (is_held a) ∙ ap held e ∙ is_held b
