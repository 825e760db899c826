-- How the plain view of a type computes.
use Rattle.std.proofs.Common.{◌≡◌, ℕ, List, [], ◌∷◌, ◌++◌, map, refl, sym, ap, ap₂, ◌∙◌}
use Rattle.mc_program.specs.Programs.{TypeTerm, int_type, char_type, string_type, state_type, variable_type, union_type, TypeTerms, no_types, type_then}
use Rattle.mc_program.specs.PlainPrograms.{type_terms, plain_type, plain_type_step}
use Rattle.mc_program.specs.declared.ty.Ty.{Ty, Int, Char, Str, Io, Var, Union}
use Rattle.mc_program.specs.declared.ty.Ty.TheOpen as T
use Rattle.mc_program.specs.declared.ty.Ty.TheVariants.{rolls-Int, rolls-Char, rolls-Str, rolls-Io, rolls-Var, rolls-Union}
use Rattle.mc_program.specs.declared.ty.Ty.TheFolds.{fold-roll-Ty}
use Rattle.mc_types.specs.Trees.{with_argument}
use Rattle.mc_types.specs.code.Systems.{held_type, held_types}

pub plain_type-Union : (u : ℕ) (args : List Ty) → plain_type (Union u args) ≡ union_type u (type_terms (map plain_type args))
plain_type-Union u args = ap plain_type (sym (rolls-Union u args)) ∙ fold-roll-Ty TypeTerm plain_type_step (T.Union u args)

pub plain_type-Int : plain_type Int ≡ int_type
plain_type-Int = ap plain_type (sym rolls-Int) ∙ fold-roll-Ty TypeTerm plain_type_step T.Int

pub plain_type-Char : plain_type Char ≡ char_type
plain_type-Char = ap plain_type (sym rolls-Char) ∙ fold-roll-Ty TypeTerm plain_type_step T.Char

pub plain_type-Str : plain_type Str ≡ string_type
plain_type-Str = ap plain_type (sym rolls-Str) ∙ fold-roll-Ty TypeTerm plain_type_step T.Str

pub plain_type-Io : plain_type Io ≡ state_type
plain_type-Io = ap plain_type (sym rolls-Io) ∙ fold-roll-Ty TypeTerm plain_type_step T.Io

pub plain_type-Var : (k : ℕ) → plain_type (Var k) ≡ variable_type k
plain_type-Var k = ap plain_type (sym (rolls-Var k)) ∙ fold-roll-Ty TypeTerm plain_type_step (T.Var k)

-- the view of the type that data is the view of
mutual
  pub plain_held : (t : TypeTerm) → plain_type (held_type t) ≡ t
  plain_held int_type = fold-roll-Ty TypeTerm plain_type_step T.Int
  plain_held char_type = fold-roll-Ty TypeTerm plain_type_step T.Char
  plain_held string_type = fold-roll-Ty TypeTerm plain_type_step T.Str
  plain_held state_type = fold-roll-Ty TypeTerm plain_type_step T.Io
  plain_held (variable_type v) = fold-roll-Ty TypeTerm plain_type_step (T.Var v)
  plain_held (union_type u ts) = fold-roll-Ty TypeTerm plain_type_step (T.Union u (held_types ts)) ∙ ap (union_type u) (all_plain_held ts)

  all_plain_held : (ts : TypeTerms) → type_terms (map plain_type (held_types ts)) ≡ ts
  all_plain_held no_types = refl
  all_plain_held (type_then t ts) = ap₂ (λ x xs. type_then x xs) (plain_held t) (all_plain_held ts)

pub type_terms-push : (args : List Ty) (x : Ty) → type_terms (map plain_type (args ++ x ∷ [])) ≡ with_argument (plain_type x) (type_terms (map plain_type args))
type_terms-push [] x = refl
type_terms-push (t ∷ ts) x = ap (type_then (plain_type t)) (type_terms-push ts x)
