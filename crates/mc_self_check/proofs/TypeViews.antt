-- How the plain view of a type computes, and what is asked of a row of types and of a list.
use Rattle.std.proofs.Common.{◌≡◌, ◌↔◌, ℕ, suc, List, [], ◌∷◌, length, map, refl, sym, ap, ◌∙◌}
use Rattle.mc_program.specs.Programs.{TypeTerm, int_type, char_type, string_type, state_type, variable_type, union_type}
use Rattle.mc_program.specs.PlainPrograms.{type_terms, plain_type, plain_type_step}
use Rattle.mc_program.specs.declared.ty.Ty.{Ty, Int, Char, Str, Io, Var, Union}
use Rattle.mc_program.specs.declared.ty.Ty.TheOpen as T
use Rattle.mc_program.specs.declared.ty.Ty.TheVariants.{rolls-Int, rolls-Char, rolls-Str, rolls-Io, rolls-Var, rolls-Union}
use Rattle.mc_program.specs.declared.ty.Ty.TheFolds.{fold-roll-Ty}
use Rattle.mc_accepted.specs.ProperTypes.{Parameters, count_types, AllBelow, EachBelow, ProperTypes, EachProper}

pub plain_type-Union : (u : ℕ) (args : List Ty) → plain_type (Union u args) ≡ union_type u (type_terms (map plain_type args))
plain_type-Union u args = ap plain_type (sym (rolls-Union u args)) ∙ fold-roll-Ty TypeTerm plain_type_step (T.Union u args)

pub plain_type-Int : plain_type Int ≡ int_type
plain_type-Int = ap plain_type (sym rolls-Int) ∙ fold-roll-Ty TypeTerm plain_type_step T.Int

pub plain_type-Char : plain_type Char ≡ char_type
plain_type-Char = ap plain_type (sym rolls-Char) ∙ fold-roll-Ty TypeTerm plain_type_step T.Char

pub plain_type-Str : plain_type Str ≡ string_type
plain_type-Str = ap plain_type (sym rolls-Str) ∙ fold-roll-Ty TypeTerm plain_type_step T.Str

pub plain_type-Io : plain_type Io ≡ state_type
plain_type-Io = ap plain_type (sym rolls-Io) ∙ fold-roll-Ty TypeTerm plain_type_step T.Io

pub plain_type-Var : (k : ℕ) → plain_type (Var k) ≡ variable_type k
plain_type-Var k = ap plain_type (sym (rolls-Var k)) ∙ fold-roll-Ty TypeTerm plain_type_step (T.Var k)

pub below_row : (k : ℕ) (ts : List TypeTerm) → AllBelow k (type_terms ts) ↔ EachBelow k ts
below_row k [] = (λ h. h, λ h. h)
below_row k (t ∷ ts) =
    (λ h. (h.0, (below_row k ts).0 h.1), λ h. (h.0, (below_row k ts).1 h.1))

pub proper_row : (D : Parameters) (ts : List TypeTerm) → ProperTypes D (type_terms ts) ↔ EachProper D ts
proper_row D [] = (λ h. h, λ h. h)
proper_row D (t ∷ ts) =
    (λ h. (h.0, (proper_row D ts).0 h.1), λ h. (h.0, (proper_row D ts).1 h.1))

pub count_row : (ts : List Ty) → count_types (type_terms (map plain_type ts)) ≡ length ts
count_row [] = refl
count_row (t ∷ ts) = ap suc (count_row ts)
