-- Types in which others are replaced, by rows.
use Rattle.std.proofs.Common.{◌≡◌, ℕ, zero, suc, ◌+◌, ◌<◌, List, [], ◌∷◌, map, length, get_or, refl, sym, ap, ◌∙◌, arith}
use Rattle.std.specs.Prelude.{Option, None}
use Rattle.mc_program.specs.Programs.{TypeTerm, variable_type, union_type, type_then}
use Rattle.mc_program.specs.PlainPrograms.{plain_type, plain_type_step, type_terms}
use Rattle.mc_program.specs.declared.ty.Ty.{Ty, Var, Union}
use Rattle.mc_program.specs.declared.ty.Ty.TheOpen as T
use Rattle.mc_program.specs.declared.ty.Ty.TheVariants.{rolls-Var, rolls-Union}
use Rattle.mc_program.specs.declared.ty.Ty.TheFolds.{fold-roll-Ty}
use Rattle.mc_model.specs.Types.{type_at, instance_of, instances_of}
use Rattle.mc_type_table.specs.Expanded.{replaced, all_replaced, defined_as}
use Rattle.mc_type_table.specs.Held.{held}

replaced_each :
    (D : ℕ → Option TypeTerm) (ts : List Ty)
    → type_terms (map (λ t. replaced D (plain_type t)) ts)
    ≡ all_replaced D (type_terms (map plain_type ts))
replaced_each D [] = refl
replaced_each D (t ∷ ts) = ap (type_then (replaced D (plain_type t))) (replaced_each D ts)

pub replaced_over :
    (ds : List (Option Ty)) (u : ℕ) (ts types : List Ty)
    → map plain_type types ≡ map (λ t. replaced (held ds) (plain_type t)) ts
    → defined_as u (type_terms (map plain_type types)) (held ds u)
    ≡ replaced (held ds) (union_type u (type_terms (map plain_type ts)))
replaced_over ds u ts types same =
    ap (λ us. defined_as u us (held ds u)) (ap type_terms same ∙ replaced_each (held ds) ts)

instance_each :
    (f : ℕ → TypeTerm) (ts : List Ty)
    → type_terms (map (λ t. instance_of f (plain_type t)) ts)
    ≡ instances_of f (type_terms (map plain_type ts))
instance_each f [] = refl
instance_each f (t ∷ ts) = ap (type_then (instance_of f (plain_type t))) (instance_each f ts)

pub instance_over :
    (f : ℕ → TypeTerm) (ts types : List Ty)
    → map plain_type types ≡ map (λ t. instance_of f (plain_type t)) ts
    → type_terms (map plain_type types) ≡ instances_of f (type_terms (map plain_type ts))
instance_over f ts types same = ap type_terms same ∙ instance_each f ts

pub type_at_place :
    (ts : List Ty) (v : ℕ) (t : Ty)
    → v < length ts → t ≡ get_or ts v t
    → plain_type t ≡ type_at (type_terms (map plain_type ts)) v
type_at_place [] v t below is = absurd (omega arith)
type_at_place (x ∷ ts) zero t below is = ap plain_type is
type_at_place (x ∷ ts) (suc v) t below is =
    let less : v < length ts = omega arith in
    type_at_place ts v t less is

pub type_at_none :
    (ts : List Ty) (v w : ℕ)
    → w + length ts ≡ v → type_at (type_terms (map plain_type ts)) v ≡ variable_type w
type_at_none [] v w e = let same : v ≡ w = omega arith in ap variable_type same
type_at_none (t ∷ ts) zero w e = absurd (omega arith)
type_at_none (t ∷ ts) (suc v) w e =
    let less : w + length ts ≡ v = omega arith in
    type_at_none ts v w less

pub variable_past :
    (ts : List Ty) (v w : ℕ)
    → w + length ts ≡ v → plain_type (Var w) ≡ type_at (type_terms (map plain_type ts)) v
variable_past ts v w e =
    ap plain_type (sym (rolls-Var w))
    ∙ fold-roll-Ty TypeTerm plain_type_step (T.Var w)
    ∙ sym (type_at_none ts v w e)

plain_union :
    (u : ℕ) (ts : List Ty) → plain_type (Union u ts) ≡ union_type u (type_terms (map plain_type ts))
plain_union u ts =
    ap plain_type (sym (rolls-Union u ts))
    ∙ fold-roll-Ty TypeTerm plain_type_step (T.Union u ts)

pub instance_union :
    (f : ℕ → TypeTerm) (u : ℕ) (ts us types : List Ty) (t : Ty)
    → t ≡ Union u ts → us ≡ ts
    → map plain_type types ≡ map (λ x. instance_of f (plain_type x)) us
    → plain_type (Union u types) ≡ instance_of f (plain_type t)
instance_union f u ts us types t is same each =
    let each : map plain_type types ≡ map (λ x. instance_of f (plain_type x)) ts =
    each ∙ ap (map (λ x. instance_of f (plain_type x))) same
    in
    plain_union u types
    ∙ ap (union_type u) (instance_over f ts types each)
    ∙ sym (ap (λ x. instance_of f (plain_type x)) is ∙ ap (instance_of f) (plain_union u ts))

pub union_undefined :
    (u : ℕ) (ts : List Ty) (d : Option TypeTerm)
    → d ≡ None
    → plain_type (Union u ts) ≡ defined_as u (type_terms (map plain_type ts)) d
union_undefined u ts d none =
    plain_union u ts ∙ sym (ap (defined_as u (type_terms (map plain_type ts))) none)
