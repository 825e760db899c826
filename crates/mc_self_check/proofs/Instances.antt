-- Instances of types, and the arguments of a union type by their places.
use Rattle.std.specs.Prelude.{IsTrue}
use Rattle.std.proofs.Common.{◌≡◌, ◌↔◌, ℕ, zero, suc, ◌+◌, ◌<◌, Bool, List, [], ◌∷◌, length, map, get_or, refl, sym, ap, ◌∙◌, arith}
use Rattle.mc_program.specs.Programs.{TypeTerm, variable_type, union_type, type_then}
use Rattle.mc_program.specs.PlainPrograms.{type_terms, plain_type}
use Rattle.mc_program.specs.declared.ty.Ty.{Ty, Var, Union}
use Rattle.mc_model.specs.Types.{type_at, instance_of, instances_of}
use Rattle.mc_self_check.proofs.TypeViews.{plain_type-Union, plain_type-Var}
use Rattle.mc_self_check.proofs.SameTypes.{same_view}

pub instances_row : (σ : ℕ → TypeTerm) (ts : List TypeTerm) → instances_of σ (type_terms ts) ≡ type_terms (map (instance_of σ) ts)
instances_row σ [] = refl
instances_row σ (t ∷ ts) = ap (type_then (instance_of σ t)) (instances_row σ ts)

pub instance_view : (σ : ℕ → TypeTerm) (u : ℕ) (args : List Ty) (t : Ty) → t ≡ Union u args → instance_of σ (plain_type t) ≡ union_type u (type_terms (map (instance_of σ) (map plain_type args)))
instance_view σ u args t is =
    ap (instance_of σ) (ap plain_type is ∙ plain_type-Union u args)
    ∙ ap (union_type u) (instances_row σ (map plain_type args))

pub type_at_place : (ts : List Ty) (v : ℕ) (t : Ty) → v < length ts → t ≡ get_or ts v t → plain_type t ≡ type_at (type_terms (map plain_type ts)) v
type_at_place [] v t below is = absurd (omega arith)
type_at_place (x ∷ ts) zero t below is = ap plain_type is
type_at_place (x ∷ ts) (suc v) t below is =
    let less : v < length ts = omega arith in
    type_at_place ts v t less is

type_at_none : (ts : List Ty) (v w : ℕ) → w + length ts ≡ v → type_at (type_terms (map plain_type ts)) v ≡ variable_type w
type_at_none [] v w e = let same : v ≡ w = omega arith in ap variable_type same
type_at_none (t ∷ ts) zero w e = absurd (omega arith)
type_at_none (t ∷ ts) (suc v) w e =
    let less : w + length ts ≡ v = omega arith in
    type_at_none ts v w less

pub variable_past : (ts : List Ty) (v w : ℕ) → w + length ts ≡ v → plain_type (Var w) ≡ type_at (type_terms (map plain_type ts)) v
variable_past ts v w e = plain_type-Var w ∙ sym (type_at_none ts v w e)

-- a type that is another one, told by its plain view
pub same_told : (t s : Ty) (k : TypeTerm) (b : Bool) → plain_type s ≡ k → (IsTrue b ↔ (t ≡ s)) → IsTrue b ↔ (plain_type t ≡ k)
same_told t s k b is test =
    (λ h. ap plain_type (test.0 h) ∙ is, λ e. test.1 (same_view t s (e ∙ sym is)))
