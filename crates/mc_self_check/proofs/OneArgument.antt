-- A union type over one argument.
use Rattle.std.proofs.Common.{◌≡◌, ◌↔◌, ℕ, Bool, IsTrue, List, [], ◌∷◌, map, sym, ap, ◌∙◌, subst}
use Rattle.mc_program.specs.Programs.{TypeTerm, TypeTerms, no_types, type_then, union_type}
use Rattle.mc_program.specs.PlainPrograms.{type_terms, plain_type, plain_type_step}
use Rattle.mc_program.specs.declared.ty.Ty.{Ty, Union}
use Rattle.mc_program.specs.declared.ty.Ty.TheOpen as T
use Rattle.mc_program.specs.declared.ty.Ty.TheVariants.{rolls-Union}
use Rattle.mc_program.specs.declared.ty.Ty.TheFolds.{fold-roll-Ty}

one_type :
    (ts : List TypeTerm) (t : TypeTerm) → type_terms ts ≡ type_then t no_types → ts ≡ t ∷ []
one_type [] t e = cc
one_type (s ∷ []) t e = cc
one_type (s ∷ r ∷ ts) t e = cc

args_same : (u v : ℕ) (ts us : TypeTerms) → union_type u ts ≡ union_type v us → ts ≡ us
args_same u v ts us e = cc

plain_type-Union :
    (u : ℕ) (args : List Ty)
    → plain_type (Union u args) ≡ union_type u (type_terms (map plain_type args))
plain_type-Union u args =
    ap plain_type (sym (rolls-Union u args)) ∙ fold-roll-Ty TypeTerm plain_type_step (T.Union u args)

one_argument :
    (u number : ℕ) (ts : List TypeTerm) (t : TypeTerm) (b : Bool)
    → u ≡ number
    → (IsTrue b ↔ (ts ≡ t ∷ []))
    → IsTrue b ↔ (union_type u (type_terms ts) ≡ union_type number (type_then t no_types))
one_argument u number ts t b same one =
    (λ h. let e = one.0 h in cc, λ e. one.1 (one_type ts t (args_same u number _ _ e)))

-- a type is a union type over one argument exactly where its arguments are that one
pub is_over_one :
    (x : Ty) (u number : ℕ) (args : List Ty) (t : TypeTerm) (b : Bool)
    → x ≡ Union u args → u ≡ number
    → (IsTrue b ↔ (map plain_type args ≡ t ∷ []))
    → IsTrue b ↔ (plain_type x ≡ union_type number (type_then t no_types))
is_over_one x u number args t b is same one =
    let Is : TypeTerm → Type 0 =
    λ y. IsTrue b ↔ (y ≡ union_type number (type_then t no_types)) in
    subst Is (sym (ap plain_type is ∙ plain_type-Union u args))
    (one_argument u number (map plain_type args) t b same one)
