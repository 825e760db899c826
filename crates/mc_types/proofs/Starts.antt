-- The substitution of variables for themselves.
use Rattle.std.proofs.Common.{◌≡◌, ℕ, zero, suc, length, sym, ◌∙◌, ap, refl, subst, inl, inr, arith}
use Rattle.std.specs.Prelude.{replicate}
use Rattle.std.proofs.lemmas.Bool.{cases_lt}
use Rattle.std.proofs.lemmas.List.{get_or-replicate, get_or_past, length-replicate}
use Rattle.mc_types.specs.Shapes.{Shape, rigid}
use Rattle.mc_types.specs.Holds.{Holds, CellHolds, InOrder, cell_at}
use Rattle.mc_types.specs.Founded.{IsPart}
use Rattle.mc_types.specs.Solved.{value, value_of}
use Rattle.mc_types.specs.declared.cells.Cell.{Cell}
use Rattle.mc_types.specs.declared.cells.Cell.TheVariants.{Free, Rigid}
use Rattle.mc_types.specs.Substitutions.{IsIdentity}
use Rattle.mc_types.specs.Trees.{shape, type_of}
use Rattle.mc_types.specs.code.Systems.{IsSystem, types_of}
use Rattle.mc_types.proofs.Generals.{as_many_types, image_at}

all_free : (n i : ℕ) → cell_at (replicate n Free) i ≡ Free
all_free n i = elim (cases_lt i n) [
  | inl lt ↦ get_or-replicate n i Free Free lt
  | inr ge ↦ get_or_past (replicate n Free) i Free (omega (arith, length-replicate n Free))
]

abbrev IsRigid : Cell → Type 0
IsRigid (Rigid k) = Unit {0}
IsRigid _ = ⊥

free_holds : (n : ℕ) (θ : ℕ → Shape) → Holds θ (replicate n Free)
free_holds n θ i = let P : Cell → Type 0 = λ c. CellHolds θ i c in subst P (sym (all_free n i)) tt

pub free_system : (n : ℕ) → InOrder (replicate n Free) → IsSystem n (replicate n Free)
free_system n o = record {
  in_order = o;
  founded = record {
    rank = λ i. 0;
    falls = λ i p e. let P : Cell → Type 0 = λ c. IsPart c p in absurd (subst P (all_free n i) e);
  };
  room = omega (arith, length-replicate n Free);
  apart = record {
    free = λ i lt e. omega (arith, length-replicate n Free);
    rigid = λ i k e. let P : Cell → Type 0 = λ c. IsRigid c in absurd (subst P (sym (sym (all_free n i) ∙ e)) tt);
  };
  proper = λ ρ h. ((λ v. shape (type_of (ρ v))), free_holds n (λ v. shape (type_of (ρ v))), (λ v lt. refl));
}

free_value : (n : ℕ) (σ : ℕ → Shape) (d i : ℕ) → value (replicate n Free) σ d i ≡ σ i
free_value n σ zero i = refl
free_value n σ (suc d) i = ap (value_of (value (replicate n Free) σ d) (σ i)) (all_free n i)

pub free_identity : (n : ℕ) → IsIdentity n (types_of n (replicate n Free))
free_identity n = record {
  as_many = as_many_types n (replicate n Free);
  same = λ v lt. image_at n (replicate n Free) v lt ∙ ap type_of (free_value n rigid (length (replicate n Free)) v);
}
