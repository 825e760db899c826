-- A search that has made no choice.
use Rattle.std.proofs.Common.{◌≡◌, ℕ, List, [], length, sym, refl, subst, inl, inr, arith}
use Rattle.std.specs.Prelude.{replicate}
use Rattle.std.proofs.lemmas.Bool.{cases_lt}
use Rattle.std.proofs.lemmas.List.{get_or-replicate, get_or_past, length-replicate}
use Rattle.mc_types.specs.Holds.{CellHolds, CellInOrder, cell_at}
use Rattle.mc_types.specs.Founded.{IsPart}
use Rattle.mc_types.specs.declared.cells.Cell.{Cell}
use Rattle.mc_types.specs.declared.cells.Cell.TheVariants.{Free}
use Rattle.mc_types.specs.declared.signature.Signature.{Signature}
use Rattle.mc_types.specs.declared.steps.Step.{Step}
use Rattle.mc_types.specs.code.Standing.{Represents}

free_everywhere : (n i : ℕ) → cell_at (replicate n Free) i ≡ Free
free_everywhere n i = elim (cases_lt i n) [
  | inl lt ↦ get_or-replicate n i Free Free lt
  | inr ge ↦ get_or_past (replicate n Free) i Free (omega (arith, length-replicate n Free))
]

pub represents_root : (signatures : List Signature) (steps : List Step) (places : ℕ) → Represents signatures steps places [] (replicate places Free)
represents_root signatures steps places = record {
  in_order = λ i. let P : Cell → Type 0 = λ c. CellInOrder (length (replicate places Free)) i c in subst P (sym (free_everywhere places i)) tt;
  founded = record {
    rank = λ i. 0;
    falls = λ i p e. let P : Cell → Type 0 = λ c. IsPart c p in absurd (subst P (free_everywhere places i) e);
  };
  room = omega (arith, length-replicate places Free);
  keeps = λ ρ h. tt;
  extends = λ θ typed. (θ, (λ i. let P : Cell → Type 0 = λ c. CellHolds θ i c in subst P (sym (free_everywhere places i)) tt), (λ i lt. refl));
}
