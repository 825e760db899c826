-- The types of the choices that are found first are the most general.
use Rattle.std.proofs.Common.{◌≡◌, ℕ, ◌≤◌, Bool, true, false, cond, ltb, List, [], ◌∷◌, ◌++◌, length, sym, ◌∙◌, ap, subst, arith}
use Rattle.mc_types.specs.Writing.{AllStand}
use Rattle.mc_types.specs.declared.cells.Cell.{Cell}
use Rattle.mc_types.specs.declared.signature.Signature.{Signature}
use Rattle.mc_types.specs.declared.written_types.Written.{Written}
use Rattle.mc_types.proofs.Solutions.{solved}
use Rattle.mc_types.specs.declared.steps.Step.{Step}
use Rattle.mc_types.specs.code.Standing.{Represents}
use Rattle.mc_types.specs.Resolved.{MostGeneral}
use Rattle.mc_types.specs.code.Found.{noted, TypesKept}
use Rattle.mc_types.proofs.Progress.{TypesFit}

module _ (signatures : List Signature) (steps : List Step) (places vars : ℕ) (room : vars ≤ places) where
  most_general : (cs : List ℕ) (cells : List Cell) (types : List Written) → Represents signatures steps places cs cells → AllStand cells vars types → MostGeneral signatures steps vars cs types
  most_general cs cells types r stand = record {
    as_many = stand.as_many;
    general = λ θ typed.
        let e = r.extends θ typed in
        (e.0, (λ i d lt. sym (e.2 i (omega arith)) ∙ sym ((stand.stand i d lt).same e.0 e.1)));
    typed = λ σ.
        let s = solved cells r.founded σ in (
          s.types,
          r.keeps s.types s.holds,
          (λ i d lt. sym ((stand.stand i d lt).same s.types s.holds) ∙ (stand.stand i d lt).free s.types σ s.free),
        );
  }

  pub types_step : (all_steps : Bool) (found : List (List ℕ)) (new : List ℕ) (cells : List Cell) (before after : List Written) → Represents signatures steps places new cells → TypesFit signatures steps vars before found → TypesKept all_steps (length found) cells vars before after → TypesFit signatures steps vars after (noted all_steps found new)
  types_step false found new cells before after r fit kept = let P : List Written → Type 0 = λ ws. TypesFit signatures steps vars ws found in subst P (sym kept) fit
  types_step true [] new cells before after r fit stand = λ cs rest e.
      let same : new ≡ cs = cc e in
      let P : List ℕ → Type 0 = λ xs. MostGeneral signatures steps vars xs after in
      subst P same (most_general new cells after r stand)
  types_step true (f ∷ fs) new cells before after r fit kept = λ cs rest e.
      let P : List Written → Type 0 = λ ws. MostGeneral signatures steps vars cs ws in
      let first : (b : Bool) → cond b (f ∷ (fs ++ new ∷ [])) (f ∷ fs) ≡ cs ∷ rest → f ≡ cs = λ b. elim b as (λ b. cond b (f ∷ (fs ++ new ∷ [])) (f ∷ fs) ≡ cs ∷ rest → f ≡ cs) [ true ↦ (λ x. cc x) | false ↦ (λ x. cc x) ] in
      subst P (sym kept) (fit cs fs (ap (λ x. x ∷ fs) (first (ltb (length (f ∷ fs)) 2) e)))

  pub types_first : (all_steps : Bool) (cells : List Cell) (before after : List Written) → Represents signatures steps places [] cells → TypesKept all_steps 0 cells vars before after → TypesFit signatures steps vars after (noted all_steps [] [])
  types_first false cells before after r kept = λ cs rest e. let never : ⊥ = omega (arith, ap length e) in absurd never
  types_first true cells before after r stand = λ cs rest e.
      let same : [] ≡ cs = cc e in
      let P : List ℕ → Type 0 = λ xs. MostGeneral signatures steps vars xs after in
      subst P same (most_general [] cells after r stand)
