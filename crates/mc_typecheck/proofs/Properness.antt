-- The ties of a walk name places and meanings that are there.
use Rattle.std.proofs.Common.{◌≡◌, ℕ, zero, suc, ◌+◌, ◌-◌, ◌<◌, ◌≤◌, Bool, List, [], ◌∷◌, ◌++◌, length, get_or, sym, ap, subst, ◌∙◌, arith}
use Rattle.std.proofs.lemmas.List.{length-map}
use Rattle.mc_program.specs.Programs.{Source}
use Rattle.mc_program.specs.PlainPrograms.{plain_type}
use Rattle.mc_accepted.specs.ProperTypes.{Parameters}
use Rattle.mc_accepted.specs.Resolving.{Step as WalkStep, push_variable, push_number, push_text, choose, equate, call, close_head}
use Rattle.mc_source.specs.declared.name.Candidate.{Candidate}
use Rattle.mc_types.specs.declared.signature.Signature.{Signature}
use Rattle.mc_types.specs.declared.steps.Step.{Step}
use Rattle.mc_types.specs.Typed.{Proper, AllProper}
use Rattle.mc_typecheck.specs.Ties.{Meaning, of_number, of_text, of_equation, of_head, Declared, Tie, tied, sole, named, topmost, below, declared, made_by, names_term, names_atom}
use Rattle.mc_typecheck.specs.Searched.{AreTies, VariablesBelow, plain_step, plain_tie}
use Rattle.mc_typecheck.proofs.Suiting.{same_places, same_candidates, found_at, as_many, first_is, others_are, ties_length}
use Rattle.mc_typecheck.proofs.Offers.{offered_at, sole_at}
use Rattle.mc_typecheck.proofs.WalkingLemmas.{AllBelow, below_more, below_join, below_take, below_drop}

module _ (P : Source) (D : Parameters) (places : ℕ) where
  pub record ProperTie (t : Tie) : Type 0 where
    pub low : AllBelow places t.places
    pub long : (c : ℕ) → c < length t.meanings → length (declared P D (get_or t.meanings c of_equation)).types ≡ length t.places

  abbrev AllProperTies : List Tie → Type 0
  AllProperTies [] = Unit {0}
  AllProperTies (t ∷ ts) = ProperTie t × AllProperTies ts

  sole_proper : (m : Meaning) (ps : List ℕ) → AllBelow places ps → ProperTie (sole P D m ps)
  sole_proper m ps low = record {
    low = low;
    long = λ c lt. let s = sole_at P D m ps c lt in ap (λ x. length (declared P D x).types) s.is ∙ s.long;
  }

  named_proper : (test : Candidate → Bool) (cs : List Candidate) (ps : List ℕ) → AllBelow places ps → ProperTie (named P D test cs ps)
  named_proper test cs ps low = record {
    low = low;
    long = λ c lt. let o = offered_at P D test (length ps) [] cs c lt in ap (λ x. length (declared P D x).types) o.is ∙ o.long;
  }

  module _ (vars : ℕ) where
    pub ties_proper : (walk : List WalkStep) (next : ℕ) (stack : List ℕ) → AllBelow next stack → VariablesBelow vars walk → vars ≤ next → next + made_by walk ≤ places → AllProperTies (tied P D walk next stack)
    ties_proper [] next stack low own le room = tt
    ties_proper (push_variable v ∷ walk) next stack low own le room = ties_proper walk next (stack ++ v ∷ []) (below_join next stack (v ∷ []) low (omega (arith, own.0), tt)) own.1 le room
    ties_proper (push_number ∷ walk) next stack low own le room = (
      sole_proper of_number (next ∷ []) (omega arith, tt),
      ties_proper walk (suc next) (stack ++ next ∷ []) (below_join (suc next) stack (next ∷ []) (below_more next (suc next) stack (omega arith) low) (omega arith, tt)) own (omega arith) (omega arith),
    )
    ties_proper (push_text ∷ walk) next stack low own le room = (
      sole_proper of_text (next ∷ []) (omega arith, tt),
      ties_proper walk (suc next) (stack ++ next ∷ []) (below_join (suc next) stack (next ∷ []) (below_more next (suc next) stack (omega arith) low) (omega arith, tt)) own (omega arith) (omega arith),
    )
    ties_proper (choose cs n ∷ walk) next stack low own le room =
        let top : AllBelow places (topmost n stack) = below_more next places (topmost n stack) (omega arith) (below_drop next (length stack - n) stack low) in
        let rest : AllBelow (suc next) (below n stack) = below_more next (suc next) (below n stack) (omega arith) (below_take next (length stack - n) stack low) in (
          named_proper names_term cs (topmost n stack ++ next ∷ []) (below_join places (topmost n stack) (next ∷ []) top (omega arith, tt)),
          ties_proper walk (suc next) (below n stack ++ next ∷ []) (below_join (suc next) (below n stack) (next ∷ []) rest (omega arith, tt)) own (omega arith) (omega arith),
        )
    ties_proper (equate ∷ walk) next stack low own le room = (
      sole_proper of_equation (topmost 2 stack) (below_more next places (topmost 2 stack) (omega arith) (below_drop next (length stack - 2) stack low)),
      ties_proper walk next (below 2 stack) (below_take next (length stack - 2) stack low) own le room,
    )
    ties_proper (call cs n ∷ walk) next stack low own le room = (
      named_proper names_atom cs (topmost n stack) (below_more next places (topmost n stack) (omega arith) (below_drop next (length stack - n) stack low)),
      ties_proper walk next (below n stack) (below_take next (length stack - n) stack low) own le room,
    )
    ties_proper (close_head p n ∷ walk) next stack low own le room = (
      sole_proper (of_head p) (topmost n stack) (below_more next places (topmost n stack) (omega arith) (below_drop next (length stack - n) stack low)),
      ties_proper walk next (below n stack) (below_take next (length stack - n) stack low) own le room,
    )

  below_at : (ps : List ℕ) (k d : ℕ) → AllBelow places ps → k < length ps → get_or ps k d < places
  below_at [] k d low lt = let none : ⊥ = omega arith in absurd none
  below_at (p ∷ ps) zero d low lt = low.0
  below_at (p ∷ ps) (suc k) d low lt = below_at ps k d low.1 (omega arith)

  module _ (signatures : List Signature) where
    step_proper : (s : Step) (t : Tie) → plain_step signatures s ≡ plain_tie P D t → ProperTie t → Proper signatures places s
    step_proper s t e proper =
        let same = same_places P D signatures s t e in
        let many = as_many P D signatures s.candidates.items t.meanings (same_candidates P D signatures s t e) in
        let low : AllBelow places s.places.items = subst (λ ps. AllBelow places ps) (sym same) proper.low in
        record {
          places_there = λ k d lt. below_at s.places.items k d low lt;
          candidates_there = λ c lt. (found_at P D signatures s t e c (omega (arith, many))).there;
          same_length = λ c d lt.
              let in_range : c < length t.meanings = omega (arith, many) in
              let f = found_at P D signatures s t e c in_range in
              let long = proper.long c in_range in
              ap length same ∙ sym long ∙ sym (ap (λ (x : Declared). length x.types) f.plain) ∙ length-map f.signature.types.items plain_type ∙ sym (ap (λ (x : Signature). length x.types.items) (f.is d));
        }

    pub all_proper : (steps : List Step) (ties : List Tie) → AreTies P D signatures steps ties → AllProperTies ties → AllProper signatures places steps
    all_proper [] ties e proper k d lt = let none : ⊥ = omega arith in absurd none
    all_proper (s ∷ steps) [] e proper k d lt = let no = ties_length P D signatures (s ∷ steps) [] e in let none : ⊥ = omega (arith, no) in absurd none
    all_proper (s ∷ steps) (t ∷ ties) e proper zero d lt = step_proper s t (first_is P D signatures s steps t ties e) proper.0
    all_proper (s ∷ steps) (t ∷ ties) e proper (suc k) d lt = all_proper steps ties (others_are P D signatures s steps t ties e) proper.1 k d (omega arith)
