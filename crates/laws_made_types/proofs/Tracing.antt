-- A walk goes through where some types of its occurrences go with it.
use Rattle.std.proofs.Common.{ℕ, List, [], ◌∷◌, ◌++◌, refl}
use Rattle.mc_program.specs.Programs.{TypeTerm, int_type, string_type, Source}
use Rattle.mc_accepted.specs.ProperTypes.{Parameters}
use Rattle.mc_accepted.specs.Resolving.{Step, push_variable, push_number, push_text, choose, equate, call, close_head, Walks, below}
use Rattle.mc_source.specs.declared.name.Candidate.{Candidate}
use Rattle.laws_made_types.specs.Traced.{Traces}
use Rattle.laws_made_types.specs.MadeTypes.{WalksHaveTraces}

module _ (P : Source) (D : Parameters) (τ : ℕ → TypeTerm) where
  pub has_trace : (steps : List Step) (stack : List TypeTerm) (picks : List Candidate) → Walks P D τ steps stack picks → (trace : List TypeTerm) × Traces P D τ steps stack picks trace
  has_trace [] stack picks w = ([], (w, refl))
  has_trace (push_variable v ∷ steps) stack picks w = has_trace steps (stack ++ τ v ∷ []) picks w
  has_trace (push_number ∷ steps) stack picks w = let r = has_trace steps (stack ++ int_type ∷ []) picks w in (int_type ∷ r.0, (r.0, refl, r.1))
  has_trace (push_text ∷ steps) stack picks w = let r = has_trace steps (stack ++ string_type ∷ []) picks w in (string_type ∷ r.0, (r.0, refl, r.1))
  has_trace (choose cs n ∷ steps) stack [] w = absurd w
  has_trace (choose cs n ∷ steps) stack (c ∷ picks) w = let r = has_trace steps (below n stack ++ w.2 ∷ []) picks w.4 in (w.2 ∷ r.0, (w.0, w.1, w.2, r.0, refl, w.3, r.1))
  has_trace (equate ∷ steps) stack picks w = let r = has_trace steps (below 2 stack) picks w.2 in (r.0, (w.0, w.1, r.1))
  has_trace (call cs n ∷ steps) stack [] w = absurd w
  has_trace (call cs n ∷ steps) stack (c ∷ picks) w = let r = has_trace steps (below n stack) picks w.3 in (r.0, (w.0, w.1, w.2, r.1))
  has_trace (close_head p n ∷ steps) stack picks w = let r = has_trace steps (below n stack) picks w.1 in (r.0, (w.0, r.1))

  pub goes_through : (steps : List Step) (stack : List TypeTerm) (picks : List Candidate) (trace : List TypeTerm) → Traces P D τ steps stack picks trace → Walks P D τ steps stack picks
  goes_through [] stack picks trace w = w.0
  goes_through (push_variable v ∷ steps) stack picks trace w = goes_through steps (stack ++ τ v ∷ []) picks trace w
  goes_through (push_number ∷ steps) stack picks trace w = goes_through steps (stack ++ int_type ∷ []) picks w.0 w.2
  goes_through (push_text ∷ steps) stack picks trace w = goes_through steps (stack ++ string_type ∷ []) picks w.0 w.2
  goes_through (choose cs n ∷ steps) stack [] trace w = absurd w
  goes_through (choose cs n ∷ steps) stack (c ∷ picks) trace w = (w.0, w.1, w.2, w.5, goes_through steps (below n stack ++ w.2 ∷ []) picks w.3 w.6)
  goes_through (equate ∷ steps) stack picks trace w = (w.0, w.1, goes_through steps (below 2 stack) picks trace w.2)
  goes_through (call cs n ∷ steps) stack [] trace w = absurd w
  goes_through (call cs n ∷ steps) stack (c ∷ picks) trace w = (w.0, w.1, w.2, goes_through steps (below n stack) picks trace w.3)
  goes_through (close_head p n ∷ steps) stack picks trace w = (w.0, goes_through steps (below n stack) picks trace w.1)

pub walks_have_traces : WalksHaveTraces
walks_have_traces P D τ steps stack picks = (has_trace P D τ steps stack picks, λ h. goes_through P D τ steps stack picks h.0 h.1)
