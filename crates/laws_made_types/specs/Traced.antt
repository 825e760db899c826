-- The walk of a clause with the types of the occurrences of its names, numbers and texts. (Mercury
-- Language Reference Manual: Types; this project's profile: the walk.)
use Rattle.std.specs.Prelude.{◌≡◌, ℕ, suc, List, [], ◌∷◌, ◌++◌, Contains}
use Rattle.mc_program.specs.Programs.{TypeTerm, int_type, string_type, Source}
use Rattle.mc_accepted.specs.ProperTypes.{Parameters}
use Rattle.mc_accepted.specs.Resolving.{Step, push_variable, push_number, push_text, choose, equate, call, close_head, NamesTerm, NamesAtom, Takes, topmost, below}
use Rattle.mc_source.specs.declared.name.Candidate.{Candidate}

module _ (P : Source) (D : Parameters) where
  -- The picks type the steps from a stack on, as a walk does, where τ gives the types of the clause's
  -- variables, and `trace` those of the occurrences in these steps, in order.
  abbrev pub Traces :
      (τ : ℕ → TypeTerm)
      → List Step
      → (stack : List TypeTerm)
      → (picks : List Candidate) → (trace : List TypeTerm) → Type 0
  Traces τ [] stack picks trace = (picks ≡ []) × (trace ≡ [])
  Traces τ (push_variable v ∷ steps) stack picks trace =
      Traces τ steps (stack ++ τ v ∷ []) picks trace
  Traces τ (push_number ∷ steps) stack picks trace =
      (more : List TypeTerm)
      × (trace ≡ int_type ∷ more)
      × Traces τ steps (stack ++ int_type ∷ []) picks more
  Traces τ (push_text ∷ steps) stack picks trace =
      (more : List TypeTerm)
      × (trace ≡ string_type ∷ more)
      × Traces τ steps (stack ++ string_type ∷ []) picks more
  Traces τ (choose cs n ∷ steps) stack [] trace = ⊥
  Traces τ (choose cs n ∷ steps) stack (c ∷ picks) trace =
      Contains cs c
      × NamesTerm c
      × (t : TypeTerm)
      × (more : List TypeTerm)
      × (trace ≡ t ∷ more)
      × Takes P D c (topmost n stack ++ t ∷ [])
      × Traces τ steps (below n stack ++ t ∷ []) picks more
  Traces τ (equate ∷ steps) stack picks trace =
      (t : TypeTerm)
      × (topmost 2 stack ≡ t ∷ t ∷ [])
      × Traces τ steps (below 2 stack) picks trace
  Traces τ (call cs n ∷ steps) stack [] trace = ⊥
  Traces τ (call cs n ∷ steps) stack (c ∷ picks) trace =
      Contains cs c
      × NamesAtom c
      × Takes P D c (topmost n stack)
      × Traces τ steps (below n stack) picks trace
  Traces τ (close_head p n ∷ steps) stack picks trace =
      (topmost n stack ≡ (P.preds p).types) × Traces τ steps (below n stack) picks trace

-- the variables from n on have these types
abbrev pub HasTypes : (ℕ → TypeTerm) → ℕ → List TypeTerm → Type 0
HasTypes T n [] = Unit {0}
HasTypes T n (t ∷ ts) = (T n ≡ t) × HasTypes T (suc n) ts
