-- What definitions by cases say of slices by their length.
use Rattle.std.proofs.Common.{◌≡◌, ℕ, List, [], ◌∷◌, None, length, map, refl, arith, ◌≤◌, ◌<◌, ◌+◌, drop, get_or, drop-cons, add-one, ◌∙◌, take, zero, suc, ◌-◌}
use Rattle.mc_term_data.specs.Plain.{plain_term, term_list}
use Rattle.std.proofs.Math.Seq.{take-nil, drop-nil}
use denote.Param.Weighed.{most}
use Rattle.mc_term_data.specs.declared.term.Term.{Term, size-Term}
use Rattle.mc_clause_syntax.specs.StateVariables.{one_variable}

pub no_one_variable : (ts : List Term) → 2 ≤ length ts → None ≡ one_variable (term_list (map plain_term ts))
no_one_variable [] h = absurd (omega arith)
no_one_variable (t ∷ []) h = absurd (omega arith)
no_one_variable (t ∷ u ∷ ts) h = refl

-- what is left of a slice at an element of it
pub drop_item : (ts : List Term) (i : ℕ) (t : Term) → i < length ts → t ≡ get_or ts i t → drop i ts ≡ t ∷ drop (i + 1) ts
drop_item ts i t h e = drop-cons ts i t h ∙ rw (add-one, ← e) refl

-- no part of a slice is larger than the slice
pub most_take : (n : ℕ) (ts : List Term) → most size-Term (take n ts) ≤ most size-Term ts
most_take n [] = rw take-nil (omega arith)
most_take zero (t ∷ ts) = omega arith
most_take (suc n) (t ∷ ts) = omega (arith, most_take n ts)

pub most_drop : (n : ℕ) (ts : List Term) → most size-Term (drop n ts) ≤ most size-Term ts
most_drop n [] = rw drop-nil (omega arith)
most_drop zero (t ∷ ts) = omega arith
most_drop (suc n) (t ∷ ts) = omega (arith, most_drop n ts)

-- behind its first element a slice is no larger
pub most_rest : (ts : List Term) → most size-Term (take (length ts - 1) (drop 1 ts)) ≤ most size-Term ts
most_rest ts = omega (arith, most_take (length ts - 1) (drop 1 ts), most_drop 1 ts)
