-- The terms that write types, one behind another.
use Rattle.std.proofs.Common.{◌≡◌, List, [], ◌∷◌, ◌++◌, map, length, refl, ap, arith}
use Rattle.mc_term_data.specs.Plain.{PlainTerm, plain_term, term_list, more_terms}
use Rattle.mc_term_data.specs.Names.{count}
use Rattle.mc_term_data.specs.declared.term.Term.{Term}
use Rattle.mc_clauses.specs.Unresolved.{and_result}
use Rattle.mc_declarations.specs.Declarations.{without_mode, without_modes}

pub without_each :
    (ts : List Term)
    → term_list (map (λ t. without_mode (plain_term t)) ts) ≡ without_modes (term_list (map plain_term ts))
without_each [] = refl
without_each (t ∷ ts) = ap (more_terms (without_mode (plain_term t))) (without_each ts)

pub result_last : (ts : List PlainTerm) (r : PlainTerm) → term_list (ts ++ r ∷ []) ≡ and_result (term_list ts) r
result_last [] r = refl
result_last (t ∷ ts) r = ap (more_terms t) (result_last ts r)

pub count_terms : (ts : List Term) → count (term_list (map plain_term ts)) ≡ length ts
count_terms [] = refl
count_terms (t ∷ ts) = let e = count_terms ts in omega arith
